-- The words that the proofs of this crate have in common.
pub use Rattle.block_tree.specs.TreeView.{tree_of}
pub use Rattle.block_tree.specs.declared.program.Program.{Program}
pub use Rattle.cmd_kit.specs.Asked.{Outputs}
pub use Rattle.cmd_kit.specs.Outcomes.{Continues, EndsIn, EndsThere, Loads, SaysStatus}
pub use Rattle.cmd_kit.specs.RunEnds.{IsCourse, IsHalt, ended, halted, limit_line, run_lines, trap_line, trapped, unended}
pub use Rattle.cmd_kit.specs.Sources.{file_of}
pub use Rattle.cmd_kit.specs.declared.outcome.Outcome.{Outcome}
pub use Rattle.cmd_run.specs.Courses.{Came, Halts, Stopped}
pub use Rattle.cmd_run.specs.Linking.{link_from}
pub use Rattle.cmd_run.specs.Naming.{outputs_from}
pub use Rattle.processor.specs.declared.run.Run.{Run}
pub use Rattle.rpo_hash.specs.Constants.{constants_of}
pub use Rattle.rpo_hash.specs.declared.params.Params.{Params}
pub use Rattle.statement.specs.Inputs.{Given, given_of}
pub use Rattle.table_file.specs.Files.{bytes_of}
pub use Rattle.vm_field.specs.Limits.{most_cycles, most_inputs}
pub use Rattle.vm_io.specs.Shelf.{ShelfState}
pub use Rattle.vm_state.specs.Views.{state_of}
