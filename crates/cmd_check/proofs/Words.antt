-- The words that the proofs of this crate have in common.
pub use Rattle.std.proofs.Common.{List, Ok, Option, Some, [], arith, length, map, refl, subst, sym, ℕ, ◌+◌, ◌∙◌, ◌≡◌}
pub use Rattle.air_kit.specs.Acceptance.{IsAccepted}
pub use Rattle.air_kit.specs.declared.trace.Public.{Public}
pub use Rattle.air_kit.specs.declared.trace.Trace.{Trace}
pub use Rattle.block_tree.specs.TreeView.{tree_of}
pub use Rattle.block_tree.specs.declared.evidence.Evidence.{Evidence}
pub use Rattle.block_tree.specs.declared.program.Program.{Program}
pub use Rattle.checker.specs.Refusals.{IsRefusal}
pub use Rattle.checker.specs.declared.refusal.Refused.{Refused}
pub use Rattle.cmd_check.specs.Judging.{EndsHere, GoesOn, LinkGoesOn, TextGrew, judged_of, link_from}
pub use Rattle.cmd_check.specs.Sourcing.{EndsApart, HasFewBlocks, Unbuilt}
pub use Rattle.cmd_kit.proofs.OutcomeLemmas.{says_line}
pub use Rattle.cmd_kit.proofs.ServingLemmas.{goes_past_finding, same_again, says_comes, says_ends, work_ends}
pub use Rattle.cmd_kit.specs.CheckSourceSteps.{building_steps, built_steps, check_source_steps, held_steps, sourced_steps, with_source_steps}
pub use Rattle.cmd_kit.specs.Commands.{IsRight}
pub use Rattle.cmd_kit.specs.Outcomes.{Continues, EndsIn, EndsThere, Loads, SaysStatus}
pub use Rattle.cmd_kit.specs.RefusalLines.{refused_line}
pub use Rattle.cmd_kit.specs.Steps.{SourceFile, Steps, accepted, asking, checked, ending, evidence_for, refused, source_evidence_for, stop, telling}
pub use Rattle.cmd_kit.specs.Steps.{telling_source}
pub use Rattle.cmd_kit.specs.declared.outcome.Outcome.{Outcome}
pub use Rattle.rpo_hash.specs.Constants.{constants_of}
pub use Rattle.statement.specs.EvidenceText.{evidence_text}
pub use Rattle.statement.specs.Statements.{Stated, stated_of}
pub use Rattle.vm_io.specs.Shelf.{ShelfState}
