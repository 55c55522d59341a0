-- The words that the proofs of this crate have in common.
pub use Rattle.std.proofs.Common.{Bool, Bor, Contains, Err, List, None, Ok, Option, Result, Some, [], ap, append-nil, append_assoc, ap₂, arith, codes}
pub use Rattle.std.proofs.Common.{decimal, drop, false, get_or, if◌then◌else◌, inl, inr, length, length-append, map, nat_le, nat_lt, not, refl, replicate}
pub use Rattle.std.proofs.Common.{rules, slice_get, slice_index, subst, suc, sym, take, take_all, true, unwrap_or, zero, ℕ, ◌&&◌, ◌++◌, ◌+◌, ◌-◌, ◌<◌, ◌^◌}
pub use Rattle.std.proofs.Common.{◌||◌, ◌∙◌, ◌∷◌, ◌≡◌, ◌≢◌, ◌≤◌, ◌⊎◌}
pub use Rattle.std.proofs.lemmas.Bool.{and_parts, false≢true}
pub use Rattle.std.proofs.lemmas.Bool.Decides.{nat_tests}
pub use Rattle.std.proofs.lemmas.List.{append_cancel_left, length-map, length-replicate, length_push}
pub use Rattle.std.proofs.lemmas.Slice.Eq.{bytes_eq-Decides}
pub use Rattle.std.specs.FinMap.{get, insert}
pub use Rattle.std.specs.List.{AllByRecursion, flat_map, join_with_byte, list_all, list_any}
pub use Rattle.std.specs.Option.{IfSome, IsSomeAnd, ok_or, option_copied, option_map}
pub use Rattle.std.specs.Str.{all_ascii_digits, bytes_eq}
pub use Rattle.std_u64.specs.Libraries.{u64_library}
pub use Rattle.air_kit.specs.declared.trace.Public.{Public}
pub use Rattle.air_kit.specs.declared.trace.Trace.{Trace}
pub use Rattle.block_tree.specs.TreeView.{tree_of}
pub use Rattle.block_tree.specs.declared.program.Program.{Program}
pub use Rattle.cmd_kit.specs.Asked.{MadeNames, Outputs, assemble, chain, check, check_source, hash, make, member, runs}
unfoldable pub use Rattle.cmd_kit.specs.Asked.{asked}
pub use Rattle.cmd_kit.specs.AssembleSteps.{assemble_steps}
pub use Rattle.cmd_kit.specs.ChainSteps.{ChainLink, chain_from, chain_given, chain_link, chain_steps, claimed_steps, follows_on, judged_steps, link_steps}
pub use Rattle.cmd_kit.specs.CheckEnds.{IsEvidenceFor, IsVerdictFor, IsWhy, accepted_line}
pub use Rattle.cmd_kit.specs.CheckSourceEnds.{IsBuild, IsSourceEvidenceFor, accepted_source_line, other_program_line, ran_line}
pub use Rattle.cmd_kit.specs.CheckSourceSteps.{building_steps, built_steps, check_source_steps, held_steps, sourced_steps, with_source_steps}
pub use Rattle.cmd_kit.specs.CheckSteps.{check_steps, found_steps, judging_steps}
pub use Rattle.cmd_kit.specs.Commands.{EndsAs, Finds, IsRight, steps_of}
pub use Rattle.cmd_kit.specs.Completeness.{BeginsWith, FileSays, FollowsOn, GoodIsOk, HoldsKernel, HoldsSource, IsAcceptedFor, IsFault, IsGood}
pub use Rattle.cmd_kit.specs.Completeness.{IsGoodAssembly, IsGoodChain, IsGoodCheck, IsGoodHash, IsGoodMake, IsGoodMember, IsGoodRun, IsGoodRuns}
pub use Rattle.cmd_kit.specs.Completeness.{IsGoodSourceCheck, LinkRuns, LinkSays, LinksRun, LinksSay, MayGoOn, OneVerdict}
pub use Rattle.cmd_kit.specs.HashSteps.{hash_steps, numbers_steps}
pub use Rattle.cmd_kit.specs.Links.{broken, broken_line, line_of_link, list_steps, most_list_bytes, with_lines}
pub use Rattle.cmd_kit.specs.MakeSteps.{made_course_steps, made_given, made_source, make_steps, making_steps}
pub use Rattle.cmd_kit.specs.Malformed.{bad_inputs, malformed_line, malformed_text_line}
pub use Rattle.cmd_kit.specs.MemberSteps.{member_line, member_steps, walked_steps}
pub use Rattle.cmd_kit.specs.RunEnds.{IsCourse, halted, outcome_of, run_lines, trapped, unended}
pub use Rattle.cmd_kit.specs.RunSteps.{course_steps, run_steps, running_steps}
pub use Rattle.cmd_kit.specs.RunsNames.{AreLinksApart, IsBeside, IsUnwritten}
pub use Rattle.cmd_kit.specs.RunsSteps.{RunLink, given_steps, has_no_cells, is_none_left, left_steps, link_course_steps, link_running_steps, links_lines}
pub use Rattle.cmd_kit.specs.RunsSteps.{run_link, run_link_steps, runs_from, runs_given, runs_steps}
pub use Rattle.cmd_kit.specs.Serving.{ComesWhere, Concludes, GivesUp, Passes, Prints, ServesAs, Works, past_finding, past_read, past_write}
pub use Rattle.cmd_kit.specs.SourceEnds.{AssemblesFiles}
pub use Rattle.cmd_kit.specs.Starts.{inputs_steps, kernel_steps, most_inputs_bytes, most_params_bytes, params_steps, source_steps, statement_steps}
pub use Rattle.cmd_kit.specs.Starts.{trace_steps, with_inputs, with_params, with_statement, with_trace}
pub use Rattle.cmd_kit.specs.Statuses.{StatusKind, failed_print, failed_read, failed_write, kind_of, no_command, planned}
pub use Rattle.cmd_kit.specs.Steps.{Build, Course, End, Finding, Judged, Question, Right, SourceFile, Steps, Verdict, accepted, asking, assembly, built}
pub use Rattle.cmd_kit.specs.Steps.{chain_evidence, checked, course, ending, ends_with, named_line, ran, reading, sourced, stop, telling, writing}
pub use Rattle.cmd_kit.specs.declared.answer.Answer.{Answer}
pub use Rattle.cmd_kit.specs.declared.status.Status.{Status}
pub use Rattle.complete_rows.specs.BlockRows.{IsWholeRun, filled}
pub use Rattle.fill_files.proofs.AcceptedLemmas.{files_accepted}
pub use Rattle.fill_files.specs.RunFiles.{IsStatementFileOf, IsTableFileOf, claim_of_run, most_statement_bytes, most_table_bytes}
pub use Rattle.masm_link.proofs.OneAnswer.{one_program}
pub use Rattle.merkle_lib.specs.Programs.{walk_tree}
pub use Rattle.rpo_hash.specs.Constants.{constants_of}
pub use Rattle.rpo_hash.specs.ParamText.{parameters_of}
pub use Rattle.rpo_hash.specs.declared.params.ParamError.{ParamError}
pub use Rattle.run_chain.proofs.TextLemmas.{reads-its-text}
pub use Rattle.run_chain.specs.Following.{first_stack}
pub use Rattle.run_chain.specs.ListText.{IsLine, IsList, line_text, list_text}
pub use Rattle.run_chain.specs.Lists.{Links, links_of}
pub use Rattle.run_chain.specs.declared.naming.Role.TheVariants.{Input, Output}
pub use Rattle.source_check.proofs.SourceLemmas.{ran-is-source}
pub use Rattle.source_check.specs.declared.evidence.SourceEvidence.{SourceEvidence}
pub use Rattle.source_check.specs.declared.evidence.SourceEvidence.TheVariants.{ClashFile, ClashNode, Ran}
pub use Rattle.statement.specs.Inputs.{Given, inputs_of, inputs_text}
pub use Rattle.statement.specs.Statements.{Stated, stated_of}
unfoldable pub use Rattle.statement.specs.Statements.{statement_of}
pub use Rattle.statement.specs.declared.refusal.TextCause.{TextCause}
pub use Rattle.statement.specs.declared.refusal.TextCause.TheVariants.{Count, Digest, Element, NotJson, Repeated, Shape}
pub use Rattle.table_file.specs.Files.{AreTables, trace_of}
pub use Rattle.table_file.specs.declared.cause.FileError.{FileError}
pub use Rattle.vm_field.specs.FileName.{is_file_name}
pub use Rattle.vm_field.specs.Limits.{least_depth, most_cycles, most_inputs, most_kernel, most_name_bytes, most_outputs, most_source_bytes}
pub use Rattle.vm_field.specs.Limits.{number_of_constants}
pub use Rattle.vm_field.specs.Machine.{State}
unfoldable pub use Rattle.vm_field.specs.Machine.{start}
pub use Rattle.vm_io.proofs.ShelfLemmas.{get_beside, get_put, kept_whole}
pub use Rattle.vm_io.specs.Shelf.{Files, ShelfState, with_file}
pub use Rattle.vm_io.specs.Sink.{SinkState, with_piece}
pub use Rattle.workloads.specs.Workloads.{most_turns, source_text, squares}
