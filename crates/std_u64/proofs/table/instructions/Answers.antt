use Rattle.std.proofs.Common.{ap, ◌∙◌}
use Rattle.std.specs.List.{list_all}
use Rattle.masm_link.specs.Libraries.{is_plain}
use Rattle.std_u64.proofs.LibraryLemmas.{plain_at, plain_instructions}
use Rattle.std_u64.proofs.table.instructions.Goals as goal

pub instruction-requires : goal.instruction-requires
instruction-requires c =
    plain_at c.steps-table.result.now c.loop-step.step-index _
    (ap (list_all is_plain) c.steps-table.ensures ∙ plain_instructions c.args.procedure) c.loop-step-test.true
