use Rattle.std.proofs.Common.{slice_index_or, ap, ◌∙◌, arith}
use Rattle.vm_field.specs.Field.{felt_pow}
use Rattle.vm_field.proofs.Inverses.{felt_pow-seventh_root}
use Rattle.vm_field.proofs.element.Felt.root7.Goals as goal

pub returns-clause-root : goal.returns-clause-root
returns-clause-root c =
    ap (λ roots. felt_pow (slice_index_or roots 0 c.index-roots7-0.result) 7) c.roots7.ensures
    ∙ felt_pow-seventh_root c.args.self (omega arith)
