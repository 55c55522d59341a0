use Rattle.std.proofs.Common.{◌∙◌, sym, ap, arith, lit<}
use Rattle.std.proofs.lemmas.List.{get_or_default}
use Rattle.vm_field.specs.Field.{felt_mul}
use Rattle.vm_field.proofs.Inverses.{felt_inv-is_power, felt_mul-felt_inv}
use Rattle.vm_field.proofs.element.Felt.inv.Goals as goal

pub returns-clause-is : goal.returns-clause-is
returns-clause-is c =
    get_or_default c.to_inverse_exponent.result 0 _ _ (omega arith)
    ∙ c.to_inverse_exponent.ensures 0 (lit< tt) ∙ sym (felt_inv-is_power c.args.self c.requires (omega arith))

pub returns-clause-inverse : goal.returns-clause-inverse
returns-clause-inverse c =
    ap (λ x. felt_mul c.args.self x) (returns-clause-is c) ∙ felt_mul-felt_inv c.args.self c.requires (omega arith)
