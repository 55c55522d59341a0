use Rattle.std.proofs.Common.{◌∙◌, ap, sym}
use Rattle.vm_field.specs.Field.{felt_mul}
use Rattle.air_decoder.proofs.QuickLemmas.{low_place, over_clean, push_clean, some_clean}
use Rattle.air_decoder.proofs.quick.is_group_clean.Goals as goal

pub returns-then-is_one : goal.returns-then-is_one
returns-then-is_one g c = λ is.
    some_clean _ _ _ _ c.rest-left.ensures c.one-push.ensures c.requires.inside (low_place _ _ _ c.value.ensures.is c.ox.ensures.is c.if-value-gt8.false)
    (sym (c.mul.ensures ∙ ap (felt_mul c.rest-left.result) c.w3.ensures.is) ∙ c.is_one.ensures.0 c.if-is_one.true) (c.is_going_on.ensures is)

pub returns-then-is_one-2 : goal.returns-then-is_one-2
returns-then-is_one-2 g c = λ is.
    push_clean _ _ _ _ c.rest-left.ensures c.one-push.ensures c.requires.inside (low_place _ _ _ c.value.ensures.is c.ox.ensures.is c.if-value-gt8.false)
    (c.is_zero.ensures.0 c.if-is_zero.true) (c.is_one-then-is_zero.ensures.0 c.if-is_one-2.true) (c.is_going_on-then-is_one-2.ensures is)

pub returns-then-is_zero-2 : goal.returns-then-is_zero-2
returns-then-is_zero-2 g c = λ is.
    over_clean _ _ _ _ c.rest-left.ensures c.one-push.ensures c.requires.inside (low_place _ _ _ c.value.ensures.is c.ox.ensures.is c.if-value-gt8.false)
    (c.is_zero.ensures.0 c.if-is_zero.true) (c.is_zero-else-is_one-2.ensures.0 c.if-is_zero-2.true) (c.is_over.ensures is)
