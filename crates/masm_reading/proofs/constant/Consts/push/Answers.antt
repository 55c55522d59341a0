use Rattle.masm_reading.proofs.ConstantLemmas.{constant_of-push}
use Rattle.masm_reading.proofs.constant.Consts.push.Goals as goal

pub invariant_of-self-2 : goal.invariant_of-self-2
invariant_of-self-2 c = λ name.
    rw (c.push_reserved.ensures.items, c.reserve.ensures.items, constant_of-push, ← c.self.invariant name, ← c.as_slice.ensures.items)
    (c.in_ok-add_value.ensures.ok name)
