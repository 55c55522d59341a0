use Rattle.std.proofs.Common.{arith}
use Rattle.masm_reading.proofs.Digits.{with_room}
use Rattle.masm_reading.proofs.number.digits_value.Goals as goal

pub overflow_mul-value : goal.overflow_mul-value
overflow_mul-value c =
    omega (arith, with_room c.loop-byte.byte-index c.loop-byte.value c.args.base (omega arith) c.loop-byte.invariant.small c.requires.base)

pub overflow_add-value : goal.overflow_add-value
overflow_add-value c =
    omega (arith, with_room c.loop-byte.byte-index c.loop-byte.value c.args.base (omega arith) c.loop-byte.invariant.small c.requires.base)
