use Rattle.masm_reading.proofs.Digits.{Going}
use Rattle.masm_reading.proofs.number.digits_value.Given as goal

abbrev pub invariant-loop-byte : goal.invariant-loop-byte
invariant-loop-byte l = Going l.base l.value l.digits l.byte-index
