use Rattle.std.proofs.Common.{arith}
use Rattle.masm_expand.proofs.Joined.{more_digits, no_digits}
use Rattle.masm_expand.proofs.powers.add_digits.Goals as goal

pub loop-place-preserved : goal.loop-place-preserved
loop-place-preserved c =
    more_digits c.loop-place.items c.add_digit.new.items _ c.args.exponent c.loop-place.place
    (omega arith) c.in_ok-add_digit.ensures c.loop-place.invariant

pub returns : goal.returns
returns c = no_digits c.loop-place.items _ c.args.exponent c.loop-place.place (omega arith) c.loop-place.invariant
