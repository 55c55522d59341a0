use Rattle.std.proofs.Common.{◌≡◌, ◌++◌}
use Rattle.masm_expand.specs.Expansion.{plain, exp_digits}
use Rattle.masm_expand.proofs.powers.add_digits.Given as goal

abbrev pub invariant-loop-place : goal.invariant-loop-place
invariant-loop-place l =
    l.items ++ plain (exp_digits l.place l.exponent) ≡ l.initial.items ++ plain (exp_digits 64 l.exponent)
