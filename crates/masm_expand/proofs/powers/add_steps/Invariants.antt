use Rattle.std.proofs.Common.{◌≡◌, ◌++◌, drop}
use Rattle.std.specs.List.{flat_map}
use Rattle.masm_expand.specs.Expansion.{pow2_step}
use Rattle.masm_expand.proofs.powers.add_steps.Given as goal

abbrev pub invariant-loop-less : goal.invariant-loop-less
invariant-loop-less l =
    l.items ++ flat_map pow2_step (drop l.less-index l.factors) ≡ l.initial.items ++ flat_map pow2_step l.factors
