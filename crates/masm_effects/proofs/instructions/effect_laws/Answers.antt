use Rattle.masm_expand.specs.Expansion.{expansion}
use Rattle.masm_effects.proofs.Firsts.{traps-first}
use Rattle.masm_effects.proofs.Law.{instruction-effects, instruction-kept}
use Rattle.masm_effects.proofs.instructions.effect_laws.Goals as goal

pub returns : goal.returns
returns c = record {
  effects = instruction-effects;
  kept = instruction-kept;
  causes = λ constants locals s name numbers. traps-first constants (expansion name numbers locals) s;
}
