use Rattle.facts_main.proofs.PartFacts.{parts}
use Rattle.facts_main.proofs.laws.part_laws.Goals as goal

pub returns : goal.returns
returns c = record { parts = λ k p. (parts k p).shown; whole = λ k p decoder stack u32 dyn. (parts k p).zeros (decoder, stack, u32, dyn) }
