use Rattle.fill_chips.proofs.Words.{rules}
use Rattle.std.proofs.lemmas.List.Sorted.{IsNonDecreasingBy-from_sort_by_key}
use Rattle.facts_memory.specs.Accesses.{access_key}
use Rattle.fill_chips.proofs.memory.sorted.Goals as goal

pub returns-clause-in_order : goal.returns-clause-in_order
returns-clause-in_order c = IsNonDecreasingBy-from_sort_by_key access_key _ c.sort_unstable_by_key.ensures.sorted (λ a r q k. search rules)
