use Rattle.std.proofs.Common.{◌≡◌, ℕ, rules, sym, subst}
use Rattle.std.specs.FinMap.{empty}
use Rattle.vm_field.proofs.Places.{words-empty}
use Rattle.vm_field.specs.Machine.{IsWord, WordMap, word_at}
use Rattle.vm_state.specs.Memory.{words_of}
use Rattle.vm_state.proofs.memory.WordMemory.new.Goals as goal

pub invariant_of-result : goal.invariant_of-result
invariant_of-result c =
    let none : words_of c.new.result.entries ≡ empty = search rules in
    subst (λ (m : WordMap). (context address : ℕ) → IsWord (word_at m context address)) (sym none) words-empty
