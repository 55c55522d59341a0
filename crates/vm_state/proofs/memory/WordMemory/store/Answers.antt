use Rattle.std.proofs.Common.{ℕ, sym, subst}
use Rattle.vm_field.proofs.Places.{words-insert}
use Rattle.vm_field.specs.Machine.{IsWord, WordMap, word_at}
use Rattle.vm_state.proofs.MemoryLemmas.{words_of-insert}
use Rattle.vm_state.proofs.memory.WordMemory.store.Goals as goal

pub invariant_of-self-2 : goal.invariant_of-self-2
invariant_of-self-2 c =
    subst (λ (m : WordMap). (context address : ℕ) → IsWord (word_at m context address))
    (sym (words_of-insert c.self.inside.words c.insert.new.self _ _ c.in_ok-insert.ensures.updates))
    (words-insert _ _ _ c.known.ensures c.self.invariant)
