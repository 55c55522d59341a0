use Rattle.std.proofs.Common.{ℕ, subst}
use Rattle.vm_field.specs.Machine.{IsWord, WordMap, word_at}
use Rattle.vm_state.proofs.memory.WordMemory.known.Goals as goal

pub returns : goal.returns
returns c = subst (λ (m : WordMap). (context address : ℕ) → IsWord (word_at m context address)) c.self.view_is c.self.invariant
