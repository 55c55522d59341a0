-- What an operation leaves in memory, and the word that its event shows.
use Rattle.complete_rows.proofs.Words
use Words.{◌≡◌, ◌≢◌, ℕ, true, cond, List, Option, Some, None, unwrap_or, refl, ap, ◌∙◌, State, WordMap, word_at, zero_word, accesses_memory, memory_with}
use Words.{seen_at, written, Item, stepped, Do, top, IsCycle, cycle-step, event_at}
use Rattle.vm_field.proofs.Places.{word_at-insert_other, word_at-insert_same}
use Rattle.vm_ops.specs.Stepping.{Stepped}
use Rattle.block_tree.proofs.RowLemmas.{shown-behind}

-- the place where a word may be written, and the other places
pub word_here : (memory : WordMap) (context address : ℕ) (o : Option (List ℕ))
    → word_at (memory_with memory context address o) context address ≡ unwrap_or o (word_at memory context address)
word_here memory context address None = refl
word_here memory context address (Some word) = word_at-insert_same memory context address word

pub word_elsewhere : (memory : WordMap) (context address : ℕ) (o : Option (List ℕ)) (c a : ℕ) → ◌≢◌ {A = ℕ × ℕ} (c, a) (context, address)
    → word_at (memory_with memory context address o) c a ≡ word_at memory c a
word_elsewhere memory context address None c a apart = refl
word_elsewhere memory context address (Some word) c a apart = word_at-insert_other memory (context, address) word c a apart

module _ {constants : List ℕ} {kernel : List (List ℕ)} {limit : ℕ} {item : Item} {s t : State}
    (cycle : IsCycle constants kernel limit (Do item) s t) where
  done : Stepped constants item s t
  done = stepped constants item s t (cycle-step constants kernel limit item s t cycle)

  pub memory_behind : t.core.memory ≡ memory_with s.core.memory s.core.context (top s.core) (written item.op (seen_at constants item s))
  memory_behind = ap (λ z. z.core.memory) done.is

  -- the word that is written, or the one that stands there
  pub event_word : accesses_memory item.op ≡ true
      → (event_at constants kernel (Do item) s).word ≡ unwrap_or (written item.op (seen_at constants item s)) (seen_at constants item s).word
  event_word is =
      (shown-behind constants kernel limit (Do item) s t cycle).0
      ∙ ap (λ b. cond b (word_at t.core.memory s.core.context (top s.core)) zero_word) is
      ∙ ap (λ memory. word_at memory s.core.context (top s.core)) memory_behind
      ∙ word_here s.core.memory s.core.context (top s.core) (written item.op (seen_at constants item s))
