-- The digests that a run's syscalls call are words of the kernel.
use Rattle.complete_rows.proofs.Words
use Words.{◌≡◌, ℕ, suc, ◌<◌, All, Bool, true, false, ◌||◌, nat_eq, if◌then◌else◌, List, [], ◌∷◌, ◌++◌, length, take, refl, sym, ◌∙◌, subst, arith}
use Words.{slice_index_or, All-cons, All-nil, Core, State, zero_word, IsAllowed, Mark, StartSyscall, Do, IsWholeMark, hash_of, op_of_mark, Task, is_op, Event}
use Words.{AreLinked, Decoder, calls_of}
use Words.ops
use Words.chains
use Rattle.std.proofs.Common.{Equal, Less, Greater}
use Rattle.std.specs.Cmp.Lexicographic.{slice_cmp, texts_ties}
use Rattle.std.specs.List.{list_any}
use Rattle.std.specs.Ordering.{is_eq, nat_cmp}
use Rattle.std.proofs.lemmas.Map.Lookups.{exact_bytes}
use lib.Pointwise.{pointwise}
use Rattle.complete_rows.proofs.BlockLemmas.{no_block}
use Rattle.complete_rows.proofs.MomentFacts.{advice_of, moment_allowed}

-- equal element by element is the same word
same_word : (t u : List ℕ) → pointwise nat_eq t u ≡ true → t ≡ u
same_word t u h =
    exact_bytes t u (elim (slice_cmp nat_cmp t u) as (λ r. is_eq r ≡ true → r ≡ Equal)
    [ Less ↦ λ e. cc | Equal ↦ λ e. refl | Greater ↦ λ e. cc ] (sym (texts_ties t u) ∙ h))

-- a word of a list
abbrev pub IsWordOf : List (List ℕ) → List ℕ → Type 0
IsWordOf kernel word = (i : ℕ) × (i < length kernel) × (slice_index_or kernel i [] ≡ word)

word_later : (w : List ℕ) (kernel : List (List ℕ)) (word : List ℕ) → IsWordOf kernel word → IsWordOf (w ∷ kernel) word
word_later w kernel word (i, low, is) = (suc i, omega (arith, low), is)

word_of : (kernel : List (List ℕ)) (callee : List ℕ) → list_any (pointwise nat_eq callee) kernel ≡ true → IsWordOf kernel callee
word_of [] callee is = cc
word_of (w ∷ kernel) callee is = go (pointwise nat_eq callee w) refl (λ found. word_of kernel callee found) is
  where
    go : (b : Bool) → pointwise nat_eq callee w ≡ b → (list_any (pointwise nat_eq callee) kernel ≡ true → IsWordOf kernel callee)
        → b || list_any (pointwise nat_eq callee) kernel ≡ true → IsWordOf (w ∷ kernel) callee
    go true same later found = (0, omega arith, sym (same_word callee w same))
    go false apart later found = word_later w kernel callee (later found)

taken_word : (callee : List ℕ) → length callee ≡ 4 → take 4 (callee ++ zero_word) ≡ callee
taken_word (a ∷ b ∷ c ∷ d ∷ []) size = refl
taken_word callee size = absurd (omega (arith, size))

abbrev called : Mark → List (List ℕ)
called mark = if is_op (op_of_mark mark) ops.Syscall then take 4 (hash_of mark) ∷ [] else []

module _ (constants : List ℕ) (kernel : List (List ℕ)) where
  mark_calls : (mark : Mark) (advice : List ℕ) (c : Core) → IsAllowed constants kernel mark advice c → IsWholeMark mark → (words : List (List ℕ))
      → All (IsWordOf kernel) words → All (IsWordOf kernel) (called mark ++ words)
  mark_calls (StartSyscall callee) advice c allowed w words all =
      All-cons (IsWordOf kernel) (take 4 (callee ++ zero_word)) words
      (subst (IsWordOf kernel) (sym (taken_word callee w.size)) (word_of kernel callee allowed.2)) all
  mark_calls (Do item) advice c allowed w words all = rw (no_block item.op w.ordinary).syscall all
  mark_calls mark advice c allowed w words all = all

module _ {constants : List ℕ} {kernel : List (List ℕ)} where
  pub calls_in : {limit : ℕ} {u : State} {todo : List Task} {d : Decoder} {s : State} {events : List Event} {rows : List (List ℕ)}
      → AreLinked constants kernel limit u todo d s events rows → All (IsWordOf kernel) (calls_of events)
  unfolding calls_of
  calls_in (chains.ends e) = All-nil (IsWordOf kernel)
  calls_in (chains.goes m later) = mark_calls constants kernel m.mark (advice_of m) m.s.core (moment_allowed m) m.whole (calls_of m.later) (calls_in later)
