-- The order of memory places is total, and ties a place with itself alone; so a word that is written is read there
-- and nowhere else.
use Rattle.std.proofs.Common.{◌≡◌, ◌≢◌, ◌⊎◌, inl, inr, ℕ, List, Some, Bool, true, false, nat_eq, refl, sym, ap, ap₂, subst, ◌∙◌, cond, Ordering, Less, Equal, Greater, unwrap_or}
use Rattle.std.proofs.lemmas.Bool.{eqb-true, eqb-false}
use Rattle.std.specs.Cmp.{IsTotalOrder}
use Rattle.std.specs.FinMap.{IsAntisymmetric, nat_cmp-IsAntisymmetric, empty, get, insert, get-empty, get-insert}
use Rattle.std.specs.Ordering.{nat_cmp, ordering_then, is_eq}
use Rattle.std.proofs.lemmas.Cmp.{nat_cmp_total, on_total, then_total, tied_itself}
use Rattle.vm_field.specs.Machine.{place_cmp, IsWord, WordMap, word_at, zero_word}
use Rattle.vm_field.proofs.Elements.{word-zero}

pub place_cmp_total : IsTotalOrder place_cmp
place_cmp_total = then_total (on_total (λ (p : ℕ × ℕ). p.0) nat_cmp_total) (on_total (λ (p : ℕ × ℕ). p.1) nat_cmp_total)

both_tied : (o p : Ordering) → ordering_then o p ≡ Equal → (o ≡ Equal) × (p ≡ Equal)
both_tied Less p e = cc
both_tied Equal p e = (refl, e)
both_tied Greater p e = cc

pub place_cmp-IsAntisymmetric : IsAntisymmetric place_cmp
place_cmp-IsAntisymmetric a b e =
    let tied : (nat_cmp a.0 b.0 ≡ Equal) × (nat_cmp a.1 b.1 ≡ Equal) = both_tied (nat_cmp a.0 b.0) (nat_cmp a.1 b.1) e in
    ap₂ (λ (x y : ℕ). (x, y)) (nat_cmp-IsAntisymmetric a.0 b.0 tied.0) (nat_cmp-IsAntisymmetric a.1 b.1 tied.1)

-- a word that was written is read at its place
pub word_at-insert_same : (memory : WordMap) (context address : ℕ) (word : List ℕ)
    → word_at (insert memory (context, address) word) context address ≡ word
word_at-insert_same memory context address word =
    ap (λ o. unwrap_or o zero_word)
    (get-insert place_cmp_total memory (context, address) word (context, address)
    ∙ ap (λ o. cond (is_eq o) (Some word) (get memory (context, address))) (tied_itself place_cmp_total (context, address)))

apart : (a b : ℕ × ℕ) → a ≢ b → is_eq (place_cmp a b) ≡ false
apart a b differ = go (place_cmp a b) refl
  where
    go : (o : Ordering) → place_cmp a b ≡ o → is_eq o ≡ false
    go Less e = refl
    go Equal e = absurd (differ (place_cmp-IsAntisymmetric a b e))
    go Greater e = refl

-- and leaves each other place as it was
pub word_at-insert_other : (memory : WordMap) (place : ℕ × ℕ) (word : List ℕ) (context address : ℕ) → (context, address) ≢ place
    → word_at (insert memory place word) context address ≡ word_at memory context address
word_at-insert_other memory place word context address differ =
    ap (λ o. unwrap_or o zero_word)
    (get-insert place_cmp_total memory place word (context, address)
    ∙ ap (λ b. cond b (Some word) (get memory (context, address))) (apart (context, address) place differ))

-- two places are the same or not
pub same_place : (p q : ℕ × ℕ) → (p ≡ q) ⊎ (p ≢ q)
same_place p q = go (nat_eq p.0 q.0) (nat_eq p.1 q.1) refl refl
  where
    go : (m n : Bool) → nat_eq p.0 q.0 ≡ m → nat_eq p.1 q.1 ≡ n → (p ≡ q) ⊎ (p ≢ q)
    go true true e f = inl (ap₂ (λ (x y : ℕ). (x, y)) (eqb-true p.0 q.0 e) (eqb-true p.1 q.1 f))
    go false n e f = inr (λ same. eqb-false p.0 q.0 e (ap (λ (r : ℕ × ℕ). r.0) same))
    go true false e f = inr (λ same. eqb-false p.1 q.1 f (ap (λ (r : ℕ × ℕ). r.1) same))

-- a memory in which nothing was written has words
pub words-empty : (context address : ℕ) → IsWord (word_at empty context address)
words-empty context address =
    subst IsWord (sym (ap (λ o. unwrap_or o zero_word) (get-empty place_cmp (context, address)))) word-zero

-- and so has one in which a word is written
pub words-insert : (memory : WordMap) (place : ℕ × ℕ) (word : List ℕ) → IsWord word
    → ((context address : ℕ) → IsWord (word_at memory context address))
    → (context address : ℕ) → IsWord (word_at (insert memory place word) context address)
words-insert memory place word new old context address =
    elim (same_place (context, address) place) [
      | inl same ↦
          subst (λ p. IsWord (word_at (insert memory p word) context address)) same
          (subst IsWord (sym (word_at-insert_same memory context address word)) new)
      | inr differ ↦ subst IsWord (sym (word_at-insert_other memory place word context address differ)) (old context address)
    ]
