-- Of accesses that fit, put in order, the word before each is that of the one before, or zeros.
use Rattle.facts_memory.proofs.Words.{◌≡◌, ℕ, suc, ◌<◌, inl, inr, List, length, slice_index_or, refl, sym, ap, subst, ◌∙◌, arith, cond, Some}
use Rattle.facts_memory.proofs.Words.{Bool, false, true, cases_lt, get_or_default, get_or_past, Contains-get_or, Contains-permutation, IsPermutation-sym, zero_word}
use Rattle.facts_memory.proofs.Words.{Access, Contains, IsEarlier, IsWordBefore, last, never, is_at, access_key, word_behind}
use Rattle.facts_memory.proofs.Keys.{earlier_before, right_before}
use Rattle.facts_memory.proofs.RowOrder.{at_same, place_is}
use Rattle.facts_memory.proofs.SortedKeys.{IsInOrder, shown_at, strict}

member : (accesses : List Access) (i : ℕ) (a other : Access) → slice_index_or accesses i a ≡ other → IsEarlier a other → Contains accesses other
member accesses i a other e earlier = elim (cases_lt i (length accesses)) [
  | inl h ↦ subst (Contains accesses) e (Contains-get_or accesses i a h)
  | inr past ↦
      let same = ap (λ (b : Access). b.clk) (sym (get_or_past accesses i a past) ∙ e) in
      let less = earlier.clk in absurd (omega (arith, same, less))
]

module _ (accesses sorted : List Access) (o : IsInOrder accesses sorted) (d : Access) where
  -- an earlier access of the place of one stands among them
  place_of : (q i : ℕ) (other : Access) → slice_index_or accesses i (slice_index_or sorted q d) ≡ other → IsEarlier (slice_index_or sorted q d) other
      → (r : ℕ) × (r < length sorted) × (slice_index_or sorted r d ≡ other)
  place_of q i other e earlier =
      let at = Contains-permutation accesses sorted other o.moved (member accesses i (slice_index_or sorted q d) other e earlier) in
      (at.0, at.1, get_or_default sorted at.0 d other at.1 ∙ at.2)

  -- a sorted access is one of the accesses
  found : (q : ℕ) (a : Access) → q < length sorted → (k : ℕ) × (slice_index_or accesses k a ≡ slice_index_or sorted q d)
  found q a h =
      let at =
      Contains-permutation sorted accesses (slice_index_or sorted q d) (IsPermutation-sym accesses sorted o.moved)
      (Contains-get_or sorted q d h) in
      (at.0, get_or_default accesses at.0 a (slice_index_or sorted q d) at.1 ∙ at.2)

  -- ---- the word before

  pub first_word : 0 < length sorted → (word : List ℕ) → IsWordBefore accesses (slice_index_or sorted 0 d) word → word ≡ zero_word
  first_word h word (never none) = refl
  first_word h word (last i other e earlier most) =
      let r = place_of 0 i other e earlier in
      let less = earlier_before (λ i. slice_index_or sorted i d) (length sorted) (strict accesses sorted o d) 0 r.0 h r.1
      (subst (IsEarlier (slice_index_or sorted 0 d)) (sym r.2) earlier) in
      absurd (omega (arith, less))

  pub next_word : (q : ℕ) → suc q < length sorted → (word : List ℕ) → IsWordBefore accesses (slice_index_or sorted (suc q) d) word
      → word ≡ word_behind (Some (slice_index_or sorted q d)) (slice_index_or sorted (suc q) d)
  next_word q h = go
    where
      p : Access
      p = slice_index_or sorted q d

      a : Access
      a = slice_index_or sorted (suc q) d

      k : (k : ℕ) × (slice_index_or accesses k a ≡ p)
      k = found q a (omega (arith, h))

      go : (word : List ℕ) → IsWordBefore accesses a word → word ≡ word_behind (Some p) a
      go word (never none) = by (is_at p a.ctx a.addr) refl
        where
          by : (t : Bool) → is_at p a.ctx a.addr ≡ t → zero_word ≡ cond t p.word zero_word
          by true at =
              let place = place_is p a.ctx a.addr at in
              let c = place.0 in
              let l = place.1 in
              let grows : access_key p < access_key a = strict accesses sorted o d q h in
              absurd (none k.0 p k.1 (record { ctx = c; addr = l; clk = omega (arith, c, l, grows) }))
          by false apart = refl
      go word (last i other e earlier most) =
          let r = place_of (suc q) i other e earlier in
          let b = right_before (λ i. slice_index_or sorted i d) (length sorted) (strict accesses sorted o d)
          (λ i h. (shown_at accesses sorted o d i h).limits.addr_small) (λ i h. (shown_at accesses sorted o d i h).limits.clk_small) q r.0 h r.1
          (subst (IsEarlier a) (sym r.2) earlier) in
          elim b.1 [
            | inl same ↦
                ap (λ (b : Access). b.word) (sym r.2 ∙ ap (λ n. slice_index_or sorted n d) same)
                ∙ sym (ap (λ t. cond t p.word zero_word) (at_same p a.ctx a.addr b.0.ctx b.0.addr))
            | inr less ↦
                let clk = ap (λ (b : Access). b.clk) r.2 in let le = most k.0 p k.1 b.0 in absurd (omega (arith, less, clk, le))
          ]
