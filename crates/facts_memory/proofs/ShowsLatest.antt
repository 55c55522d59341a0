-- Of rows in order, each shows the word of the last earlier row of its place.
use Rattle.facts_memory.proofs.Words.{◌≡◌, ℕ, zero, suc, ◌<◌, ◌≤◌, ◌⊎◌, inl, inr, true, false, cond, List, [], length, map, slice_index_or, sym, ap}
use Rattle.facts_memory.proofs.Words.{subst, ◌∙◌, arith, cases_Bool, cases_lt, get_or-map, get_or_past, length-map, zero_word, Access, IsEarlier}
use Rattle.facts_memory.proofs.Words.{IsWordBefore, last, never, Keeps, access_of, is_at, access_key, AreOrdered, AreSmall, HaveLimbs}
use Rattle.facts_memory.proofs.Words.{MemoryIsZero, ShowLatest, access_at}
use Rattle.facts_memory.proofs.Keys.{earlier_before, right_before}
use Rattle.facts_memory.proofs.RowOrder.{at_same, place_is}
use Rattle.facts_memory.proofs.ZerosOrder.{zeros_are_ordered}

module _ (rows : List (List ℕ)) (o : AreOrdered rows) where
  access_in : (j : ℕ) (d : Access) → j < length rows → slice_index_or (map access_of rows) j d ≡ access_at rows j
  access_in j d h = get_or-map access_of rows j [] d h

  -- an earlier access of the place of a row stands in a row
  row_of : (i j : ℕ) (other : Access) → slice_index_or (map access_of rows) j (access_at rows i) ≡ other → IsEarlier (access_at rows i) other
      → (j < length rows) × (access_at rows j ≡ other)
  row_of i j other e earlier = elim (cases_lt j (length rows)) [
    | inl h ↦ (h, sym (access_in j (access_at rows i) h) ∙ e)
    | inr past ↦
        let size = length-map rows access_of in
        let same = ap (λ (b : Access). b.clk) (sym (get_or_past (map access_of rows) j (access_at rows i) (omega (arith, size, past))) ∙ e) in
        let less = earlier.clk in absurd (omega (arith, same, less))
  ]

  Shows : ℕ → Type 0
  Shows i = (before : List ℕ) × IsWordBefore (map access_of rows) (access_at rows i) before × Keeps (access_at rows i) before

  first_shows : 0 < length rows → Shows 0
  unfolding Shows
  first_shows h = (
    zero_word,
    never (λ j other e earlier.
        (let row = row_of 0 j other e earlier in
        let less = earlier_before (access_at rows) (length rows) o.grows 0 j h row.0 (subst (IsEarlier (access_at rows 0)) (sym row.1) earlier) in
        omega (arith, less))),
    o.keeps 0 h,
  )

  next_shows : AreSmall rows → (q : ℕ) → suc q < length rows → Shows (suc q)
  unfolding Shows
  next_shows small q h = go (cases_Bool (is_at p a.ctx a.addr))
    where
      p : Access
      p = access_at rows q

      a : Access
      a = access_at rows (suc q)

      -- an earlier access of its place is no later than the row before, which is of that place too
      found : (j : ℕ) (other : Access) → slice_index_or (map access_of rows) j a ≡ other → IsEarlier a other → IsEarlier a p × (other.clk ≤ p.clk)
      found j other e earlier =
          let row = row_of (suc q) j other e earlier in
          let r = right_before (access_at rows) (length rows) o.grows o.addresses small.clocks q j h row.0 (subst (IsEarlier a) (sym row.1) earlier) in
          let clock = ap (λ (b : Access). b.clk) row.1 in (
            r.0,
            elim r.1 [
              | inl same ↦ let k : (access_at rows j).clk ≡ p.clk = ap (λ i. (access_at rows i).clk) same in omega (arith, k, clock)
              | inr less ↦ omega (arith, less, clock)
            ],
          )

      go : (is_at p a.ctx a.addr ≡ true) ⊎ (is_at p a.ctx a.addr ≡ false) → Shows (suc q)
      go (inl at) =
          let place = place_is p a.ctx a.addr at in
          let c = place.0 in
          let d = place.1 in
          let grows : access_key p < access_key a = o.grows q h in (
            p.word,
            last q p (access_in q a (omega (arith, h))) (record { ctx = c; addr = d; clk = omega (arith, c, d, grows) })
                (λ j other e earlier. (found j other e earlier).1),
            subst (Keeps a) (ap (λ t. cond t p.word zero_word) at) (o.keeps (suc q) h),
          )
      go (inr apart) = (
        zero_word,
        never (λ j other e earlier.
            (let r = (found j other e earlier).0 in
            let same : is_at p a.ctx a.addr ≡ true = at_same p a.ctx a.addr r.ctx r.addr in let clash : ⊥ = cc in clash)),
        subst (Keeps a) (ap (λ t. cond t p.word zero_word) apart) (o.keeps (suc q) h),
      )

  shows_at : AreSmall rows → ShowLatest rows
  unfolding Shows
  shows_at small zero h = first_shows h
  shows_at small (suc q) h = next_shows small q h

pub shows_latest : (rows : List (List ℕ)) → MemoryIsZero rows → HaveLimbs rows → AreSmall rows → ShowLatest rows
shows_latest rows z limbs small = shows_at rows (zeros_are_ordered rows z limbs small) small
