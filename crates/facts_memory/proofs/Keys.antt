-- Accesses whose keys rise, and those of one place among them.
use Rattle.facts_memory.proofs.Words.{◌≡◌, ℕ, zero, suc, ◌+◌, ◌*◌, ◌<◌, ◌≤◌, ◌⊎◌, inl, inr, ⊎_elim, ap, arith, cases_order, Access, IsEarlier, access_key}
use Rattle.facts_memory.proofs.Numbers.{last_or, limit}

-- numbers that rise from each to the next
abbrev pub Rises : (ℕ → ℕ) → ℕ → Type 0
Rises f n = (i : ℕ) → suc i < n → f i < f (suc i)

module _ (f : ℕ → ℕ) (n : ℕ) (rises : Rises f n) where
  -- rise from each to each further one
  pub rise : (q r : ℕ) → q < r → r < n → f q < f r
  rise q zero less h = absurd (omega (arith, less))
  rise q (suc r) less h =
      let step : f r < f (suc r) = rises r h in
      ⊎_elim (λ before. let more : f q < f r = rise q r before (omega (arith, h)) in omega (arith, more, step))
      (λ same. let e : f q ≡ f r = ap f same in omega (arith, e, step)) (last_or q r less)

  -- the lesser one stands before
  pub rise_back : (q r : ℕ) → q < n → r < n → f q < f r → q < r
  rise_back q r hq hr less = elim (cases_order q r) [
    | inl same ↦ let e : f q ≡ f r = ap f same in absurd (omega (arith, e, less))
    | inr (inl before) ↦ before
    | inr (inr behind) ↦ let more = rise r q behind hq in absurd (omega (arith, more, less))
  ]

-- ---- a place between two accesses of one word

outer_same : (x p k l z : ℕ) → l < limit → z < limit → x * 4294967296 + k ≤ p * 4294967296 + l → p * 4294967296 + l < x * 4294967296 + z → p ≡ x
outer_same x p k l z hl hz low high = omega arith

inner_same : (c d c' d' : ℕ) → d < limit → d' < limit → c * 4294967296 + d ≡ c' * 4294967296 + d' → (c ≡ c') × (d ≡ d')
inner_same c d c' d' h h' e = (omega arith, omega arith)

-- what stands between two accesses of one place is one of it, and earlier than the latter
between : (b p a : Access) → IsEarlier a b → access_key b ≤ access_key p → access_key p < access_key a → p.addr < limit → p.clk < limit
    → a.addr < limit → a.clk < limit → IsEarlier a p
between b p a e low high hp hpk ha hak =
    let c : b.ctx ≡ a.ctx = e.ctx in
    let d : b.addr ≡ a.addr = e.addr in
    let low_at_a : (a.ctx * 4294967296 + a.addr) * 4294967296 + b.clk ≤ (p.ctx * 4294967296 + p.addr) * 4294967296 + p.clk =
    omega (arith, c, d, low) in
    let outer : p.ctx * 4294967296 + p.addr ≡ a.ctx * 4294967296 + a.addr =
    outer_same (a.ctx * 4294967296 + a.addr) (p.ctx * 4294967296 + p.addr) b.clk p.clk a.clk hpk hak low_at_a high in
    let inner = inner_same p.ctx p.addr a.ctx a.addr hp ha outer in
    let g = inner.0 in
    let i = inner.1 in
    record { ctx = g; addr = i; clk = omega (arith, g, i, high) }

-- ---- accesses whose keys rise

module _ (f : ℕ → Access) (n : ℕ) (rises : Rises (λ i. access_key (f i)) n) where
  -- an earlier access of the place of one stands before it
  pub earlier_before : (q r : ℕ) → q < n → r < n → IsEarlier (f q) (f r) → r < q
  earlier_before q r hq hr e =
      let c = e.ctx in
      let d = e.addr in let k = e.clk in rise_back (λ i. access_key (f i)) n rises r q hr hq (omega (arith, c, d, k))

  -- where there is one, the access right before is one too, and the latest
  pub right_before : ((i : ℕ) → i < n → (f i).addr < limit) → ((i : ℕ) → i < n → (f i).clk < limit) → (q r : ℕ) → suc q < n → r < n
      → IsEarlier (f (suc q)) (f r) → IsEarlier (f (suc q)) (f q) × ((r ≡ q) ⊎ ((f r).clk < (f q).clk))
  right_before addr clk q r h hr e = go (last_or r q (earlier_before (suc q) r h hr e))
    where
      inside : q < n
      inside = omega (arith, h)

      by : access_key (f r) ≤ access_key (f q) → IsEarlier (f (suc q)) (f q)
      by low = between (f r) (f q) (f (suc q)) e low (rises q h) (addr q inside) (clk q inside) (addr (suc q) h) (clk (suc q) h)

      go : (r < q) ⊎ (r ≡ q) → IsEarlier (f (suc q)) (f q) × ((r ≡ q) ⊎ ((f r).clk < (f q).clk))
      go (inr same) = (by (let k : access_key (f r) ≡ access_key (f q) = ap (λ i. access_key (f i)) same in omega (arith, k)), inl same)
      go (inl less) =
          let k = rise (λ i. access_key (f i)) n rises r q less inside in
          let p = by (omega (arith, k)) in
          let c = e.ctx in
          let d = e.addr in
          let c' = p.ctx in
          let d' = p.addr in
          (p, inr (omega (arith, k, c, d, c', d')))
