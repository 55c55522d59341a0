-- Accesses that fit, put in order: what each is, and that their keys rise.
use Rattle.facts_memory.proofs.Words.{◌≡◌, ℕ, suc, ◌+◌, ◌*◌, ◌<◌, ◌≤◌, ◌^◌, ◌⊎◌, inl, inr, List, length, slice_index_or, arith, IsNonDecreasingBy}
use Rattle.facts_memory.proofs.Words.{IsPermutation, cases_lt, cases_order, All-permutation, Access, FitsMemory, access_key, AccessesFit, IsSmallAccess}
use Rattle.facts_memory.proofs.Clocks.{sorted_apart}
use Rattle.facts_memory.proofs.Fitting.{IsShown}
use Rattle.facts_memory.proofs.Keys.{Rises}
use Rattle.facts_memory.proofs.Numbers.{limit}
use Rattle.facts_memory.proofs.RowOrder.{Follows, follows_address, follows_clock, follows_context}

-- accesses that fit, and the same in order
pub record IsInOrder (accesses sorted : List Access) : Type 0 where
  pub fit : AccessesFit accesses
  pub moved : IsPermutation accesses sorted
  pub order : IsNonDecreasingBy access_key sorted

clock_small : (k : ℕ) → k < 2 ^ 19 → k < limit
clock_small k h = omega arith

same_clock : (x y k l : ℕ) → k < limit → l < limit → x * 4294967296 + k ≡ y * 4294967296 + l → k ≡ l
same_clock x y k l hk hl e = omega arith

module _ (accesses sorted : List Access) (o : IsInOrder accesses sorted) (d : Access) where
  pub fits_at : (q : ℕ) → q < length sorted → FitsMemory accesses (slice_index_or sorted q d)
  fits_at q h = All-permutation (FitsMemory accesses) accesses sorted o.moved o.fit.fits q d h

  pub shown_at : (q : ℕ) → q < length sorted → IsShown (slice_index_or sorted q d)
  shown_at q h =
      let f = fits_at q h in
      let s = All-permutation IsSmallAccess accesses sorted o.moved o.fit.small q d h in
      record {
        kind = f.kind;
        limits = record { ctx_small = s.ctx; addr_small = s.addr; clk_small = clock_small (slice_index_or sorted q d).clk f.clk };
        word = s.word;
      }

  pub strict : Rises (λ i. access_key (slice_index_or sorted i d)) (length sorted)
  strict i h = elim (cases_lt (access_key b) (access_key a)) [
    | inl less ↦ less
    | inr more ↦
        let le : access_key b ≤ access_key a = o.order i (suc i) d (omega arith) h in
        let same : access_key b ≡ access_key a = omega (arith, le, more) in
        absurd (sorted_apart accesses sorted o.moved o.fit i (suc i) d (omega arith) h
        (same_clock (b.ctx * 4294967296 + b.addr) (a.ctx * 4294967296 + a.addr) b.clk a.clk
        (shown_at i (omega (arith, h))).limits.clk_small (shown_at (suc i) h).limits.clk_small same))
  ]
    where
      b : Access
      b = slice_index_or sorted i d

      a : Access
      a = slice_index_or sorted (suc i) d

pub follows_from : (b a : Access) → IsShown b → IsShown a → access_key b < access_key a → Follows b a
follows_from b a sb sa less = go (cases_order b.ctx a.ctx) (cases_order b.addr a.addr)
  where
    hb : b.addr < limit
    hb = sb.limits.addr_small

    kb : b.clk < limit
    kb = sb.limits.clk_small

    ha : a.addr < limit
    ha = sa.limits.addr_small

    ka : a.clk < limit
    ka = sa.limits.clk_small

    go : (b.ctx ≡ a.ctx) ⊎ ((b.ctx < a.ctx) ⊎ (a.ctx < b.ctx)) → (b.addr ≡ a.addr) ⊎ ((b.addr < a.addr) ⊎ (a.addr < b.addr)) → Follows b a
    go (inr (inl up)) _ = follows_context b a up
    go (inr (inr down)) _ = absurd (omega (arith, less, hb, kb, ha, ka, down))
    go (inl same) (inl also) = follows_clock b a same also (omega (arith, less, same, also))
    go (inl same) (inr (inl up)) = follows_address b a same up
    go (inl same) (inr (inr down)) = absurd (omega (arith, less, same, hb, kb, ha, ka, down))
