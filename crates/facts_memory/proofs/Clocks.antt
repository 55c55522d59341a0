-- Accesses at clocks of their own are so in any order.
use Rattle.facts_memory.proofs.Words.{◌≡◌, ℕ, ◌<◌, ◌==◌, Bool, List, length, slice_index_or, sym, arith, IsPermutation, eq-eqb, ne_eqb, get_or_default, Access}
use Rattle.facts_memory.proofs.Words.{AccessesFit, cases_Bool, eqb-true, inl, inr, ◌∙◌}
use Rattle.std.proofs.lemmas.Map.Keys.{IsDistinct-IsPermutation, IsDistinct-from_apart, apart_from_distinct}
use Rattle.std.specs.List.{IsDistinct}

same_clock : Access → Access → Bool
same_clock a b = a.clk == b.clk

flips : (a b : Access) → same_clock a b ≡ same_clock b a
unfolding same_clock
flips a b = elim (cases_Bool (a.clk == b.clk)) [
  | inl is ↦ is ∙ sym (eq-eqb b.clk a.clk (sym (eqb-true a.clk b.clk is)))
  | inr not ↦ not ∙ sym (ne_eqb b.clk a.clk (λ e. absurd (let is = eq-eqb a.clk b.clk (sym e) in cc)))
]

-- at no two places is there an access of one clock
pub sorted_apart : (accesses sorted : List Access) → IsPermutation accesses sorted → AccessesFit accesses → (i j : ℕ) (d : Access) → i < j
    → j < length sorted → (slice_index_or sorted i d).clk ≡ (slice_index_or sorted j d).clk → ⊥
unfolding same_clock
sorted_apart accesses sorted p f i j d less h same =
    let apart = apart_from_distinct same_clock sorted i j d (IsDistinct-IsPermutation same_clock flips accesses sorted p distinct) less h in
    let is = eq-eqb (slice_index_or sorted i d).clk (slice_index_or sorted j d).clk same in let clash : ⊥ = cc in clash
  where
    distinct : IsDistinct same_clock accesses
    distinct =
        IsDistinct-from_apart same_clock accesses (λ i j d less h.
        ne_eqb (slice_index_or accesses i d).clk (slice_index_or accesses j d).clk (λ e.
        (let hi : i < length accesses = omega (arith, less, h) in
        let one : i ≡ j = f.apart i j (slice_index_or accesses i d) (slice_index_or accesses j d)
        (get_or_default accesses i (slice_index_or accesses i d) d hi) (get_or_default accesses j (slice_index_or accesses j d) d h) e hi h in
        omega (arith, one, less))))
