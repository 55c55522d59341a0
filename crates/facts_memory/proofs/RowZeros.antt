-- What values that are 0 say of a row, and of a row and the one after it.
use Rattle.facts_memory.proofs.Words.{◌≡◌, ℕ, ◌+◌, ◌*◌, ◌<◌, ◌≤◌, List, [], ◌∷◌, Option, Some, sym, ap, ◌∙◌, arith, lit<, prime}
use Rattle.facts_memory.proofs.Words.{felt_add, felt_sub, felt_mul, zero_word, family, access_values, entry_1, entry_5, goes_on_here, memory_values}
use Rattle.facts_memory.proofs.Words.{order_step, step_of, word_values, Keeps, access_of, HasLimbs}
use Rattle.vm_field.proofs.Algebra.{bit_from_product, same_from_sub}
use Rattle.chip_columns.specs.MemoryColumns.{kind, ctx, addr, clk, v, n0, n1, d0, d1, a0, a1}
use Rattle.facts_memory.proofs.Cells.{AllZero, CellsBelow}
use Rattle.facts_memory.proofs.Numbers.{address_from, kept_from, kind_from, limit, read_from, step_from}
use Rattle.facts_memory.proofs.RowOrder.{Steps, factor, steps_from}

-- ---- a row

pub record RowSays (x : List ℕ) : Type 0 where
  pub kind_small : kind x ≤ 2
  pub n0_bit : n0 x < 2
  pub n1_bit : n1 x < 2
  pub one_new : felt_mul (n0 x) (n1 x) ≡ 0
  pub address_is : addr x ≡ a0 x + 65536 * a1 x
  pub address : addr x < limit

pub row_says : (r : ℕ) (x : List ℕ) (next : Option (List ℕ)) → CellsBelow x → HasLimbs x
    → AllZero (memory_values (record { row = r; cur = x; next = next })) → RowSays x
unfolding memory_values access_values entry_1 entry_5
row_says r x next below limbs zeros =
    let is = address_from (addr x) (a0 x) (a1 x) (below 2) limbs.a0_small limbs.a1_small (zeros 4) in
    record {
      kind_small = kind_from (kind x) (below 0) (zeros 0);
      n0_bit = bit_from_product (n0 x) (below 8) (zeros 1);
      n1_bit = bit_from_product (n1 x) (below 9) (zeros 2);
      one_new = zeros 3;
      address_is = is;
      address = let l = limbs.a0_small in let h = limbs.a1_small in omega (arith, is, l, h);
    }

-- ---- words

-- the four values of a word, against what it was
keeps_by : (x : List ℕ) (o : ℕ → ℕ) → CellsBelow x → ((j : ℕ) → o j < prime)
    → felt_mul (felt_mul (felt_sub (kind x) 1) (felt_sub (kind x) 2)) (felt_sub (v x 0) (o 0)) ≡ 0
    → felt_mul (felt_sub (kind x) 1) (felt_sub (v x 1) (o 1)) ≡ 0 → felt_mul (felt_sub (kind x) 1) (felt_sub (v x 2) (o 2)) ≡ 0
    → felt_mul (felt_sub (kind x) 1) (felt_sub (v x 3) (o 3)) ≡ 0 → Keeps (access_of x) (o 0 ∷ o 1 ∷ o 2 ∷ o 3 ∷ [])
keeps_by x o below small first z1 z2 z3 = record {
  reads = λ is.
      (let other : kind x ≡ 1 → ⊥ = λ one. omega (arith, one, is) in
      cc (read_from (kind x) (v x 0) (o 0) is (below 4) (small 0) first, same 1 other z1, same 2 other z2, same 3 other z3));
  keeps = λ is. (let other : kind x ≡ 1 → ⊥ = λ one. omega (arith, one, is) in cc (same 1 other z1, same 2 other z2, same 3 other z3));
}
  where
    same : (j : ℕ) → (kind x ≡ 1 → ⊥) → felt_mul (felt_sub (kind x) 1) (felt_sub (v x j) (o j)) ≡ 0 → v x j ≡ o j
    same j apart z = kept_from (kind x) (v x j) (o j) (below 0) apart (below (4 + j)) (small j) z

-- ---- the first row

sub_none : (x : ℕ) → x < prime → x ≡ felt_sub x 0
sub_none x h = omega arith

pub record FirstSays (x : List ℕ) : Type 0 where
  pub is_new : n0 x ≡ 1
  pub keeps : Keeps (access_of x) zero_word

pub first_says : (x : List ℕ) (next : Option (List ℕ)) → CellsBelow x → n0 x < 2
    → AllZero (memory_values (record { row = 0; cur = x; next = next })) → FirstSays x
unfolding memory_values access_values word_values family
first_says x next below bit zeros = record {
  is_new = sym (same_from_sub 1 (n0 x) (lit< tt) (below 8) (zeros 5));
  keeps = keeps_by x (λ j. 0) below (λ j. lit< tt)
      (ap (felt_mul (felt_mul (felt_sub (kind x) 1) (felt_sub (kind x) 2))) (sym (sub_none (v x 0) (below 4))) ∙ zeros 9)
      (less_none 1 (zeros 10)) (less_none 2 (zeros 11)) (less_none 3 (zeros 12));
}
  where
    less_none : (j : ℕ) → felt_mul (felt_sub (kind x) 1) (v x j) ≡ 0 → felt_mul (felt_sub (kind x) 1) (felt_sub (v x j) 0) ≡ 0
    less_none j z = ap (felt_mul (felt_sub (kind x) 1)) (sym (sub_none (v x j) (below (4 + j)))) ∙ z

-- ---- a row and the one after it

-- element j of the word before, by the flags of the row
abbrev pub old_at : List ℕ → List ℕ → ℕ → ℕ
old_at x y j = felt_mul (factor (n0 y) (n1 y)) (v x j)

pub record NextSays (x y : List ℕ) : Type 0 where
  pub order : Steps (n0 y) (n1 y) (felt_add (d0 y) (felt_mul 65536 (d1 y))) (access_of x) (access_of y)
  pub keeps : Keeps (access_of y) (old_at x y 0 ∷ old_at x y 1 ∷ old_at x y 2 ∷ old_at x y 3 ∷ [])

product_below : (x y : ℕ) → felt_mul x y < prime
product_below x y = omega arith

pub next_says : (r : ℕ) (x y : List ℕ) → CellsBelow y → HasLimbs y → RowSays x → RowSays y → ctx x < limit → clk x < limit
    → AllZero (memory_values (record { row = r; cur = x; next = Some y })) → NextSays x y
unfolding memory_values access_values word_values family order_step step_of goes_on_here
next_says r x y below limbs sx sy c k zeros = record {
  order = steps_from (n0 y) (n1 y) (felt_add (d0 y) (felt_mul 65536 (d1 y))) (access_of x) (access_of y) sy.n0_bit sy.n1_bit sy.one_new (record {
    ctx_small = c;
    addr_small = sx.address;
    clk_small = k;
    ctx_low = below 1;
    addr_low = below 2;
    clk_low = below 3;
    step_small = step_from (d0 y) (d1 y) limbs.d0_small limbs.d1_small;
  }) (zeros 6) (zeros 7) (zeros 8);
  keeps = keeps_by y (old_at x y) below (λ j. product_below (factor (n0 y) (n1 y)) (v x j)) (zeros 13) (zeros 14) (zeros 15)
      (zeros 16);
}
