-- The rows of accesses of which each fits behind the one before: a table whose values are 0 and whose limbs have 16 bits.
use Rattle.facts_memory.proofs.Words.{◌≡◌, ℕ, zero, suc, ◌<◌, List, [], ◌∷◌, All, length, slice_get, slice_index, slice_index_or, Option, Some}
use Rattle.facts_memory.proofs.Words.{None, option_map, refl, sym, ap, subst, arith, lit<, All-cons, All-nil, prime, elements-index, IsTable, at_number}
use Rattle.facts_memory.proofs.Words.{memory_values, Access, row_behind, rows_behind, step_behind, HasLimbs, HaveLimbs}
use Rattle.facts_memory.proofs.Words.{MemoryIsZero}
use Rattle.facts_memory.proofs.Cells.{AllZero, CellsBelow, each_at, no_values, value_then}
use Rattle.facts_memory.proofs.BehindZero.{NextFits, flags_zero, row_zero}
use Rattle.facts_memory.proofs.Entries.{high_small, low_small}
use Rattle.facts_memory.proofs.Fitting.{FitsBehind}

-- each access fits behind the one before
unfoldable pub Linked : Option Access → List Access → Type 0
Linked before [] = Unit {0}
Linked before (a ∷ accesses) = FitsBehind before a × Linked (Some a) accesses

pub rows_size : (before : Option Access) (accesses : List Access) → length (rows_behind before accesses) ≡ length accesses
unfolding rows_behind
rows_size before [] = refl
rows_size before (a ∷ accesses) = ap suc (rows_size (Some a) accesses)

-- ---- a row's cells

pub record RowIs (row : List ℕ) : Type 0 where
  pub wide : length row ≡ 14
  pub below : CellsBelow row
  pub limbs : HasLimbs row

row_below : (before : Option Access) (a : Access) → FitsBehind before a → CellsBelow (row_behind before a)
unfolding row_behind
row_below before a f =
    let o = flags_zero before a f in
    let k = f.shown.kind in
    let c = f.shown.limits.ctx_small in
    let d = f.shown.limits.addr_small in
    let t = f.shown.limits.clk_small in
    let n = o.first_bit in
    let m = o.second_bit in
    let l = high_small (step_behind before a) o.step_small in
    let h = high_small a.addr d in
    let e = λ (j : ℕ). elements-index a.word j f.shown.word.below in
    each_at (λ v. v < prime) (row_behind before a) (lit< tt)
    (value_then (omega (arith, k)) (value_then (omega (arith, c)) (value_then (omega (arith, d)) (value_then (omega (arith, t))
    (value_then (e 0) (value_then (e 1) (value_then (e 2) (value_then (e 3) (value_then (omega (arith, n)) (value_then (omega (arith, m))
    (value_then (omega arith) (value_then (omega (arith, l)) (value_then (omega arith) (value_then (omega (arith, h)) no_values))))))))))))))

row_is : (before : Option Access) (a : Access) → FitsBehind before a → RowIs (row_behind before a)
unfolding row_behind
row_is before a f = record {
  wide = refl;
  below = row_below before a f;
  limbs = record {
    d0_small = low_small (step_behind before a);
    d1_small = high_small (step_behind before a) (flags_zero before a f).step_small;
    a0_small = low_small a.addr;
    a1_small = high_small a.addr f.shown.limits.addr_small;
  };
}

rows_are : (before : Option Access) (accesses : List Access) → Linked before accesses → All RowIs (rows_behind before accesses)
unfolding rows_behind Linked
rows_are before [] l = All-nil RowIs
rows_are before (a ∷ accesses) l =
    All-cons RowIs (row_behind before a) (rows_behind (Some a) accesses) (row_is before a l.0) (rows_are (Some a) accesses l.1)

-- ---- the table

below_at : (rows : List (List ℕ)) → All RowIs rows → (i k : ℕ) → slice_index (slice_index_or rows i []) k < prime
below_at [] are i k = lit< tt
below_at (r ∷ rows) are zero k = (are 0 [] (omega arith)).below k
below_at (r ∷ rows) are (suc i) k = below_at rows (λ j d h. are (suc j) d (omega (arith, h))) i k

is_table : (rows : List (List ℕ)) → All RowIs rows → IsTable 14 rows
is_table rows are = record { wide = λ i h. (are i [] h).wide; below = below_at rows are }

next_row : (a : Access) (accesses : List Access) → Linked (Some a) accesses
    → (o : Option Access) × (slice_get (rows_behind (Some a) accesses) 0 ≡ option_map (λ b. row_behind (Some a) b) o) × NextFits a o
unfolding rows_behind Linked
next_row a [] l = (None, refl, tt)
next_row a (b ∷ accesses) l = (Some b, refl, l.0)

-- a row that is the first of all stands at the front, behind none
abbrev FrontOnly : ℕ → ℕ → Option Access → Type 0
FrontOnly r k before = r ≡ 0 → (k ≡ 0) × (before ≡ None)

later_front : (r k : ℕ) (before : Option Access) (a : Access) → FrontOnly r (suc k) before → FrontOnly r k (Some a)
later_front r k before a front is = let e = (front is).0 in absurd (omega (arith, e))

values_zero : (before : Option Access) (accesses : List Access) → Linked before accesses → (k r : ℕ) → k < length accesses
    → FrontOnly r k before
    → AllZero (memory_values (record {
      row = r;
      cur = slice_index_or (rows_behind before accesses) k [];
      next = slice_get (rows_behind before accesses) (suc k);
    }))
unfolding rows_behind Linked
values_zero before [] l k r h front = absurd (omega (arith, h))
values_zero before (a ∷ accesses) l zero r h front =
    let n = next_row a accesses l.1 in
    subst (λ next. AllZero (memory_values (record { row = r; cur = row_behind before a; next = next }))) (sym n.1)
    (row_zero r before a n.0 l.0 (λ is. (front is).1) n.2)
values_zero before (a ∷ accesses) l (suc k) r h front =
    values_zero (Some a) accesses l.1 k r (omega (arith, h)) (later_front r k before a front)

pub zero_number : (values : List ℕ) (number : ℕ) → AllZero values → at_number values number ≡ 0
unfolding at_number
zero_number values zero zeros = refl
zero_number values (suc n) zeros = zeros n

pub rows_zero : (accesses : List Access) → Linked None accesses → MemoryIsZero (rows_behind None accesses)
rows_zero accesses l = record {
  table = is_table (rows_behind None accesses) (rows_are None accesses l);
  zero = λ i number h.
      zero_number (memory_values (record {
        row = i;
        cur = slice_index_or (rows_behind None accesses) i [];
        next = slice_get (rows_behind None accesses) (suc i);
      })) number (values_zero None accesses l i i (let e = rows_size None accesses in omega (arith, e, h)) (λ is. (is, refl)));
}

pub rows_limbs : (accesses : List Access) → Linked None accesses → HaveLimbs (rows_behind None accesses)
rows_limbs accesses l i h = (rows_are None accesses l i [] h).limbs
