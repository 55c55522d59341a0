-- Rows from a number on, eight by eight: tables of them whose values are 0, and what they give.
use Rattle.std.proofs.Common.{List, Option, [], ap, arith, inl, inr, length, lit<, refl, slice_get, slice_index, subst, suc, zero, ℕ, ◌+◌, ◌++◌, ◌-◌, ◌<◌, ◌∙◌, ◌∷◌, ◌≡◌, ◌≤◌, ◌⊎◌}
use Rattle.std.proofs.lemmas.Bool.{cases_lt}
use Rattle.vm_table.specs.Layout.{IsTable, row_at}
use Rattle.buses.specs.Counts.{Counted, counted, over_first, over_rows, total}
use Rattle.air_kit.specs.Places.{Spot, at_number, family}
use Rattle.air_kit.specs.Traces.{spot_of}
use Rattle.facts_hasher.proofs.RowLemmas.{CellsBelow}
use Rattle.facts_hasher.proofs.Totals.{eight, total-eight, total-same}

-- ---- values that are 0

abbrev pub AllZero : List ℕ → Type 0
AllZero values = (n : ℕ) → slice_index values n ≡ 0

-- what holds of each of some values
pub data Each (P : ℕ → Type 0) : List ℕ → Type 0 where
  no_values : Each P []
  value_then : {v : ℕ} {values : List ℕ} → P v → Each P values → Each P (v ∷ values)

-- it holds at each place, where it holds of 0, which stands past their end
pub each_at : (P : ℕ → Type 0) (values : List ℕ) → P 0 → Each P values → (n : ℕ) → P (slice_index values n)
each_at P values past no_values n = past
each_at P values past (value_then is each) zero = is
each_at P values past (value_then {values = later} is each) (suc n) = each_at P later past each n

pub all_append : (xs ys : List ℕ) → AllZero xs → AllZero ys → AllZero (xs ++ ys)
all_append [] ys zx zy n = zy n
all_append (x ∷ xs) ys zx zy zero = zx 0
all_append (x ∷ xs) ys zx zy (suc n) = all_append xs ys (λ k. zx (suc k)) zy n

pub all_family : (n : ℕ) (value : ℕ → ℕ) → ((j : ℕ) → j < n → value j ≡ 0) → AllZero (family n value)
unfolding family
all_family zero value zero_is k = refl
all_family (suc n) value zero_is zero = zero_is 0 (omega arith)
all_family (suc n) value zero_is (suc k) = all_family n (λ j. value (suc j)) (λ j h. zero_is (suc j) (omega (arith, h))) k

-- those of rows are 0, of which the first has this number
pub record ZeroFrom (values : Spot → List ℕ) (i : ℕ) (rows : List (List ℕ)) : Type 0 where
  pub at : (k : ℕ) → k < length rows → AllZero (values (record { row = i + k; cur = row_at rows k; next = slice_get rows (suc k) }))

pub none_from : (values : Spot → List ℕ) (i : ℕ) → ZeroFrom values i []
none_from values i = record { at = λ k h. absurd (omega arith) }

-- a row by another name of its number
renumbered : (values : Spot → List ℕ) (m n : ℕ) (cur : List ℕ) (next : Option (List ℕ)) → m ≡ n
    → AllZero (values (record { row = m; cur = cur; next = next })) → AllZero (values (record { row = n; cur = cur; next = next }))
renumbered values m n cur next e z = subst (λ r. AllZero (values (record { row = r; cur = cur; next = next }))) e z

-- those of a whole table
pub zero_from : (values : Spot → List ℕ) (rows : List (List ℕ)) → ((i number : ℕ) → i < length rows → at_number (values (spot_of rows i)) number ≡ 0)
    → ZeroFrom values 0 rows
unfolding at_number
zero_from values rows z = record {
  at = λ k h. renumbered values k (0 + k) (row_at rows k) (slice_get rows (suc k)) (omega arith) (λ n. z k (suc n) h);
}

pub zero_all : {values : Spot → List ℕ} {rows : List (List ℕ)} → ZeroFrom values 0 rows → (i number : ℕ) → i < length rows
    → at_number (values (spot_of rows i)) number ≡ 0
unfolding at_number
zero_all z i zero h = refl
zero_all {values} {rows} z i (suc n) h = renumbered values (0 + i) i (row_at rows i) (slice_get rows (suc i)) (omega arith) (z.at i h) n

-- those behind eight rows
pub zero_rest : {values : Spot → List ℕ} {i : ℕ} {r0 r1 r2 r3 r4 r5 r6 r7 : List ℕ} {rows : List (List ℕ)}
    → ZeroFrom values i (r0 ∷ r1 ∷ r2 ∷ r3 ∷ r4 ∷ r5 ∷ r6 ∷ r7 ∷ rows) → ZeroFrom values (eight i) rows
zero_rest {values} {i} {rows = rows} z = record {
  at = λ k h. renumbered values (i + eight k) (eight i + k) (row_at rows k) (slice_get rows (suc k)) (omega arith) (z.at (eight k) (omega arith));
}

-- what holds at each of eight places
pub eight_cases : (P : ℕ → Type 0) → P 0 → P 1 → P 2 → P 3 → P 4 → P 5 → P 6 → P 7 → (k : ℕ) → k < 8 → P k
eight_cases P p0 p1 p2 p3 p4 p5 p6 p7 zero h = p0
eight_cases P p0 p1 p2 p3 p4 p5 p6 p7 (suc zero) h = p1
eight_cases P p0 p1 p2 p3 p4 p5 p6 p7 (suc (suc zero)) h = p2
eight_cases P p0 p1 p2 p3 p4 p5 p6 p7 (suc (suc (suc zero))) h = p3
eight_cases P p0 p1 p2 p3 p4 p5 p6 p7 (suc (suc (suc (suc zero)))) h = p4
eight_cases P p0 p1 p2 p3 p4 p5 p6 p7 (suc (suc (suc (suc (suc zero))))) h = p5
eight_cases P p0 p1 p2 p3 p4 p5 p6 p7 (suc (suc (suc (suc (suc (suc zero)))))) h = p6
eight_cases P p0 p1 p2 p3 p4 p5 p6 p7 (suc (suc (suc (suc (suc (suc (suc zero))))))) h = p7
eight_cases P p0 p1 p2 p3 p4 p5 p6 p7 (suc (suc (suc (suc (suc (suc (suc (suc k)))))))) h = absurd (omega arith)

-- eight rows and those behind them
pub zero_eight : {values : Spot → List ℕ} {i : ℕ} {r0 r1 r2 r3 r4 r5 r6 r7 : List ℕ} {rows : List (List ℕ)}
    → ((k : ℕ) → k < 8 → AllZero (values (record {
      row = i + k;
      cur = row_at (r0 ∷ r1 ∷ r2 ∷ r3 ∷ r4 ∷ r5 ∷ r6 ∷ r7 ∷ rows) k;
      next = slice_get (r0 ∷ r1 ∷ r2 ∷ r3 ∷ r4 ∷ r5 ∷ r6 ∷ r7 ∷ rows) (suc k);
    })))
    → ZeroFrom values (eight i) rows → ZeroFrom values i (r0 ∷ r1 ∷ r2 ∷ r3 ∷ r4 ∷ r5 ∷ r6 ∷ r7 ∷ rows)
zero_eight {values} {i} {r0} {r1} {r2} {r3} {r4} {r5} {r6} {r7} {rows} first rest = record { at = λ k h. at k h (cases_lt k 8) }
  where
    all : List (List ℕ)
    all = r0 ∷ r1 ∷ r2 ∷ r3 ∷ r4 ∷ r5 ∷ r6 ∷ r7 ∷ rows

    at : (k : ℕ) → k < length all → (k < 8) ⊎ (8 ≤ k) → AllZero (values (record { row = i + k; cur = row_at all k; next = slice_get all (suc k) }))
    at k h (inl few) = first k few
    at k h (inr more) =
        let e : eight (k - 8) ≡ k = omega arith in
        subst (λ k. AllZero (values (record { row = i + k; cur = row_at all k; next = slice_get all (suc k) }))) e
        (renumbered values (eight i + (k - 8)) (i + eight (k - 8)) (row_at rows (k - 8)) (slice_get rows (suc (k - 8))) (omega arith)
        (rest.at (k - 8) (omega arith)))

-- ---- tables

pub table_rest : {n : ℕ} {r0 r1 r2 r3 r4 r5 r6 r7 : List ℕ} {rows : List (List ℕ)} → IsTable n (r0 ∷ r1 ∷ r2 ∷ r3 ∷ r4 ∷ r5 ∷ r6 ∷ r7 ∷ rows)
    → IsTable n rows
table_rest t = record { wide = λ i h. t.wide (eight i) (omega arith); below = λ i k. t.below (eight i) k }

pub table_none : (n : ℕ) → IsTable n []
table_none n = record { wide = λ i h. absurd (omega arith); below = λ i k. lit< tt }

pub table_cons : {n : ℕ} (r : List ℕ) {rows : List (List ℕ)} → length r ≡ n → CellsBelow r → IsTable n rows → IsTable n (r ∷ rows)
table_cons {n} r {rows} wide_row below_row t = record { wide = wide; below = below }
  where
    wide : (i : ℕ) → i < length (r ∷ rows) → length (row_at (r ∷ rows) i) ≡ n
    wide zero h = wide_row
    wide (suc i) h = t.wide i (omega arith)

    below : (i : ℕ) → CellsBelow (row_at (r ∷ rows) i)
    below zero = below_row
    below (suc i) = t.below i

-- rows are the same where each of eight is, and those behind them
pub eight_same : {a b c d e f g h s t u v w z y q : List ℕ} {rows others : List (List ℕ)}
    → a ≡ s → b ≡ t → c ≡ u → d ≡ v → e ≡ w → f ≡ z → g ≡ y → h ≡ q → rows ≡ others
    → a ∷ b ∷ c ∷ d ∷ e ∷ f ∷ g ∷ h ∷ rows ≡ s ∷ t ∷ u ∷ v ∷ w ∷ z ∷ y ∷ q ∷ others
eight_same e0 e1 e2 e3 e4 e5 e6 e7 later = cc

-- ---- what rows give by their numbers

module _ (given : ℕ → List ℕ → List Counted) where
  -- how often rows give a tuple, of which the first has this number
  abbrev pub given_from : ℕ → List (List ℕ) → List ℕ → ℕ
  given_from i rows u = total (length rows) (λ k. counted (given (i + k) (row_at rows k)) u)

  pub given_all : (rows : List (List ℕ)) (u : List ℕ) → over_rows (λ i row next. given i row) rows u ≡ given_from 0 rows u
  unfolding over_first
  given_all rows u =
      total-same (length rows) _ _ (λ k h. ap (λ n. counted (given n (row_at rows k)) u) (let e : k ≡ 0 + k = omega arith in e))

  -- of eight rows the first and the last alone give something
  pub given_eight : (i : ℕ) (r0 r1 r2 r3 r4 r5 r6 r7 : List ℕ) (rows : List (List ℕ)) (u : List ℕ)
      → ((k : ℕ) (row : List ℕ) → 0 < k → k < 7 → given (i + k) row ≡ [])
      → given_from i (r0 ∷ r1 ∷ r2 ∷ r3 ∷ r4 ∷ r5 ∷ r6 ∷ r7 ∷ rows) u
      ≡ counted (given (i + 0) r0) u + (counted (given (i + 7) r7) u + given_from (eight i) rows u)
  unfolding counted
  given_eight i r0 r1 r2 r3 r4 r5 r6 r7 rows u none =
      total-eight (length rows) f (λ k low high. ap (λ xs. counted xs u) (none k (row_at all k) low high))
      ∙ ap (λ t. f 0 + (f 7 + t)) (total-same (length rows) _ _ (λ k h.
      ap (λ n. counted (given n (row_at rows k)) u) (let e : i + eight k ≡ eight i + k = omega arith in e)))
    where
      all : List (List ℕ)
      all = r0 ∷ r1 ∷ r2 ∷ r3 ∷ r4 ∷ r5 ∷ r6 ∷ r7 ∷ rows

      f : ℕ → ℕ
      f k = counted (given (i + k) (row_at all k)) u
