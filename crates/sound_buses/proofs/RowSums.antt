-- How often a tuple counts over the rows of a table, where a row's tuples need the row behind it.
use Rattle.sound_buses.proofs.Words.{◌≡◌, ℕ, suc, ◌<◌, ◌≤◌, inl, inr, List, [], ◌∷◌, length, subst, sym, ap, arith, slice_get-get_or, slice_get_past, Counted}
use Rattle.sound_buses.proofs.Words.{at_row, counted, once, over_first, over_rows, with_next, row_at}
use Rattle.std.proofs.lemmas.Bool.{cases_eq, cases_lt}
use Rattle.sound_buses.proofs.Splits.{zero_or}
use Rattle.sound_buses.proofs.Sums.{total_apart, total_one, total_some, total_term}
use Rattle.sound_buses.proofs.Tuples.{counts_first, nothing_counts}

-- the tuples of row i and the row behind it
abbrev pub PairTuples : Type 0
PairTuples = List ℕ → List ℕ → List Counted

-- so often the rows of a table count a tuple
abbrev pub in_rows : PairTuples → List (List ℕ) → List ℕ → ℕ
in_rows tuples rows u = over_rows (with_next tuples) rows u

abbrev pub count_in : PairTuples → List (List ℕ) → List ℕ → ℕ → ℕ
count_in tuples rows u i = counted (tuples (row_at rows i) (row_at rows (suc i))) u

-- a row with a row behind it, in which the tuple counts
pub record IsInRow (tuples : PairTuples) (rows : List (List ℕ)) (u : List ℕ) (i : ℕ) : Type 0 where
  pub within : suc i < length rows
  pub positive : 0 < count_in tuples rows u i

module _ (tuples : PairTuples) (rows : List (List ℕ)) (u : List ℕ) where
  abbrev count_at : ℕ → ℕ
  count_at i = counted (at_row (with_next tuples) rows i) u

  row_counts : (i : ℕ) → suc i < length rows → count_at i ≡ count_in tuples rows u i
  row_counts i h = ap (λ next. counted (with_next tuples i (row_at rows i) next) u) (slice_get-get_or rows (suc i) [] h)

  -- a row in which a tuple counts has a row behind it
  in_row : (i : ℕ) → 0 < count_at i → IsInRow tuples rows u i
  in_row i h = elim (cases_lt (suc i) (length rows)) [
    | inl more ↦ record { within = more; positive = omega (arith, row_counts i more) }
    | inr last ↦ nothing_counts u
        (subst (λ next. 0 < counted (with_next tuples i (row_at rows i) next) u) (slice_get_past rows (suc i) last) h)
  ]

  -- at most one row, at most once
  pub rows_one : ((i : ℕ) → suc i < length rows → count_in tuples rows u i ≤ 1)
      → ((i j : ℕ) → IsInRow tuples rows u i → IsInRow tuples rows u j → i ≡ j) → in_rows tuples rows u ≤ 1
  unfolding over_first
  rows_one few one = total_one (length rows) count_at (λ i h. go i) (λ i j hi hj p q. one i j (in_row i p) (in_row j q))
    where
      go : (i : ℕ) → count_at i ≤ 1
      go i = elim (zero_or (count_at i)) [
        | inl some ↦ let within = (in_row i some).within in omega (arith, row_counts i within, few i within)
        | inr none ↦ omega arith
      ]

module _ {tuples : PairTuples} {rows : List (List ℕ)} {u : List ℕ} where
  pub rows_some : 0 < in_rows tuples rows u → (i : ℕ) × IsInRow tuples rows u i
  unfolding over_first
  rows_some h = let s = total_some (length rows) (count_at tuples rows u) h in (s.0, in_row tuples rows u s.0 s.2)

  pub rows_have : {i : ℕ} → IsInRow tuples rows u i → 0 < in_rows tuples rows u
  unfolding over_first
  rows_have {i} here =
      omega (
        arith,
        here.within,
        here.positive,
        total_term (length rows) (count_at tuples rows u) i (omega (arith, here.within)),
        row_counts tuples rows u i here.within,
      )

  -- a row whose tuples are these
  pub row_in : {i : ℕ} (cs : List Counted) → suc i < length rows → tuples (row_at rows i) (row_at rows (suc i)) ≡ cs → 0 < counted cs u
      → IsInRow tuples rows u i
  row_in cs within e some = record { within = within; positive = subst (λ cs. 0 < counted cs u) (sym e) some }

  pub row_has : {i : ℕ} (others : List Counted) → suc i < length rows → tuples (row_at rows i) (row_at rows (suc i)) ≡ once u ∷ others
      → IsInRow tuples rows u i
  row_has others within e = row_in (once u ∷ others) within e (counts_first u others)

  -- a tuple that counts once in all counts in one row alone
  pub rows_same : {i j : ℕ} → in_rows tuples rows u ≤ 1 → IsInRow tuples rows u i → IsInRow tuples rows u j → i ≡ j
  unfolding over_first
  rows_same {i} {j} few here there = elim (cases_eq i j) [
    | inl e ↦ e
    | inr apart ↦ absurd
        (omega (
          arith,
          few,
          here.within,
          there.within,
          here.positive,
          there.positive,
          row_counts tuples rows u i here.within,
          row_counts tuples rows u j there.within,
          total_apart (length rows) (count_at tuples rows u) i j (omega (arith, here.within)) (omega (arith, there.within)) apart,
        ))
  ]

-- as often is given as is asked
abbrev pub Balanced : PairTuples → PairTuples → List (List ℕ) → Type 0
Balanced asked given rows = (u : List ℕ) → in_rows asked rows u ≡ in_rows given rows u

-- what a row asks is given, and by a row where rows alone give
pub is_given : {asked : PairTuples} {given : List ℕ → ℕ} {rows : List (List ℕ)} {u : List ℕ} {i : ℕ} → ((v : List ℕ) → in_rows asked rows v ≡ given v)
    → IsInRow asked rows u i → 0 < given u
is_given {u = u} alike at = omega (arith, rows_have at, alike u)

pub giver : {asked given : PairTuples} {rows : List (List ℕ)} {u : List ℕ} {i : ℕ} → Balanced asked given rows → IsInRow asked rows u i
    → (j : ℕ) × IsInRow given rows u j
giver {given = given} {rows = rows} alike at = rows_some (is_given {given = in_rows given rows} alike at)

-- no tuples at all
pub pairs_none : (rows : List (List ℕ)) (u : List ℕ) → in_rows (λ x y. []) rows u ≡ 0
pairs_none rows u = elim (zero_or (in_rows (λ x y. []) rows u)) [
  | inl some ↦ let found : (i : ℕ) × IsInRow (λ x y. []) rows u i = rows_some some in nothing_counts u found.1.positive
  | inr none ↦ none
]
