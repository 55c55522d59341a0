-- Counts of asked values and of the limbs of memory's rows, row by row.
use Rattle.fill_chips.proofs.Words.{◌≡◌, ℕ, ◌+◌, ◌*◌, ◌<◌, ◌≤◌, inl, inr, eqb, cond, List, [], ◌++◌, length, slice_index, take, sym, ap, ap₂, ◌∙◌}
use Rattle.fill_chips.proofs.Words.{append_assoc, arith, length-append, length-take, cases_lt, append-nil, get_or_past, take_more, count_by-le-length}
use Rattle.fill_chips.proofs.Words.{sum_by-append, limbs_in, limbs_of_access, AreTimes, times_asked}
use Rattle.vm_table.specs.Layout.{row_at}
use Rattle.fill_chips.proofs.LimbLemmas.{limbs-count, limbs-push}

times-both : (xs ys : List ℕ) (v : ℕ) → times_asked (xs ++ ys) v ≡ times_asked xs v + times_asked ys v
times-both xs ys v = sum_by-append (λ x. cond (eqb x v) 1 0) xs ys

-- before the first row
pub times-begun : (asked zeros times : List ℕ) → length times ≡ 65536 → ((v : ℕ) → slice_index zeros v ≡ 0)
    → ((v : ℕ) → slice_index times v ≡ slice_index zeros v + times_asked asked v) → AreTimes (asked ++ limbs_in []) times
unfolding limbs_in
times-begun asked zeros times size none counts = record {
  values = size;
  counts = λ v h.
      let same : times_asked asked v ≡ times_asked (asked ++ limbs_in []) v =
      ap (λ values. times_asked values v) (sym (append-nil asked)) in
      let e = counts v in
      let z = none v in
      omega (arith, same, e, z);
}

-- one more row
pub times-row : (asked times new limbs : List ℕ) (rows : List (List ℕ)) (i : ℕ) → i < length rows → limbs ≡ limbs_of_access (row_at rows i)
    → AreTimes (asked ++ limbs_in (take i rows)) times → length new ≡ 65536
    → ((v : ℕ) → slice_index new v ≡ slice_index times v + times_asked limbs v) → AreTimes (asked ++ limbs_in (take (i + 1) rows)) new
times-row asked times new limbs rows i within is are size counts = record {
  values = size;
  counts = λ v h.
      counts v
      ∙ ap₂ (λ m n. m + n) (are.counts v h) (ap (λ values. times_asked values v) is)
      ∙ sym (times-both (asked ++ limbs_in (take i rows)) (limbs_of_access (row_at rows i)) v)
      ∙ ap (λ values. times_asked values v)
      (append_assoc asked (limbs_in (take i rows)) (limbs_of_access (row_at rows i)) ∙ ap (λ more. asked ++ more) (sym next));
}
  where
    next : limbs_in (take (i + 1) rows) ≡ limbs_in (take i rows) ++ limbs_of_access (row_at rows i)
    next = ap limbs_in (take_more rows i [] within) ∙ limbs-push (take i rows) (row_at rows i)

-- no value is counted more often than there are values
pub times-below : (asked times : List ℕ) (rows : List (List ℕ)) (v : ℕ) → AreTimes (asked ++ limbs_in rows) times
    → slice_index times v ≤ length asked + 4 * length rows
times-below asked times rows v are = elim (cases_lt v 65536) [
  | inl within ↦
      let is = are.counts v within in
      let few = count_by-le-length (λ value. eqb value v) (asked ++ limbs_in rows) in
      let both = length-append asked (limbs_in rows) in
      let four = limbs-count rows in
      omega (arith, is, few, both, four)
  | inr past ↦
      let size = are.values in
      let none : slice_index times v ≡ 0 = get_or_past times v 0 (omega (arith, size, past)) in
      omega (arith, none)
]

pub times-room : (asked times limbs : List ℕ) (rows : List (List ℕ)) (i v : ℕ) → i < length rows → limbs ≡ limbs_of_access (row_at rows i)
    → AreTimes (asked ++ limbs_in (take i rows)) times → slice_index times v + length limbs ≤ length asked + 4 * length rows
times-room asked times limbs rows i v within is are =
    let below = times-below asked times (take i rows) v are in
    let turns = length-take i rows in
    let four : length limbs ≡ 4 = ap length is in
    omega (arith, below, turns, four, within)
