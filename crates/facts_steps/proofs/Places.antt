-- What the rows of a table do not show, from one row to the next.
use Rattle.facts_steps.proofs.Words
use Words.{◌≡◌, ◌≢◌, ℕ, zero, suc, ◌+◌, ◌<◌, Bool, true, false, ◌&&◌, ◌||◌, cond, eqb, List, [], ◌∷◌, ◌++◌, drop, length, slice_index, refl, ap, sym, subst}
use Words.{◌∙◌, arith, shift_of, Op, Shift, Left, Stay, Right, h, s, depth, number_of_constants, felt_add, is_left}
use Words.{is_shift, row_shifts_left, taken_by, ShiftsCells, GoesOnBy, ShowsStep, IsPlace}
use Rattle.std.proofs.lemmas.Bool.{eqb-false, eqb-true}
use Rattle.air_kit.specs.Flags.{op_of}
use Rattle.air_kit.specs.Places.{Claim}
use Rattle.air_kit.specs.RowStates.{Overflow, overflow_behind, overflow_at, brought_back, row_returns, memory_at, tape_of, elsewhere_at}
use Rattle.vm_table.specs.Layout.{row_at}
use Rattle.facts_main.specs.MainRows.{ShowsRows, op_in}
use Rattle.facts_steps.proofs.Ordinary.{IsOrdinary, ordinary, mover_is}
use Rattle.facts_steps.proofs.Shifts.{Behind, below_from, none_below}
use Rattle.facts_steps.proofs.Steps.{rows_show}
use Rattle.facts_steps.proofs.Tests.{or_none}

-- ---- the cells below the sixteenth

-- by the tests of the row
abbrev below_by : Bool → Bool → Bool → Bool → Bool → List ℕ → Overflow → Overflow
below_by right left flat call returns x o =
    cond right (record o { below = s x 15 ∷ o.below })
    (cond left (cond flat o (record o { below = drop 1 o.below }))
    (cond call (record { below = []; aside = o.below ∷ o.aside }) (cond returns (brought_back o.aside) o)))

tests_same : (x : List ℕ) (o : Overflow) {r l c e r1 l1 c1 e1 : Bool} → r ≡ r1 → l ≡ l1 → c ≡ c1 → e ≡ e1
    → below_by r l (eqb (depth x) 16) c e x o ≡ below_by r1 l1 (eqb (depth x) 16) c1 e1 x o
tests_same x o er el ec ee = λ i. below_by (er i) (el i) (eqb (depth x) 16) (ec i) (ee i) x o

pub overflow_goes : (x y : List ℕ) (o : Overflow) → IsOrdinary (op_of x) → depth x ≡ 16 + length o.below
    → (is_left (op_of x) ≡ true → depth x ≢ 16 → s y 15 ≡ slice_index o.below 0) → (is_left (op_of x) ≡ true → depth x ≡ 16 → s y 15 ≡ 0)
    → Behind (shift_of (op_of x)) (s x 15) (s y 15) o.below (overflow_behind x o).below
overflow_goes x y o k deep finds flat_is = go (shift_of (op_of x)) refl
  where
    lefts : row_shifts_left x ≡ is_left (op_of x)
    lefts = ap (λ u. is_left (op_of x) || (u && eqb (h x 4) 1)) k.not_end ∙ or_none refl

    returns : row_returns x ≡ false
    returns = ap (λ u. u && eqb (felt_add (h x 6) (h x 7)) 1) k.not_end

    by : (shift : Shift) → shift_of (op_of x) ≡ shift
        → (overflow_behind x o).below ≡ (below_by (is_shift Right shift) (is_shift Left shift) (eqb (depth x) 16) false false x o).below
    by shift e =
        ap (λ (u : Overflow). u.below) (tests_same x o (ap (is_shift Right) e) (lefts ∙ ap (is_shift Left) e) k.not_call returns)

    flat : (t : Bool) → eqb (depth x) 16 ≡ t → (overflow_behind x o).below ≡ (below_by false true t false false x o).below
        → is_left (op_of x) ≡ true → ((overflow_behind x o).below ≡ drop 1 o.below) × (s y 15 ≡ slice_index o.below 0)
    flat true is e left =
        let at : depth x ≡ 16 = eqb-true (depth x) 16 is in
        let none : o.below ≡ [] = none_below deep at in
        (e ∙ none ∙ ap (drop 1) (sym none), flat_is left at ∙ ap (λ (u : List ℕ). slice_index u 0) (sym none))
    flat false is e left = (e, finds left (eqb-false (depth x) 16 is))

    go : (shift : Shift) → shift_of (op_of x) ≡ shift → Behind shift (s x 15) (s y 15) o.below (overflow_behind x o).below
    go Right e = by Right e
    go Stay e = by Stay e
    go Left e = flat (eqb (depth x) 16) refl (by Left e) (ap (is_shift Left) e)

-- ---- the tape

pub tape_goes : (rows : List (List ℕ)) (i : ℕ) → suc i < length rows
    → tape_of (drop i rows) ≡ taken_by (op_of (row_at rows i)) (row_at rows (suc i)) ++ tape_of (drop (suc i) rows)
unfolding tape_of
tape_goes [] i few = absurd (omega (arith, few))
tape_goes (x ∷ []) i few = absurd (omega (arith, few))
tape_goes (x ∷ (y ∷ rows)) zero few = refl
tape_goes (x ∷ (y ∷ rows)) (suc i) few = tape_goes (y ∷ rows) i (omega (arith, few))

-- ---- all of it

pub place_goes : (constants deep : List ℕ) (k : Claim) (rows : List (List ℕ)) (i : ℕ) → ShowsRows k rows → IsPlace constants deep rows i
    → GoesOnBy (op_in rows i) (row_at rows i) (row_at rows (suc i)) (elsewhere_at deep rows i) (elsewhere_at deep rows (suc i))
unfolding overflow_at memory_at
place_goes constants deep k rows i shows p =
    let x : List ℕ = row_at rows i in
    let y : List ℕ = row_at rows (suc i) in
    let o = ordinary (op_of x) p.ordinary in
    let pair = shows.pair_is i p.within in
    let last : is_left (op_of x) ≡ true → depth x ≡ 16 → s y 15 ≡ 0 =
    (subst (λ (m : Op). ShiftsCells m x y) (mover_is (op_of x) x o) pair.stack.shifts).last in
    record {
      below = below_from p.here.depth_is
          (overflow_goes x y (overflow_at deep rows i) o p.here.depth_is p.finds last);
      memory = refl;
      tape = tape_goes rows i p.within;
    }

pub place_shows : (constants deep : List ℕ) (k : Claim) (rows : List (List ℕ)) (i : ℕ) → length constants ≡ number_of_constants
    → ShowsRows k rows → IsPlace constants deep rows i
    → ShowsStep constants (op_in rows i) (row_at rows i) (row_at rows (suc i)) (elsewhere_at deep rows i) (elsewhere_at deep rows (suc i))
place_shows constants deep k rows i count shows p =
    rows_show constants (op_in rows i) (op_in rows (suc i)) (row_at rows i) (row_at rows (suc i)) (elsewhere_at deep rows i)
    (elsewhere_at deep rows (suc i)) count p.ordinary p.here
    (shows.row_is i (below_next i (length rows) p.within)) (shows.pair_is i p.within) (place_goes constants deep k rows i shows p) p.looks
  where
    below_next : (n m : ℕ) → suc n < m → n < m
    below_next n m h = omega (arith, h)
