-- The next asked value above one.
use Rattle.fill_chips.proofs.Words.{◌≡◌, ℕ, ◌+◌, ◌<◌, ◌≤◌, inl, inr, true, false, cond, eqb, ltb, min, List, [], ◌∷◌, slice_index, refl, sym, subst, arith}
use Rattle.fill_chips.proofs.Words.{cases_lt, nat_tests, sum_by-cons, AreTimes, next_asked, times_asked}

pub times-cons : (value : ℕ) (asked : List ℕ) (v : ℕ) → times_asked (value ∷ asked) v ≡ cond (eqb value v) 1 0 + times_asked asked v
times-cons value asked v = sum_by-cons (λ x. cond (eqb x v) 1 0) value asked

next-none : (v : ℕ) → next_asked [] v ≡ 65535
unfolding next_asked
next-none v = refl

next-cons : (value : ℕ) (asked : List ℕ) (v : ℕ)
    → next_asked (value ∷ asked) v ≡ cond (ltb v value) (min value (next_asked asked v)) (next_asked asked v)
unfolding next_asked
next-cons value asked v = refl

pub next-last : (asked : List ℕ) (v : ℕ) → next_asked asked v ≤ 65535
unfolding next_asked
next-last [] v = omega arith
next-last (value ∷ asked) v = let later = next-last asked v in let e = next-cons value asked v in grind (arith, nat_tests)

pub next-above : (asked : List ℕ) (v : ℕ) → v < 65535 → v < next_asked asked v
unfolding next_asked
next-above [] v h = h
next-above (value ∷ asked) v h = let later = next-above asked v h in let e = next-cons value asked v in grind (arith, nat_tests)

more-asked : (value : ℕ) (asked : List ℕ) (v : ℕ) → 0 < times_asked asked v → 0 < times_asked (value ∷ asked) v
more-asked value asked v some = let t = times-cons value asked v in omega (arith, t, some)

here-asked : (value : ℕ) (asked : List ℕ) → 0 < times_asked (value ∷ asked) value
here-asked value asked =
    let t = times-cons value asked value in
    let own : eqb value value ≡ true = grind (arith, nat_tests) in
    let one : ◌≡◌ {A = ℕ} (cond (eqb value value) 1 0) 1 = rw own refl in
    omega (arith, t, one)

kept-asked : (value : ℕ) (asked : List ℕ) (v : ℕ) → next_asked (value ∷ asked) v ≡ next_asked asked v → 0 < times_asked asked (next_asked asked v)
    → 0 < times_asked (value ∷ asked) (next_asked (value ∷ asked) v)
kept-asked value asked v e some = subst (λ n. 0 < times_asked (value ∷ asked) n) (sym e) (more-asked value asked (next_asked asked v) some)

-- it is asked, unless it is the table's last value
pub next-asked : (asked : List ℕ) (v : ℕ) → next_asked asked v < 65535 → 0 < times_asked asked (next_asked asked v)
next-asked [] v h = absurd (let e = next-none v in omega (arith, e))
next-asked (value ∷ asked) v h = elim (cases_lt v value) [
  | inl above ↦ elim (cases_lt (next_asked asked v) value) [
    | inl more ↦
        let e : next_asked (value ∷ asked) v ≡ next_asked asked v = (let n = next-cons value asked v in grind (arith, nat_tests)) in
        kept-asked value asked v e (next-asked asked v (omega (arith, e, h)))
    | inr less ↦
        let e : next_asked (value ∷ asked) v ≡ value = (let n = next-cons value asked v in grind (arith, nat_tests)) in
        subst (λ n. 0 < times_asked (value ∷ asked) n) (sym e) (here-asked value asked)
  ]
  | inr below ↦
      let e : next_asked (value ∷ asked) v ≡ next_asked asked v = (let n = next-cons value asked v in grind (arith, nat_tests)) in
      kept-asked value asked v e (next-asked asked v (omega (arith, e, h)))
]

-- and none before it is
pub next-least : (asked : List ℕ) (v u : ℕ) → v < u → u < next_asked asked v → times_asked asked u ≡ 0
next-least [] v u above below = refl
next-least (value ∷ asked) v u above below =
    let n = next-cons value asked v in
    let t = times-cons value asked u in
    let within : u < next_asked asked v = grind (arith, nat_tests) in
    let later = next-least asked v u above within in
    let apart : eqb value u ≡ false = grind (arith, nat_tests) in
    grind (arith, nat_tests)

pub next-is : (asked times : List ℕ) (v r : ℕ) → AreTimes asked times → v < 65535 → v < r → r ≤ 65535
    → (r < 65535 → 0 < slice_index times r) → ((u : ℕ) → v < u → u < r → slice_index times u ≡ 0) → r ≡ next_asked asked v
next-is asked times v r are h above last reached least = elim (cases_lt r (next_asked asked v)) [
  | inl less ↦ absurd (
      let most = next-last asked v in
      let none = next-least asked v r above less in
      let some = reached (omega arith) in
      let is = are.counts r (omega arith) in
      omega arith)
  | inr more ↦ elim (cases_lt (next_asked asked v) r) [
    | inl less ↦ absurd (
        let most = next-last asked v in
        let beyond = next-above asked v h in
        let some = next-asked asked v (omega arith) in
        let none = least (next_asked asked v) beyond less in
        let is = are.counts (next_asked asked v) (omega arith) in
        omega arith)
    | inr same ↦ omega arith
  ]
]
