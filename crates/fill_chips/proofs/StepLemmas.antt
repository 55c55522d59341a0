-- The step of the range table: none goes too far, and each goes on.
use Rattle.fill_chips.proofs.Words.{◌≡◌, ℕ, suc, ◌+◌, ◌<◌, ◌≤◌, cond, leb, List, [], ◌∷◌, length, get_or, drop, refl, arith, add-one, drop-cons, drop_all}
use Rattle.fill_chips.proofs.Words.{nat_tests, allowed_steps, step_within}

pub step-cons : (s : ℕ) (steps : List ℕ) (d : ℕ) → step_within (s ∷ steps) d ≡ cond (leb s d) s (step_within steps d)
unfolding step_within
step-cons s steps d = refl

pub step-far : (steps : List ℕ) (d : ℕ) → step_within steps d ≤ d
unfolding step_within
step-far [] d = omega arith
step-far (s ∷ steps) d = let later = step-far steps d in grind (arith, nat_tests)

longer : (s : ℕ) (steps : List ℕ) (d : ℕ) → 0 < s → 0 < step_within steps d → 0 < step_within (s ∷ steps) d
longer s steps d h later = let e = step-cons s steps d in grind (arith, nat_tests)

last_step : (d : ℕ) → 0 < d → 0 < step_within (1 ∷ []) d
last_step d h = let e = step-cons 1 [] d in grind (arith, nat_tests)

pub step-on : (d : ℕ) → 0 < d → 0 < step_within allowed_steps d
step-on d h =
    longer 2187 _ d (omega arith) (longer 729 _ d (omega arith) (longer 243 _ d (omega arith) (longer 81 _ d (omega arith)
    (longer 27 _ d (omega arith) (longer 9 _ d (omega arith) (longer 3 _ d (omega arith) (last_step d h)))))))

-- one by one
pub step-found : (steps : List ℕ) (i d : ℕ) → i < length steps → get_or steps i 0 ≤ d → step_within (drop i steps) d ≡ get_or steps i 0
step-found steps i d within far =
    let e = step-cons (get_or steps i 0) (drop (suc i) steps) d in
    rw (drop-cons steps i 0 within) (grind (arith, nat_tests))

pub step-passed : (steps : List ℕ) (i d : ℕ) → i < length steps → d < get_or steps i 0
    → step_within (drop i steps) d ≡ step_within (drop (i + 1) steps) d
step-passed steps i d within far =
    let e = step-cons (get_or steps i 0) (drop (suc i) steps) d in
    rw (add-one i, drop-cons steps i 0 within) (grind (arith, nat_tests))

pub step-past : (steps : List ℕ) (i d : ℕ) → length steps ≤ i → step_within (drop i steps) d ≡ 0
unfolding step_within
step-past steps i d past = rw (drop_all i steps past) refl
