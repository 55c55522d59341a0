-- How parts are read one after the other.
use Rattle.table_file.proofs.Words.{◌≡◌, ℕ, zero, suc, ◌+◌, ◌-◌, ◌*◌, ◌<◌, ◌≤◌, List, [], ◌∷◌, ◌++◌, take, set, length, Result, Ok, Err, refl, sym, ap, ◌∙◌}
use Rattle.table_file.proofs.Words.{arith, append_assoc, append-nil, take-suc-set, take_all, FileError, behind, parts_at}

module _ {A : Type 0} (part : ℕ → Result A FileError) (size : ℕ) where
  pub parts_more : (m at : ℕ) (x : A) → part at ≡ Ok x
      → parts_at part size (suc m) at ≡ behind (parts_at part size m (at + size)) (λ rest. Ok (x ∷ rest))
  unfolding parts_at
  parts_more m at x is = ap (λ o. behind o (λ y. behind (parts_at part size m (at + size)) (λ rest. Ok (y ∷ rest)))) is

  pub parts_stop : (m at : ℕ) (e : FileError) → part at ≡ Err e → parts_at part size (suc m) at ≡ Err e
  unfolding parts_at
  parts_stop m at e is = ap (λ o. behind o (λ y. behind (parts_at part size m (at + size)) (λ rest. Ok (y ∷ rest)))) is

  pub parts_none : (at : ℕ) → parts_at part size zero at ≡ Ok []
  unfolding parts_at
  parts_none at = refl

  -- what stands in front of a part goes in front of what follows it
  front_more : (front : List A) (x : A) (rest : Result (List A) FileError)
      → behind (behind rest (λ r. Ok (x ∷ r))) (λ r. Ok (front ++ r)) ≡ behind rest (λ r. Ok ((front ++ x ∷ []) ++ r))
  front_more front x (Err e) = refl
  front_more front x (Ok r) = ap (λ all. Ok all) (sym (append_assoc front (x ∷ []) r))

  -- the parts so far, with those that are left, are all of them
  abbrev pub Goes : ℕ → ℕ → ℕ → List A → Type 0
  Goes at count i front = behind (parts_at part size (count - i) (at + size * i)) (λ rest. Ok (front ++ rest)) ≡ parts_at part size count at

  pub goes_on : (at count i : ℕ) (front : List A) (x : A) → i < count → Ok x ≡ part (at + size * i) → Goes at count i front
      → Goes at count (i + 1) (front ++ x ∷ [])
  goes_on at count i front x within is so_far =
      let left : count - i ≡ suc (count - (i + 1)) = omega arith in
      let places : at + size * (i + 1) ≡ at + size * i + size = omega arith in
      ap (λ (place : ℕ). behind (parts_at part size (count - (i + 1)) place) (λ rest. Ok ((front ++ x ∷ []) ++ rest))) places
      ∙ sym (front_more front x (parts_at part size (count - (i + 1)) (at + size * i + size)))
      ∙ ap (λ r. behind r (λ rest. Ok (front ++ rest)))
      (sym (parts_more (count - (i + 1)) (at + size * i) x (sym is))
      ∙ ap (λ n. parts_at part size n (at + size * i)) (sym left))
      ∙ so_far

  pub stops : (at count i : ℕ) (front : List A) (e : FileError) → i < count → Err e ≡ part (at + size * i) → Goes at count i front
      → parts_at part size count at ≡ Err e
  stops at count i front e within is so_far =
      let left : count - i ≡ suc (count - (i + 1)) = omega arith in
      sym so_far ∙ ap (λ r. behind r (λ rest. Ok (front ++ rest)))
      (ap (λ n. parts_at part size n (at + size * i)) left ∙ parts_stop (count - (i + 1)) (at + size * i) e (sym is))

  pub ends : (at count i : ℕ) (front : List A) → count ≤ i → Goes at count i front → parts_at part size count at ≡ Ok front
  ends at count i front past so_far =
      let none : count - i ≡ 0 = omega arith in
      sym so_far ∙ ap (λ r. behind r (λ rest. Ok (front ++ rest)))
      (ap (λ n. parts_at part size n (at + size * i)) none ∙ parts_none (at + size * i)) ∙ ap (λ all. Ok all) (append-nil front)

  -- the same where the parts stand in an array that is filled from its front
  pub goes_on_in : (at count i : ℕ) (row : List A) (x : A) → i < count → i < length row → Ok x ≡ part (at + size * i)
      → Goes at count i (take i row) → Goes at count (i + 1) (take (i + 1) (set row i x))
  goes_on_in at count i row x within inside is so_far =
      let next : i + 1 ≡ suc i = omega arith in
      ap (λ (front : List A). behind (parts_at part size (count - (i + 1)) (at + size * (i + 1))) (λ rest. Ok (front ++ rest)))
      (ap (λ n. take n (set row i x)) next ∙ take-suc-set row i x inside)
      ∙ goes_on at count i (take i row) x within is so_far

  pub ends_in : (at count i : ℕ) (row : List A) → count ≤ i → length row ≤ i → Goes at count i (take i row) → parts_at part size count at ≡ Ok row
  ends_in at count i row past full so_far = ends at count i (take i row) past so_far ∙ ap (λ all. Ok all) (take_all i row full)

  -- a further part behind a front
  pub goes_behind : (m at : ℕ) (front : List A) (x : A) → part at ≡ Ok x
      → behind (parts_at part size m (at + size)) (λ rest. Ok ((front ++ x ∷ []) ++ rest))
      ≡ behind (parts_at part size (suc m) at) (λ rest. Ok (front ++ rest))
  goes_behind m at front x is =
      sym (front_more front x (parts_at part size m (at + size))) ∙ ap (λ r. behind r (λ rest. Ok (front ++ rest))) (sym (parts_more m at x is))
