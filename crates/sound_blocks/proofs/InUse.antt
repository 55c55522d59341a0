-- The positions that a row says are in use are those of its batch.
use Rattle.sound_blocks.proofs.Words.{◌≡◌, ◌≢◌, ◌⊎◌, inl, inr, ℕ, zero, suc, ◌+◌, ◌-◌, ◌*◌, ◌<◌, ◌≤◌, true, false, ◌&&◌, List, [], ◌∷◌, drop, slice_index, refl}
use Rattle.sound_blocks.proofs.Words.{sym, ap, ap₂, ◌∙◌, arith, take, and_right, cases_lt, eqb, eq-eqb, ne_eqb, cond-true, cond-false, drop-cons, drop-take}
use Rattle.sound_blocks.proofs.Words.{get_or-drop, get_or-take, get_or_past, length-take-le, felt_add, felt_mul, h, c, eight, positions}
use Rattle.op_pack.specs.Reading.{are_zero, positions_in_use}
use Rattle.facts_main.specs.Batches.{IsBatchRow, ShowsBatch}
use Rattle.facts_main.proofs.BatchFacts.{half_used}
use Rattle.sound_blocks.proofs.Listed.{listed, listed_at}

all_zero : (xs : List ℕ) → ((k : ℕ) → slice_index xs k ≡ 0) → are_zero xs ≡ true
all_zero [] none = refl
all_zero (x ∷ xs) none = ap (λ b. b && are_zero xs) (eq-eqb x 0 (none 0)) ∙ all_zero xs (λ k. none (suc k))

not_all_zero : (xs : List ℕ) (k : ℕ) → slice_index xs k ≢ 0 → are_zero xs ≡ false
not_all_zero [] k some = absurd (some refl)
not_all_zero (x ∷ xs) zero some = ap (λ b. b && are_zero xs) (ne_eqb x 0 some)
not_all_zero (x ∷ xs) (suc k) some = and_right (eqb x 0) (are_zero xs) (not_all_zero xs k some)

at_place : (x : List ℕ) (q : ℕ) → q < 8 → slice_index (eight x) q ≡ h x q
unfolding listed
at_place x q few = listed_at (h x) 0 8 q few ∙ ap (h x) (let e : 0 + q ≡ q = omega arith in e)

-- the positions from position n on, where no operation uses them, and where one of them is not 0
zero_from : (x : List ℕ) → ShowsBatch x → (n : ℕ) → positions x ≤ n → are_zero (drop n (eight x)) ≡ true
zero_from x shows n few = all_zero (drop n (eight x)) (λ k. get_or-drop n (eight x) k 0 ∙ go k)
  where
    go : (k : ℕ) → slice_index (eight x) (n + k) ≡ 0
    go k = elim (cases_lt (n + k) 8) [
      | inl h ↦ at_place x (n + k) h ∙ shows.unused (n + k) (omega (arith, few)) h
      | inr h ↦ get_or_past (eight x) (n + k) 0 h
    ]

some_from : (x : List ℕ) (n q : ℕ) → n ≤ q → q < 8 → h x q ≢ 0 → are_zero (drop n (eight x)) ≡ false
some_from x n q least few some =
    not_all_zero (drop n (eight x)) (q - n) (λ e. some (sym (at_place x q few)
    ∙ ap (slice_index (eight x)) (let f : q ≡ n + (q - n) = omega (arith, least) in f) ∙ sym (get_or-drop n (eight x) (q - n) 0) ∙ e))

-- ---- the numbers of positions

abbrev IsNumber : ℕ → Type 0
IsNumber n = (n ≡ 1) ⊎ ((n ≡ 2) ⊎ ((n ≡ 4) ⊎ (n ≡ 8)))

among : (i j k : ℕ) → i + j + k ≤ 1 → IsNumber (felt_add (felt_add (felt_add 1 (felt_mul 7 i)) (felt_mul 3 j)) k)
among zero zero zero most = inl refl
among (suc zero) zero zero most = inr (inr (inr refl))
among zero (suc zero) zero most = inr (inr (inl refl))
among zero zero (suc zero) most = inr (inl refl)
among i j k most = absurd (omega (arith, most))

is_number : (x : List ℕ) → IsBatchRow x → IsNumber (positions x)
unfolding positions
is_number x batch = among (c x 0) (c x 1) (c x 2) batch.most

module _ (x : List ℕ) (shows : ShowsBatch x) where
  -- where there are more than one, one of those of the second half is not 0
  half_some : (n : ℕ) → 0 < n → 2 * n ≤ positions x → are_zero (drop n (eight x)) ≡ false
  half_some n more least =
      let u = half_used x shows (omega (arith, more, least)) in
      some_from x n u.place (omega (arith, u.behind, least)) (omega (arith, u.within, shows.is_batch.room)) u.some

  in_use_by : IsNumber (positions x) → positions_in_use (eight x) ≡ positions x
  in_use_by (inl e) = cond-true _ _ _ (zero_from x shows 1 (omega (arith, e))) ∙ sym e
  in_use_by (inr (inl e)) =
      cond-false _ _ _ (half_some 1 (omega arith) (omega (arith, e))) ∙ cond-true _ _ _ (zero_from x shows 2 (omega (arith, e))) ∙ sym e
  in_use_by (inr (inr (inl e))) =
      cond-false _ _ _ (half_some 1 (omega arith) (omega (arith, e))) ∙ cond-false _ _ _ (half_some 2 (omega arith) (omega (arith, e)))
      ∙ cond-true _ _ _ (zero_from x shows 4 (omega (arith, e))) ∙ sym e
  in_use_by (inr (inr (inr e))) =
      cond-false _ _ _ (half_some 1 (omega arith) (omega (arith, e))) ∙ cond-false _ _ _ (half_some 2 (omega arith) (omega (arith, e)))
      ∙ cond-false _ _ _ (half_some 4 (omega arith) (omega (arith, e))) ∙ sym e

  pub in_use_is : positions_in_use (eight x) ≡ positions x
  in_use_is = in_use_by (is_number x shows.is_batch)

-- ---- the positions that are left

-- an element that is taken where so many positions are left: the first of these
pub record TakesPlace (x : List ℕ) (left element : ℕ) : Type 0 where
  pub place : ℕ
  pub behind : 0 < place
  pub in_use : place < positions x
  pub left_is : left + place ≡ positions x
  pub is : element ≡ h x place

-- the positions, where so many are left
abbrev pub left_of : List ℕ → ℕ → List ℕ
left_of x left = drop (positions x - left) (take (positions x) (eight x))

pub left_more : (x : List ℕ) (left later : ℕ) {element : ℕ} → positions x ≤ 8 → TakesPlace x left element → left ≡ suc later
    → left_of x left ≡ element ∷ left_of x later
left_more x left later few p e =
    ap (λ n. drop n used) (let f : positions x - left ≡ p.place = omega (arith, p.left_is) in f)
    ∙ drop-cons used p.place 0 (rw (length-take-le (positions x) (eight x) few) p.in_use)
    ∙ ap₂ (λ v xs. v ∷ xs)
    (get_or-take (positions x) (eight x) p.place 0 p.in_use ∙ at_place x p.place (omega (arith, few, p.in_use)) ∙ sym p.is)
    (ap (λ n. drop n used) (let f : suc p.place ≡ positions x - later = omega (arith, p.left_is, e) in f))
  where
    used : List ℕ
    used = take (positions x) (eight x)

pub left_none : (x : List ℕ) (left : ℕ) → left ≡ 0 → left_of x left ≡ []
left_none x left e =
    ap (λ n. drop n (take (positions x) (eight x))) (let f : positions x - left ≡ positions x = omega (arith, e) in f)
    ∙ ap (λ n. drop (positions x) (take n (eight x))) (let f : positions x ≡ positions x + 0 = omega arith in f)
    ∙ drop-take (positions x) 0 (eight x)
