-- How high the blocks of a list stand once they are joined: only those count that are higher than all before them.
use Rattle.std.proofs.Common.{◌≡◌, ◌≢◌, ℕ, zero, suc, ◌+◌, ◌*◌, ◌/◌, ◌%◌, ◌<◌, ◌≤◌, min, max, Bool, true, false, cond, List, [], ◌∷◌, length, map, inl, inr, refl, sym, ap, ap₂, subst, ◌∙◌, arith}
use Rattle.std.specs.Prelude.{nat_le, nat_lt}
use Rattle.std.proofs.lemmas.Bool.{cases_Bool, cases_lt}
use Rattle.std.proofs.lemmas.Bool.Decides.{nat_tests}
use Rattle.std.proofs.lemmas.List.{length-map}
use Rattle.masm_size.specs.declared.shape.Rise.{Rise}
use Rattle.masm_flat.specs.Blocks.{paired, joined, all_joined}
use Rattle.masm_size.specs.Sizes.{Shape, ShapeRow, one_if, capped, rises_from, row_of, ends_in_run, height_of, one_high, join_heights, height_joined, is_joined, height_next, height_within, height_among, highest, row_height}

-- levels

-- tests of numbers
pub yes_le : (m n : ℕ) → m ≤ n → nat_le m n ≡ true
yes_le m n h = grind (arith, nat_tests)

pub no_le : (m n : ℕ) → n < m → nat_le m n ≡ false
no_le m n h = grind (arith, nat_tests)

within-stop : (levels count i h : ℕ) → count ≤ 1 → height_within levels count i h ≡ h
within-stop zero count i h few = refl
within-stop (suc levels) count i h few = let test : nat_lt 1 count ≡ false = grind (arith, nat_tests) in rw test refl

within-go : (levels count i h : ℕ) → 1 < count
    → height_within (suc levels) count i h ≡ height_within levels (count / 2 + count % 2) (i / 2) (height_next count i h)
within-go levels count i h more = let test : nat_lt 1 count ≡ true = grind (arith, nat_tests) in rw test refl

-- more levels than are needed change nothing
enough : (n m count i h : ℕ) → count ≤ suc n → count ≤ suc m → height_within n count i h ≡ height_within m count i h
enough zero m count i h a b = sym (within-stop m count i h (omega arith))
enough (suc n) zero count i h a b = within-stop (suc n) count i h (omega arith)
enough (suc n) (suc m) count i h a b = elim (cases_Bool (nat_lt 1 count)) [
  | inl more ↦ rw more (enough n m (count / 2 + count % 2) (i / 2) (height_next count i h) (omega arith) (omega arith))
  | inr few ↦ rw few refl
]

pub among-done : (count i h : ℕ) → count ≤ 1 → height_among count i h ≡ h
unfolding height_among
among-done count i h few = within-stop count count i h few

pub among-next : (count i h : ℕ) → 1 < count → height_among count i h ≡ height_among (count / 2 + count % 2) (i / 2) (height_next count i h)
unfolding height_among
among-next zero i h more = absurd (omega arith)
among-next (suc n) i h more =
    within-go n (suc n) i h more
    ∙ enough n (suc n / 2 + suc n % 2) (suc n / 2 + suc n % 2) (i / 2) (height_next (suc n) i h) (omega arith) (omega arith)

pub ruleset levels = (among-done, among-next)

-- heights on the next level

next-max : (t : Bool) (a b : ℕ) → cond t (min (1 + max a b) 1025) (max a b) ≡ max (cond t (min (1 + a) 1025) a) (cond t (min (1 + b) 1025) b)
next-max true a b = omega arith
next-max false a b = refl

next-less : (t : Bool) (a b : ℕ) → b ≤ a → cond t (min (1 + b) 1025) b ≤ cond t (min (1 + a) 1025) a
next-less true a b h = omega arith
next-less false a b h = h

next-joined : (t : Bool) (a b : ℕ) → b ≤ a → b ≤ 1025 → cond t (min (1 + b) 1025) b ≤ min (1 + a) 1025
next-joined true a b h low = omega arith
next-joined false a b h low = omega arith

next-low : (t : Bool) (b : ℕ) → b ≤ 1025 → cond t (min (1 + b) 1025) b ≤ 1025
next-low true b low = omega arith
next-low false b low = low

next-mono : (count i k a b : ℕ) → i ≤ k → k < count → b ≤ a → b ≤ 1025 → height_next count k b ≤ height_next count i a
next-mono count i k a b before below less low = elim (cases_lt (i + 1) count) [
  | inl inside ↦
      let test : is_joined count i ≡ true = grind (arith, nat_tests) in
      subst (λ h. height_next count k b ≤ h) (sym (ap (λ t. cond t (min (1 + a) 1025) a) test)) (next-joined (is_joined count k) a b less low)
  | inr last ↦
      let same : k ≡ i = omega arith in
      subst (λ j. height_next count j b ≤ height_next count i a) (sym same) (next-less (is_joined count i) a b less)
]

within-max : (levels count i a b : ℕ) → height_within levels count i (max a b) ≡ max (height_within levels count i a) (height_within levels count i b)
within-max zero count i a b = refl
within-max (suc levels) count i a b = elim (cases_Bool (nat_lt 1 count)) [
  | inl more ↦ rw more (ap (height_within levels (count / 2 + count % 2) (i / 2)) (next-max (is_joined count i) a b)
      ∙ within-max levels (count / 2 + count % 2) (i / 2) (height_next count i a) (height_next count i b))
  | inr few ↦ rw few refl
]

-- no block stands deeper than one before it
within-mono : (levels count i k a b : ℕ) → i ≤ k → k < count → b ≤ a → b ≤ 1025 → height_within levels count k b ≤ height_within levels count i a
within-mono zero count i k a b before below less low = less
within-mono (suc levels) count i k a b before below less low = elim (cases_Bool (nat_lt 1 count)) [
  | inl more ↦ rw more (within-mono levels (count / 2 + count % 2) (i / 2) (k / 2) (height_next count i a) (height_next count k b) (omega arith)
      (omega arith) (next-mono count i k a b before below less low) (next-low (is_joined count k) b low))
  | inr few ↦ rw few less
]

-- the greatest height of all blocks
abbrev best : (levels count index : ℕ) → List ℕ → ℕ
best levels count i [] = 0
best levels count i (h ∷ hs) = max (height_within levels count i h) (best levels count (suc i) hs)

even_half : (q : ℕ) → 2 * q / 2 ≡ q
even_half q = omega arith

odd_half : (q : ℕ) → suc (2 * q) / 2 ≡ q
odd_half q = omega arith

best-paired : (levels count q : ℕ) (hs : List ℕ) → 2 * q + length hs ≡ count → 1 < count
    → best (suc levels) count (2 * q) hs ≡ best levels (count / 2 + count % 2) q (paired one_high join_heights hs)
best-paired levels count q [] all more = refl
best-paired levels count q (a ∷ []) all more =
    let test : is_joined count (2 * q) ≡ false = grind (arith, nat_tests) in
    ap (λ h. max h 0) (within-go levels count (2 * q) a more
    ∙ ap₂ (height_within levels (count / 2 + count % 2)) (even_half q) (ap (λ t. cond t (min (1 + a) 1025) a) test))
best-paired levels count q (a ∷ b ∷ hs) all more =
    let half = count / 2 + count % 2 in
    let test_a : is_joined count (2 * q) ≡ true = grind (arith, nat_tests) in
    let test_b : is_joined count (suc (2 * q)) ≡ true = grind (arith, nat_tests) in
    let first : height_within (suc levels) count (2 * q) a ≡ height_within levels half q (min (1 + a) 1025) =
    within-go levels count (2 * q) a more ∙ ap₂ (height_within levels half) (even_half q) (ap (λ t. cond t (min (1 + a) 1025) a) test_a) in
    let second : height_within (suc levels) count (suc (2 * q)) b ≡ height_within levels half q (min (1 + b) 1025) =
    within-go levels count (suc (2 * q)) b more ∙ ap₂ (height_within levels half) (odd_half q) (ap (λ t. cond t (min (1 + b) 1025) b) test_b) in
    let pair : join_heights a b ≡ max (min (1 + a) 1025) (min (1 + b) 1025) = omega arith in
    let both = ap (height_within levels half q) pair ∙ within-max levels half q (min (1 + a) 1025) (min (1 + b) 1025) in
    let next : suc (suc (2 * q)) ≡ 2 * suc q = omega arith in
    let rest = ap (λ i. best (suc levels) count i hs) next ∙ best-paired levels count (suc q) hs (omega arith) more in
    omega arith

length-half : (hs : List ℕ) → length (paired one_high join_heights hs) ≡ length hs / 2 + length hs % 2
length-half [] = refl
length-half (a ∷ []) = refl
length-half (a ∷ b ∷ hs) = omega (arith, length-half hs)

joined-best : (n h : ℕ) (hs : List ℕ) → length hs ≤ n → joined one_high join_heights n (h ∷ hs) ≡ best n (suc (length hs)) 0 (h ∷ hs)
joined-best n h [] few = omega (arith, within-stop n 1 0 h (omega arith))
joined-best zero h (b ∷ hs) few = absurd (omega arith)
joined-best (suc n) h (b ∷ hs) few =
    let count = length (h ∷ b ∷ hs) in
    let half = length-half (h ∷ b ∷ hs) in
    joined-best n (join_heights h b) (paired one_high join_heights hs) (omega (arith, length-half hs))
    ∙ (ap (λ k. best n k 0 (paired one_high join_heights (h ∷ b ∷ hs))) half ∙ sym (best-paired n count 0 (h ∷ b ∷ hs) (omega arith) (omega arith)))

-- rises

abbrev pub AreLow : List ℕ → Type 0
AreLow [] = Unit {0}
AreLow (h ∷ hs) = (h ≤ 1025) × AreLow hs

pub rise-taken : (i below h : ℕ) (hs : List ℕ) → below ≤ h
    → rises_from i below (h ∷ hs) ≡ (record { index = capped i; height = h }) ∷ rises_from (suc i) (suc h) hs
rise-taken i below h hs high = rw (yes_le below h high) refl

pub rise-left : (i below h : ℕ) (hs : List ℕ) → h < below → rises_from i below (h ∷ hs) ≡ rises_from (suc i) below hs
rise-left i below h hs low = rw (no_le below h low) refl

highest-rises : (count i below : ℕ) (hs : List ℕ) (c : ℕ) → i + length hs ≡ count → count ≤ 4294967295 → AreLow hs
    → ((k g : ℕ) → i ≤ k → k < count → g < below → height_within count count k g ≤ c)
    → max c (highest count (rises_from i below hs)) ≡ max c (best count count i hs)
unfolding height_among
highest-rises count i below [] c all small low covers = refl
highest-rises count i below (h ∷ hs) c all small low covers = elim (cases_lt h below) [
  | inl under ↦
      let rest = highest-rises count (suc i) below hs c (omega arith) small low.1 (λ k g behind. covers k g (omega arith)) in
      let here = covers i h (omega arith) (omega arith) under in
      let same = ap (highest count) (rise-left i below h hs under) in
      omega arith
  | inr above ↦
      let at = height_within count count i h in
      let rest = highest-rises count (suc i) (suc h) hs (max c at) (omega arith) small low.1
      (λ k g behind inside less.
      let deeper = within-mono count count i k h g (omega arith) inside (omega arith) (omega (arith, low.0)) in omega arith) in
      let same = ap (highest count) (rise-taken i below h hs above) in
      let place : capped i ≡ i = omega arith in
      let first = ap (λ j. height_within count count j h) place in
      omega arith
]

pub one_if-le : (b : Bool) → one_if b ≤ 1
one_if-le true = omega arith
one_if-le false = omega arith

pub row_height-some : (row : ShapeRow) (rises : List Rise) → rises ≢ [] → row_height row rises ≡ highest (capped (row.whole + one_if row.ends)) rises
row_height-some row [] some = absurd (some refl)
row_height-some row (rise ∷ rises) some = refl

pub row_height-none : (row : ShapeRow) (rises : List Rise) → rises ≡ [] → row_height row rises ≡ 1
row_height-none row rises none = ap (row_height row) none

pub ruleset row_heights = (row_height-some, row_height-none)

pub height-row : (xs : List Shape) → length xs ≤ 524288 → AreLow (map height_of xs)
    → row_height (row_of xs) (row_of xs).rises ≡ height_joined (map height_of xs)
unfolding all_joined
height-row [] few low = refl
height-row (x ∷ xs) few low =
    let hs = map height_of xs in
    let h = height_of x in
    let first = rise-taken 0 0 h hs (omega arith) in
    let count = length (x ∷ xs) in
    let one = one_if-le (ends_in_run (x ∷ xs)) in
    let whole : capped ((row_of (x ∷ xs)).whole + one_if (row_of (x ∷ xs)).ends) ≡ count = omega arith in
    let same : length hs ≡ length xs = length-map xs height_of in
    let best_is = highest-rises count 0 0 (h ∷ hs) 0 (omega arith) (omega arith) low (λ k g before inside less. absurd (omega arith)) in
    let heights : highest count (rises_from 0 0 (h ∷ hs)) ≡ best count count 0 (h ∷ hs) = omega arith in
    ap (row_height (row_of (x ∷ xs))) first
    ∙ (ap (λ n. highest n ((record { index = capped 0; height = h }) ∷ rises_from 1 (suc h) hs)) whole
    ∙ (ap (highest count) (sym first)
    ∙ (heights
    ∙ (ap (λ n. best count n 0 (h ∷ hs)) (ap suc (sym same))
    ∙ (ap (λ n. best n (suc (length hs)) 0 (h ∷ hs)) (ap suc (sym same))
    ∙ sym (joined-best (suc (length hs)) h hs (omega arith)))))))
