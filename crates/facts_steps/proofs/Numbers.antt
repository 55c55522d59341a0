-- Numbers of 32 bits and their limbs of 16 bits, as elements; their sums and differences.
use Rattle.facts_steps.proofs.Words
use Words.{◌≡◌, ◌≢◌, ℕ, ◌+◌, ◌-◌, ◌*◌, ◌/◌, ◌%◌, ◌^◌, ◌<◌, ◌≤◌, ⊎_elim, Bool, true, false, cond, nat_lt, refl, ap, sym, ◌∙◌, arith, prime, felt_add}
use Words.{felt_sub, felt_mul, felt_inv, felt_mul-felt_inv, either_or, none_is}
use Rattle.std.proofs.lemmas.Bool.{ltb-true, ltb-false}

-- ---- limbs

pub limbs_below : {a b : ℕ} → a < 2 ^ 16 → b < 2 ^ 16 → felt_add a (felt_mul 65536 b) < 2 ^ 32
limbs_below la lb = omega arith

pub limbs_make : {n a b : ℕ} → n < 2 ^ 32 → a ≡ n % 2 ^ 16 → b ≡ n / 2 ^ 16 → n ≡ felt_add a (felt_mul 65536 b)
limbs_make low ea eb = omega arith

pub half_low : (n : ℕ) → n % 2 ^ 16 < 2 ^ 16
half_low n = omega arith

pub half_high : {n : ℕ} → n < 2 ^ 32 → n / 2 ^ 16 < 2 ^ 16
half_high low = omega arith

-- ---- two words

-- the word below and the one on top, of a number
pub record TwoWords (n lo hi : ℕ) : Type 0 where
  pub low : lo ≡ n % 2 ^ 32
  pub high : hi ≡ n / 2 ^ 32

pub words_make : {n lo hi : ℕ} → n < prime → TwoWords n lo hi → n ≡ felt_add lo (felt_mul (2 ^ 32) hi)
words_make low w = omega arith

pub word_low : {n lo hi : ℕ} → TwoWords n lo hi → lo < 2 ^ 32
word_low w = omega arith

pub word_high : {n lo hi : ℕ} → n < prime → TwoWords n lo hi → hi < 2 ^ 32
word_high low w = omega arith

-- Two words are one element in one way alone, where the high one is not 2^32 - 1 unless the low one is 0.
pub whole_below : {lo hi : ℕ} (v : ℕ) → lo < 2 ^ 32 → hi < 2 ^ 32 → (lo ≢ 0 → felt_mul (felt_sub (2 ^ 32 - 1) hi) v ≡ 1)
    → lo + 2 ^ 32 * hi < prime
whole_below {lo = lo} {hi = hi} v ll lh way = ⊎_elim flat some (either_or lo 0)
  where
    flat : lo ≡ 0 → lo + 2 ^ 32 * hi < prime
    flat e = omega (arith, e, lh)

    highest : lo ≢ 0 → hi ≢ 2 ^ 32 - 1
    highest apart e =
        let gone : felt_sub (2 ^ 32 - 1) hi ≡ 0 = omega (arith, e) in
        let product : felt_mul 0 v ≡ 1 = ap (λ n. felt_mul n v) (sym gone) ∙ way apart in
        let none : felt_mul 0 v ≡ 0 = none_is v in omega (arith, none, product)

    some : lo ≢ 0 → lo + 2 ^ 32 * hi < prime
    some apart = let other : hi ≢ 2 ^ 32 - 1 = highest apart in omega (arith, ll, lh, other)

pub whole_is : {n : ℕ} (lo hi : ℕ) → n < prime → lo + 2 ^ 32 * hi < prime → n ≡ felt_add lo (felt_mul (2 ^ 32) hi) → n ≡ lo + 2 ^ 32 * hi
whole_is lo hi low below e = omega arith

pub one_way : {n lo hi v : ℕ} → n < prime → TwoWords n lo hi → v ≡ felt_inv (felt_sub (2 ^ 32 - 1) hi) → lo ≢ 0
    → felt_mul (felt_sub (2 ^ 32 - 1) hi) v ≡ 1
one_way {hi = hi} low w e apart =
    let some : 0 < felt_sub (2 ^ 32 - 1) hi = omega (arith, low, w.low, w.high, apart) in
    let below : felt_sub (2 ^ 32 - 1) hi < prime = omega arith in
    ap (felt_mul (felt_sub (2 ^ 32 - 1) hi)) e ∙ felt_mul-felt_inv (felt_sub (2 ^ 32 - 1) hi) some below

-- ---- sums

pub sum_is : {a b lo hi : ℕ} → a < 2 ^ 32 → b < 2 ^ 32 → lo < 2 ^ 32 → hi < 2 ^ 16 → felt_add a b ≡ felt_add lo (felt_mul (2 ^ 32) hi)
    → b + a ≡ lo + 2 ^ 32 * hi
sum_is la lb ll lh e = omega arith

pub sum_three_is : {a b c lo hi : ℕ} → a < 2 ^ 32 → b < 2 ^ 32 → c < 2 ^ 32 → lo < 2 ^ 32 → hi < 2 ^ 16
    → felt_add (felt_add a b) c ≡ felt_add lo (felt_mul (2 ^ 32) hi) → c + b + a ≡ lo + 2 ^ 32 * hi
sum_three_is la lb lc ll lh e = omega arith

pub sum_make : {a b lo hi : ℕ} → a < 2 ^ 32 → b < 2 ^ 32 → TwoWords (b + a) lo hi → felt_add a b ≡ felt_add lo (felt_mul (2 ^ 32) hi)
sum_make la lb w = omega arith

pub sum_three_make : {a b c lo hi : ℕ} → a < 2 ^ 32 → b < 2 ^ 32 → c < 2 ^ 32 → TwoWords (c + b + a) lo hi
    → felt_add (felt_add a b) c ≡ felt_add lo (felt_mul (2 ^ 32) hi)
sum_three_make la lb lc w = omega arith

-- the high word of a sum of three is a carry, which one limb holds
pub carry_low : {n lo hi : ℕ} → n < 2 ^ 48 → TwoWords n lo hi → hi < 2 ^ 16
carry_low few w = omega arith

-- ---- differences: a - b with a borrow

pub record Borrows (a b borrow rest : ℕ) : Type 0 where
  pub borrow_is : borrow ≡ cond (nat_lt a b) 1 0
  pub rest_is : rest ≡ (a + (2 ^ 32 - b)) % 2 ^ 32

pub borrows_from : {a b w d : ℕ} → a < 2 ^ 32 → b < 2 ^ 32 → d < 2 ^ 32 → w < 2 → felt_add a (felt_mul (2 ^ 32) w) ≡ felt_add b d → Borrows a b w d
borrows_from {a = a} {b = b} {w = w} la lb ld lw e = record {
  borrow_is = go (nat_lt a b) refl;
  rest_is = omega (arith, la, lb, ld, lw, e);
}
  where
    go : (t : Bool) → nat_lt a b ≡ t → w ≡ cond t 1 0
    go true less = let under : a < b = ltb-true a b less in omega (arith, la, lb, ld, lw, e, under)
    go false more = let over : b ≤ a = ltb-false a b more in omega (arith, la, lb, ld, lw, e, over)

pub borrow_low : {a b w d : ℕ} → Borrows a b w d → w < 2
borrow_low {a = a} {b = b} {w = w} h = go (nat_lt a b) h.borrow_is
  where
    go : (t : Bool) → w ≡ cond t 1 0 → w < 2
    go true e = omega (arith, e)
    go false e = omega (arith, e)

pub borrows_make : {a b w d : ℕ} → a < 2 ^ 32 → b < 2 ^ 32 → Borrows a b w d → felt_add a (felt_mul (2 ^ 32) w) ≡ felt_add b d
borrows_make {a = a} {b = b} {w = w} {d = d} la lb h = go (nat_lt a b) refl h.borrow_is h.rest_is
  where
    go : (t : Bool) → nat_lt a b ≡ t → w ≡ cond t 1 0 → d ≡ (a + (2 ^ 32 - b)) % 2 ^ 32 → felt_add a (felt_mul (2 ^ 32) w) ≡ felt_add b d
    go true e is rest = let under : a < b = ltb-true a b e in omega (arith, la, lb, under, is, rest)
    go false e is rest = let over : b ≤ a = ltb-false a b e in omega (arith, la, lb, over, is, rest)
