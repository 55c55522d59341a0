-- A number whose powers modulo n first come back to 1 at n - 1 has every remainder but 0 among its powers.
-- From this a^(n - 1) is 1 for each of those, and n divides no product of two numbers that it does not divide.
use Rattle.std.proofs.Common.{◌≡◌, ◌≢◌, ℕ, zero, suc, ◌+◌, ◌-◌, ◌*◌, ◌/◌, ◌%◌, ◌<◌, ◌≤◌, ◌⊎◌, Bool, true, false, cond, eqb, ltb, List, [], ◌∷◌, inl, inr, ⊎_elim, sym, refl, ap, ap₂, ◌∙◌, arith, eqb-true, eq-eqb, eq-zero-or-pos}
use Rattle.std.proofs.Math.Nat.{mul-mod_right, mul_comm, mul_assoc, mul_left_comm, eq_of_mul-eq-mul_left, div-add-mod, mul-div_cancel_left, one-mul, zero-mul, mul-zero, mul-one, mod-lt, mod-eq_of_lt, zero-mod, le-mul_of_pos_right, not-suc-le-zero, suc-ne-zero}
use Rattle.std.proofs.lemmas.Bool.{false≢true}
use Rattle.std.proofs.lemmas.Bool.Decides.{nat_tests}
use Rattle.vm_field.specs.Field.{power}
use Rattle.vm_field.proofs.PowerLaws.{power-below, power-add, power-multiple, power-power, power-product, power-mod_base, power-zero_base}

-- what divides a product divides one of its factors
abbrev pub IsEuclid : ℕ → Type 0
IsEuclid q = (a b : ℕ) → (a * b) % q ≡ 0 → (a % q ≡ 0) ⊎ (b % q ≡ 0)

-- ---- counting

moved : ℕ → ℕ → ℕ → ℕ
moved m last x = cond (eqb x m) last x

moved-below : (m last x : ℕ) → x < suc m → last < suc m → x ≢ last → moved m last x < m
unfolding moved
moved-below m last x hx hl ne = grind (arith, nat_tests)

moved-apart : (m last x y : ℕ) → x ≢ y → x ≢ last → y ≢ last → moved m last x ≢ moved m last y
unfolding moved
moved-apart m last x y ne nx ny = λ e. grind (arith, nat_tests)

-- m + 1 numbers below m are not all different
pub pigeonhole : (m : ℕ) (f : ℕ → ℕ) → ((i : ℕ) → i ≤ m → f i < m) → ((i j : ℕ) → i < j → j ≤ m → f i ≢ f j) → ⊥
pigeonhole zero f below apart = not-suc-le-zero (below 0 (omega arith))
pigeonhole (suc m) f below apart =
    pigeonhole m (λ i. moved m (f (suc m)) (f i))
    (λ i h. moved-below m (f (suc m)) (f i) (below i (omega arith)) (below (suc m) (omega arith)) (apart i (suc m) (omega arith) (omega arith)))
    (λ i j h k.
    moved-apart m (f (suc m)) (f i) (f j) (apart i j h (omega arith)) (apart i (suc m) (omega arith) (omega arith))
    (apart j (suc m) (omega arith) (omega arith)))

-- The first number below n that passes, or that none does.
abbrev pub FirstBelow : (ℕ → Bool) → ℕ → Type 0
FirstBelow test n = (k : ℕ) × (k < n) × (test k ≡ true) × ((j : ℕ) → j < k → test j ≡ false)

abbrev pub NoneBelow : (ℕ → Bool) → ℕ → Type 0
NoneBelow test n = (j : ℕ) → j < n → test j ≡ false

pub first_or_none : (test : ℕ → Bool) (n : ℕ) → FirstBelow test n ⊎ NoneBelow test n
first_or_none test zero = inr (λ j h. absurd (omega arith))
first_or_none test (suc n) = go (first_or_none test n) (test n) refl
  where
    none_more : NoneBelow test n → test n ≡ false → (j : ℕ) → j < suc n → (j ≡ n) ⊎ (j < n) → test j ≡ false
    none_more none e j h (inl same) = ap test same ∙ e
    none_more none e j h (inr below) = none j below

    at_or_below : (j : ℕ) → j < suc n → (j ≡ n) ⊎ (j < n)
    at_or_below j h = grind arith

    go : FirstBelow test n ⊎ NoneBelow test n → (b : Bool) → test n ≡ b → FirstBelow test (suc n) ⊎ NoneBelow test (suc n)
    go (inl found) b e = inl (found.0, omega (arith, found.1), found.2, found.3)
    go (inr none) true e = inl (n, omega arith, e, none)
    go (inr none) false e = inr (λ j h. none_more none e j h (at_or_below j h))

-- ---- a generator

-- the product of a list
unfoldable pub product : List ℕ → ℕ
product [] = 1
product (q ∷ qs) = q * product qs

-- a prime factor q of N with which the power of g does not come back to 1 early
pub record IsFactor (n g N q : ℕ) : Type 0 where
  pub positive : 0 < q
  pub Euclid : IsEuclid q
  pub not_early : power n g (N / q) ≢ 1

abbrev pub AllFactors : ℕ → ℕ → ℕ → List ℕ → Type 0
AllFactors n g N [] = Unit {0}
AllFactors n g N (q ∷ qs) = IsFactor n g N q × AllFactors n g N qs

-- g's powers modulo n come back to 1 at N, which is n - 1 and the product of the prime factors qs, and at N / q for none of them
pub record Generates (n g N : ℕ) (qs : List ℕ) : Type 0 where
  pub above_one : 1 < n
  pub whole : N + 1 ≡ n
  pub round : power n g N ≡ 1
  pub factors : product qs ≡ N
  pub each : AllFactors n g N qs

one_of_product : (d c : ℕ) → 1 ≡ d * c → c ≡ 1
one_of_product zero c e = absurd (omega (arith, zero-mul c))
one_of_product (suc d) zero e = absurd (omega (arith, mul-zero (suc d)))
one_of_product (suc d) (suc c) e = omega (arith, le-mul_of_pos_right {m = suc d} (suc c) (omega arith), mul_comm (suc d) (suc c))

whole_multiple : (x q : ℕ) → x % q ≡ 0 → x ≡ q * (x / q)
whole_multiple x q e = sym (div-add-mod x q) ∙ ap (λ r. q * (x / q) + r) e ∙ omega arith

-- a cofactor that no prime factor divides is 1
strip : (n g N : ℕ) (qs : List ℕ) (d c : ℕ) → AllFactors n g N qs → product qs ≡ d * c
    → ((q : ℕ) → IsFactor n g N q → c % q ≢ 0) → c ≡ 1
unfolding product
strip n g N [] d c fs e none = one_of_product d c e
strip n g N (q ∷ qs) d c fs e none =
    ⊎_elim (λ divides. strip n g N qs (d / q) c fs.1 (shrunk divides) none) (λ divides. absurd (none q fs.0 divides))
    (fs.0.Euclid d c (ap (λ x. x % q) (sym e) ∙ mul-mod_right q (product qs)))
  where
    shrunk : d % q ≡ 0 → product qs ≡ d / q * c
    shrunk divides =
        eq_of_mul-eq-mul_left q fs.0.positive (product qs) (d / q * c)
        (e ∙ ap (λ x. x * c) (whole_multiple d q divides) ∙ mul_assoc q (d / q) c)

-- the least exponent whose power is 1 is N
least_is : (n g N : ℕ) (qs : List ℕ) → Generates n g N qs → (d : ℕ) → 0 < d → power n g d ≡ 1
    → ((e : ℕ) → 0 < e → e < d → power n g e ≢ 1) → d ≡ N
least_is n g N qs h d positive one least = d_is
  where
    rest_one : power n g (N % d) ≡ 1
    rest_one =
        sym (mod-eq_of_lt (power-below n g (N % d) (omega (arith, h.above_one)))) ∙ ap (λ x. x % n) (sym (one-mul (power n g (N % d))))
        ∙ ap (λ x. (x * power n g (N % d)) % n) (sym (power-multiple n g d (N / d) h.above_one one))
        ∙ sym (power-add n g (d * (N / d)) (N % d)) ∙ ap (λ x. power n g x) (div-add-mod N d) ∙ h.round

    divides : N % d ≡ 0
    divides = go (eq-zero-or-pos (N % d))
      where
        go : (N % d ≡ 0) ⊎ (0 < N % d) → N % d ≡ 0
        go (inl e) = e
        go (inr above) = absurd (least (N % d) above (mod-lt N positive) rest_one)

    whole : N ≡ d * (N / d)
    whole = whole_multiple N d divides

    no_factor : (q : ℕ) → IsFactor n g N q → (N / d) % q ≢ 0
    no_factor q f e =
        f.not_early (ap (λ x. power n g x) quotient ∙ power-multiple n g d (N / d / q) h.above_one one)
      where
        quotient : N / q ≡ d * (N / d / q)
        quotient =
            ap (λ x. x / q) (whole ∙ ap (λ x. d * x) (whole_multiple (N / d) q e) ∙ mul_left_comm d q (N / d / q))
            ∙ mul-div_cancel_left (d * (N / d / q)) f.positive

    cofactor : N / d ≡ 1
    cofactor = strip n g N qs d (N / d) h.each (h.factors ∙ whole) no_factor

    d_is : d ≡ N
    d_is = sym (mul-one d) ∙ ap (λ x. d * x) (sym cofactor) ∙ sym whole

pub not_early : (n g N : ℕ) (qs : List ℕ) → Generates n g N qs → (k : ℕ) → 0 < k → k < N → power n g k ≢ 1
not_early n g N qs h zero positive below one = absurd (omega arith)
not_early n g N qs h (suc k) positive below one = go (first_or_none test (suc k))
  where
    test : ℕ → Bool
    test j = eqb (power n g (suc j)) 1

    earlier : (d : ℕ) → ((j : ℕ) → j < d → eqb (power n g (suc j)) 1 ≡ false) → (e : ℕ) → 0 < e → e < suc d → power n g e ≢ 1
    earlier d none zero above under one' = absurd (omega arith)
    earlier d none (suc e) above under one' = false≢true (sym (none e (omega arith)) ∙ eq-eqb (power n g (suc e)) 1 one')

    go : FirstBelow test (suc k) ⊎ NoneBelow test (suc k) → ⊥
    go (inl found) =
        let d_is : suc found.0 ≡ N =
        least_is n g N qs h (suc found.0) (omega arith) (eqb-true (power n g (suc found.0)) 1 found.2)
        (earlier found.0 found.3) in
        absurd (omega (arith, d_is, found.1))
    go (inr none) = false≢true (sym (none k (omega arith)) ∙ eq-eqb (power n g (suc k)) 1 one)

-- the powers below N differ
pub powers_differ : (n g N : ℕ) (qs : List ℕ) → Generates n g N qs → (i j : ℕ) → i < j → j < N → power n g i ≢ power n g j
powers_differ n g N qs h i j less below same = not_early n g N qs h (j - i) (omega arith) (omega arith) back
  where
    to_whole : power n g (i + (N - i)) ≡ 1
    to_whole = ap (λ x. power n g x) (omega arith) ∙ h.round

    shifted : power n g (i + (N - i)) ≡ power n g (N + (j - i))
    shifted =
        power-add n g i (N - i) ∙ ap (λ x. (x * power n g (N - i)) % n) same ∙ sym (power-add n g j (N - i))
        ∙ ap (λ x. power n g x) (omega arith)

    back : power n g (j - i) ≡ 1
    back =
        sym (mod-eq_of_lt (power-below n g (j - i) (omega (arith, h.above_one)))) ∙ ap (λ x. x % n) (sym (one-mul (power n g (j - i))))
        ∙ ap (λ x. (x * power n g (j - i)) % n) (sym h.round) ∙ sym (power-add n g N (j - i)) ∙ sym shifted ∙ to_whole

pub power-not_zero : (n g N : ℕ) (qs : List ℕ) → Generates n g N qs → (i : ℕ) → i < N → power n g i ≢ 0
power-not_zero n g N qs h i below e = suc-ne-zero zero whole_zero
  where
    whole_zero : suc zero ≡ zero
    whole_zero =
        sym h.round ∙ ap (λ x. power n g x) (omega arith) ∙ power-add n g i (N - i) ∙ ap (λ x. (x * power n g (N - i)) % n) e
        ∙ ap (λ x. x % n) (zero-mul (power n g (N - i))) ∙ zero-mod n

-- the powers below N, then a, then 0
listed : ℕ → ℕ → ℕ → ℕ → ℕ → ℕ
listed n g N a i = cond (ltb i N) (power n g i) (cond (eqb i N) a 0)

listed-below : (n g N a : ℕ) → 0 < n → a < n → (i : ℕ) → listed n g N a i < n
unfolding listed
listed-below n g N a pos ha i =
    let p = power-below n g i pos in
    grind (arith, nat_tests)

listed-apart : (n g N a : ℕ) → 0 < a → ((i : ℕ) → i < N → power n g i ≢ a) → ((i : ℕ) → i < N → power n g i ≢ 0)
    → ((i j : ℕ) → i < j → j < N → power n g i ≢ power n g j)
    → (i j : ℕ) → i < j → j ≤ N + 1 → listed n g N a i ≢ listed n g N a j
unfolding listed
listed-apart n g N a pos not_a not_zero differ i j less below same =
    grind (arith, nat_tests, not_a i, not_zero i, differ i j less)

-- every remainder but 0 is a power
pub reach : (n g N : ℕ) (qs : List ℕ) → Generates n g N qs → (a : ℕ) → 0 < a → a < n → (k : ℕ) × (power n g k ≡ a)
reach n g N qs h a positive below = go (first_or_none (λ i. eqb (power n g i) a) N)
  where
    missing : NoneBelow (λ i. eqb (power n g i) a) N → (i : ℕ) → i < N → power n g i ≢ a
    missing none i less e = false≢true (sym (none i less) ∙ eq-eqb (power n g i) a e)

    go : FirstBelow (λ i. eqb (power n g i) a) N ⊎ NoneBelow (λ i. eqb (power n g i) a) N → (k : ℕ) × (power n g k ≡ a)
    go (inl found) = (found.0, eqb-true (power n g found.0) a found.2)
    go (inr none) =
        absurd (pigeonhole n (listed n g N a) (λ i _. listed-below n g N a (omega arith) below i)
        (λ i j less low.
        listed-apart n g N a positive (missing none) (power-not_zero n g N qs h) (powers_differ n g N qs h) i j less
        (omega (arith, h.whole))))

-- ---- what follows

pub fermat : (n g N : ℕ) (qs : List ℕ) → Generates n g N qs → (a : ℕ) → 0 < a → a < n → power n a N ≡ 1
fermat n g N qs h a positive below =
    let (k, e) = reach n g N qs h a positive below in
    ap (λ x. power n x N) (sym e) ∙ power-power n g k N ∙ ap (λ x. power n g x) (mul_comm k N)
    ∙ power-multiple n g N k h.above_one h.round

-- n divides no product of two numbers that it does not divide
pub Euclid-from_generator : (n g N : ℕ) (qs : List ℕ) → Generates n g N qs → IsEuclid n
Euclid-from_generator n g N qs h a b e = go (eq-zero-or-pos (a % n)) (eq-zero-or-pos (b % n))
  where
    powered : (x : ℕ) → 0 < x % n → power n x N ≡ 1
    powered x pos = sym (power-mod_base n x N) ∙ fermat n g N qs h (x % n) pos (mod-lt x (omega (arith, h.above_one)))

    zero_power : power n (a * b) N ≡ 0
    zero_power = sym (power-mod_base n (a * b) N) ∙ ap₂ (λ x y. power n x y) e (pred_is) ∙ power-zero_base n (N - 1)
      where
        pred_is : N ≡ suc (N - 1)
        pred_is = omega (arith, h.above_one, h.whole)

    one_power : 0 < a % n → 0 < b % n → power n (a * b) N ≡ 1
    one_power ha hb =
        power-product n a b N ∙ ap₂ (λ x y. (x * y) % n) (powered a ha) (powered b hb) ∙ mod-eq_of_lt h.above_one

    go : (a % n ≡ 0) ⊎ (0 < a % n) → (b % n ≡ 0) ⊎ (0 < b % n) → (a % n ≡ 0) ⊎ (b % n ≡ 0)
    go (inl za) hb = inl za
    go (inr ha) (inl zb) = inr zb
    go (inr ha) (inr hb) = absurd (omega (arith, sym zero_power ∙ one_power ha hb))
