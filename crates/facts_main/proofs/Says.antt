-- An element that is 0 exactly where something holds.
use Rattle.facts_main.proofs.Words.{◌≡◌, ◌⊎◌, ℕ, zero, suc, ◌*◌, ◌%◌, ◌<◌, Bool, true, false, ◌&&◌, ◌||◌, not, cond, refl, sym, ap, subst, ◌∙◌, inl}
use Rattle.facts_main.proofs.Words.{inr, ⊎_elim, ap₂, arith, lit<, ◌≢◌, eqb, eqb-true, nat_tests, prime, felt_add, felt_sub, felt_mul}
use Rattle.std.proofs.Math.Nat.{mul_assoc}
use Rattle.std.proofs.lemmas.Nat.{mul-mod_first, mul-mod_second}
use Rattle.vm_field.proofs.Algebra.{same_from_sub, felt_sub-same, zero_factor, bit_from_product, felt_mul-zero_first, felt_mul-zero_second}

-- the value is an element, and it is 0 exactly where P holds
pub record Says (value : ℕ) (P : Type 0) : Type 0 where
  pub low : value < prime
  pub shown : value ≡ 0 → P
  pub zero_where : P → value ≡ 0

-- of a value that is spelled otherwise
pub says_of : {v w : ℕ} {P : Type 0} → v ≡ w → Says w P → Says v P
says_of {P = P} e s = let F : ℕ → Type 0 = λ n. Says n P in subst F (sym e) s

-- in other words
pub says_as : {v : ℕ} {P Q : Type 0} → Says v P → (P → Q) → (Q → P) → Says v Q
says_as s there back = record { low = s.low; shown = λ z. there (s.shown z); zero_where = λ q. s.zero_where (back q) }

-- nothing is both
pub off : {A : Type 0} → false ≡ true → A
off h = absurd (let none : ⊥ = cc in none)

pub never : {A : Type 0} → true ≡ false → A
never h = absurd (let none : ⊥ = cc in none)

-- two numbers are the same or not
pub either_or : (i k : ℕ) → (i ≡ k) ⊎ (i ≢ k)
either_or i k = grind arith

pub none_is : (n : ℕ) → felt_mul 0 n ≡ 0
none_is n = omega arith

pub and_false : (t : Bool) → t && false ≡ false
and_false true = refl
and_false false = refl

pub rest_low : (n : ℕ) → n % prime < prime
rest_low n = omega arith

once_is : (n : ℕ) → n < prime → felt_mul 1 n ≡ n
once_is n low = omega arith

-- a remainder, of which both ways are arithmetic
pub rest_says : {P : Type 0} (n : ℕ) → (n % prime ≡ 0 → P) → (P → n % prime ≡ 0) → Says (n % prime) P
rest_says n there back = record { low = rest_low n; shown = there; zero_where = back }

-- an element by itself
pub zero_says : {a : ℕ} → a < prime → Says a (a ≡ 0)
zero_says low = record { low = low; shown = λ z. z; zero_where = λ z. z }

-- a difference
pub sub_says : {a b : ℕ} → a < prime → b < prime → Says (felt_sub a b) (a ≡ b)
sub_says {a = a} {b = b} la lb = rest_says _ (same_from_sub a b la lb) (felt_sub-same a b la)

-- a difference of three
pub sub_twice_says : {a b k : ℕ} → a < prime → b < prime → k < prime → Says (felt_sub (felt_sub a b) k) (a ≡ felt_add b k)
sub_twice_says la lb lk = rest_says _ (λ z. omega arith) (λ e. omega arith)

-- a bit
pub bit_says : {a : ℕ} → a < prime → Says (felt_mul a (felt_sub a 1)) (a < 2)
bit_says {a = a} low = rest_says _ (bit_from_product a low) (from a)
  where
    from : (n : ℕ) → n < 2 → felt_mul n (felt_sub n 1) ≡ 0
    from zero few = refl
    from (suc zero) few = refl
    from (suc (suc n)) few = absurd (omega arith)

-- a product
pub mul_says : {v w : ℕ} {P Q : Type 0} → Says v P → Says w Q → Says (felt_mul v w) (P ⊎ Q)
mul_says {v = v} {w = w} s r =
    rest_says _ (λ z. ⊎_elim (λ e. inl (s.shown e)) (λ e. inr (r.shown e)) (zero_factor v w s.low r.low z))
    (λ h. ⊎_elim (λ p. felt_mul-zero_first v w (s.zero_where p)) (λ q. felt_mul-zero_second v w (r.zero_where q)) h)

-- where a number is not k, the product with its witness is 1
pub witness_says : {i k v : ℕ} → i < prime → k < prime → v < prime → Says (felt_mul (felt_sub i k) (felt_sub 1 v)) (i ≢ k → v ≡ 1)
witness_says {i = i} {k = k} {v = v} li lk lv =
    says_as (mul_says (sub_says li lk) (sub_says (lit< tt) lv)) unless (λ f. ⊎_elim (λ e. inl e) (λ apart. inr (sym (f apart))) (either_or i k))
  where
    unless : (i ≡ k) ⊎ (1 ≡ v) → i ≢ k → v ≡ 1
    unless (inl e) apart = absurd (apart e)
    unless (inr e) apart = sym e

-- ---- tests as elements

pub test_says : (t : Bool) → Says (cond t 1 0) (t ≡ false)
test_says true = record { low = lit< tt; shown = λ z. absurd (cc); zero_where = λ h. absurd (cc) }
test_says false = record { low = lit< tt; shown = λ z. refl; zero_where = λ h. refl }

pub fails_says : (t : Bool) → Says (cond (not t) 1 0) (t ≡ true)
fails_says true = record { low = lit< tt; shown = λ z. refl; zero_where = λ h. refl }
fails_says false = record { low = lit< tt; shown = λ z. absurd (cc); zero_where = λ h. absurd (cc) }

-- 1 less tests of which at most one passes: 1 where none does
pub less_one : {f : ℕ} (t : Bool) → f ≡ cond t 1 0 → felt_sub 1 f ≡ cond (not t) 1 0
less_one t e = ap (felt_sub 1) e ∙ by t
  where
    by : (u : Bool) → felt_sub 1 (cond u 1 0) ≡ cond (not u) 1 0
    by true = refl
    by false = refl

pub less_more : {f g : ℕ} (t u : Bool) → f ≡ cond (not t) 1 0 → g ≡ cond u 1 0 → t && u ≡ false → felt_sub f g ≡ cond (not (t || u)) 1 0
less_more t u e k apart = ap₂ felt_sub e k ∙ by t u apart
  where
    by : (a b : Bool) → a && b ≡ false → felt_sub (cond (not a) 1 0) (cond b 1 0) ≡ cond (not (a || b)) 1 0
    by true true apart = never apart
    by true false apart = refl
    by false true apart = refl
    by false false apart = refl

pub any_or_none : (t e : Bool) → t && not (t || e) ≡ false
any_or_none true e = refl
any_or_none false e = refl

-- the sum of two tests of which at most one passes
pub plus : {f g : ℕ} (t u : Bool) → f ≡ cond t 1 0 → g ≡ cond u 1 0 → t && u ≡ false → felt_add f g ≡ cond (t || u) 1 0
plus t u e k apart = ap₂ felt_add e k ∙ by t u apart
  where
    by : (a b : Bool) → a && b ≡ false → felt_add (cond a 1 0) (cond b 1 0) ≡ cond (a || b) 1 0
    by true true apart = never apart
    by true false apart = refl
    by false true apart = refl
    by false false apart = refl

-- 1 less a test
pub passes_says : {f : ℕ} {t : Bool} → f ≡ cond t 1 0 → Says (felt_sub 1 f) (t ≡ true)
passes_says {t = t} e = says_of (less_one t e) (fails_says t)

-- a test and a bit
pub tested_bit : (t : Bool) (n : ℕ) → (t ≡ true → n < 2) → felt_mul (cond t 1 0) n ≡ cond (t && eqb n 1) 1 0
tested_bit false n low = none_is n
tested_bit true zero low = refl
tested_bit true (suc zero) low = refl
tested_bit true (suc (suc n)) low = let few : suc (suc n) < 2 = low refl in absurd (omega arith)

-- ---- values that count where a test passes, and their sums where at most one counts

pub record Gated (any : Bool) (value : ℕ) (P : Type 0) : Type 0 where
  pub says : Says value P
  pub none_where : any ≡ false → value ≡ 0

-- of a value of which something is known where the test passes
pub one_if : {f v : ℕ} {t : Bool} {P : Type 0} → f ≡ cond t 1 0 → v < prime → (t ≡ true → Says v P) → Gated t (felt_mul f v) (t ≡ true → P)
one_if {f = f} {v = v} {t = t} {P = P} e low s = record { says = says_of (ap (λ n. felt_mul n v) e) (by t s); none_where = off_at }
  where
    by : (u : Bool) → (u ≡ true → Says v P) → Says (felt_mul (cond u 1 0) v) (u ≡ true → P)
    by true s = says_of (once_is v low) (says_as (s refl) (λ p _. p) (λ h. h refl))
    by false s = rest_says _ (λ z h. off h) (λ h. none_is v)

    off_at : t ≡ false → felt_mul f v ≡ 0
    off_at out = ap (λ n. felt_mul n v) (e ∙ ap (λ u. cond u 1 0) out) ∙ none_is v

pub one : {f v : ℕ} {t : Bool} {P : Type 0} → f ≡ cond t 1 0 → Says v P → Gated t (felt_mul f v) (t ≡ true → P)
one e s = one_if e s.low (λ _. s)

-- three factors, of which the last two belong together
pub regroup : (f a k : ℕ) → felt_mul (felt_mul f a) k ≡ felt_mul f (felt_mul a k)
regroup f a k = simp (mul-mod_first, mul-mod_second, mul_assoc)

pub one_product_if : {f : ℕ} {t : Bool} {P : Type 0} (a k : ℕ) → f ≡ cond t 1 0 → (t ≡ true → Says (felt_mul a k) P)
    → Gated t (felt_mul (felt_mul f a) k) (t ≡ true → P)
one_product_if {f = f} a k e s =
    let g = one_if e (rest_low (a * k)) s in
    record { says = says_of (regroup f a k) g.says; none_where = λ out. regroup f a k ∙ g.none_where out }

pub one_product : {f : ℕ} {t : Bool} {P : Type 0} (a k : ℕ) → f ≡ cond t 1 0 → Says (felt_mul a k) P → Gated t (felt_mul (felt_mul f a) k) (t ≡ true → P)
one_product a k e s = one_product_if a k e (λ _. s)

-- a test that must fail
pub tested : {f : ℕ} {t : Bool} → f ≡ cond t 1 0 → Gated t f (t ≡ false)
tested {t = t} e = record { says = says_of e (test_says t); none_where = λ out. e ∙ ap (λ u. cond u 1 0) out }

-- the sum of two such values
pub both : {a b : Bool} {v w : ℕ} {P Q : Type 0} → Gated a v P → Gated b w Q → a && b ≡ false → Gated (a || b) (felt_add v w) (P × Q)
both {a = a} {b = b} {v = v} {w = w} {P = P} {Q = Q} g r apart = record {
  says = rest_says _ (λ z. (g.says.shown (first (out a b apart) z), r.says.shown (second (out a b apart) z)))
      (λ h. none (g.says.zero_where h.0) (r.says.zero_where h.1));
  none_where = λ off. none (g.none_where (neither a b off).0) (r.none_where (neither a b off).1);
}
  where
    out : (t u : Bool) → t && u ≡ false → (t ≡ false) ⊎ (u ≡ false)
    out true u e = inr e
    out false u e = inl refl

    neither : (t u : Bool) → t || u ≡ false → (t ≡ false) × (u ≡ false)
    neither true u e = never e
    neither false u e = (refl, e)

    none : v ≡ 0 → w ≡ 0 → felt_add v w ≡ 0
    none e k = omega arith

    first : (a ≡ false) ⊎ (b ≡ false) → felt_add v w ≡ 0 → v ≡ 0
    first (inl e) z = g.none_where e
    first (inr e) z = let low = g.says.low in let k = r.none_where e in omega arith

    second : (a ≡ false) ⊎ (b ≡ false) → felt_add v w ≡ 0 → w ≡ 0
    second (inl e) z = let low = r.says.low in let k = g.none_where e in omega arith
    second (inr e) z = r.none_where e

pub both_say : {a b : Bool} {v w : ℕ} {P Q : Type 0} → Gated a v P → Gated b w Q → a && b ≡ false → Says (felt_add v w) (P × Q)
both_say g r apart = (both g r apart).says

-- a bit as a test
pub bit_is : {n : ℕ} → n < 2 → n ≡ cond (eqb n 1) 1 0
bit_is {n = n} few = by n few
  where
    by : (i : ℕ) → i < 2 → i ≡ cond (eqb i 1) 1 0
    by zero few = refl
    by (suc zero) few = refl
    by (suc (suc i)) few = absurd (omega arith)

pub eqb_of : (i k : ℕ) → i ≡ k → eqb i k ≡ true
eqb_of i k e = grind (arith, nat_tests)

pub one_bit : {n v : ℕ} {P : Type 0} → n < 2 → Says v P → Gated (eqb n 1) (felt_mul n v) (n ≡ 1 → P)
one_bit {n = n} few s =
    let g = one (bit_is few) s in
    record { says = says_as g.says (λ f e. f (eqb_of n 1 e)) (λ f e. f (eqb-true n 1 e)); none_where = g.none_where }

-- ---- a value that counts where a test passes, by itself

pub gate_if : {f v : ℕ} {t : Bool} {P : Type 0} → f ≡ cond t 1 0 → v < prime → (t ≡ true → Says v P) → Says (felt_mul f v) (t ≡ true → P)
gate_if e low s = (one_if e low s).says

pub gate : {f v : ℕ} {t : Bool} {P : Type 0} → f ≡ cond t 1 0 → Says v P → Says (felt_mul f v) (t ≡ true → P)
gate e s = (one e s).says

-- three factors
pub gate_product_if : {f : ℕ} {t : Bool} {P : Type 0} (a k : ℕ) → f ≡ cond t 1 0 → (t ≡ true → Says (felt_mul a k) P)
    → Says (felt_mul (felt_mul f a) k) (t ≡ true → P)
gate_product_if a k e s = (one_product_if a k e s).says

pub gate_mul : {f a k : ℕ} {t : Bool} {P Q : Type 0} → f ≡ cond t 1 0 → Says a P → Says k Q → Says (felt_mul (felt_mul f a) k) (t ≡ true → P ⊎ Q)
gate_mul e s r = (one_product _ _ e (mul_says s r)).says

pub gate_bit : {f a : ℕ} {t : Bool} → f ≡ cond t 1 0 → a < prime → Says (felt_mul (felt_mul f a) (felt_sub a 1)) (t ≡ true → a < 2)
gate_bit e low = (one_product _ _ e (bit_says low)).says
