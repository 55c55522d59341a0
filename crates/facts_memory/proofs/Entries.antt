-- Numbers at which the entries are 0.
use Rattle.facts_memory.proofs.Words.{◌≡◌, ℕ, zero, suc, ◌-◌, ◌/◌, ◌%◌, ◌<◌, ◌≤◌, refl, arith, prime, felt_add, felt_sub, felt_mul}
use Rattle.vm_field.proofs.Algebra.{felt_mul-zero_first, felt_mul-zero_second, felt_sub-same}
use Rattle.facts_memory.proofs.Words.{Access, lit<, subst, sym}
use Rattle.facts_memory.proofs.Numbers.{by_flags, limit, over}
use Rattle.facts_memory.proofs.RowOrder.{Steps, by_address, by_clock, by_context}

pub kind_zero : (k : ℕ) → k ≤ 2 → felt_mul (felt_mul k (felt_sub k 1)) (felt_sub k 2) ≡ 0
kind_zero zero h = refl
kind_zero (suc zero) h = refl
kind_zero (suc (suc zero)) h = refl
kind_zero (suc (suc (suc k))) h = absurd (omega (arith, h))

-- a number of 32 bits as its limbs
pub address_zero : (d : ℕ) → d < limit → felt_sub (felt_sub d (d % 65536)) (felt_mul 65536 (d / 65536)) ≡ 0
address_zero d h = omega arith

pub rejoined : (s : ℕ) → s < limit → felt_add (s % 65536) (felt_mul 65536 (s / 65536)) ≡ s
rejoined s h = omega arith

pub high_small : (s : ℕ) → s < limit → s / 65536 < 65536
high_small s h = omega arith

pub low_small : (s : ℕ) → s % 65536 < 65536
low_small s = omega arith

-- ---- the order

pub over_none : (from to step : ℕ) → to < limit → from < to → step ≡ to - from - 1 → over from to step ≡ 0
over_none from to step ht less e = omega arith

first_none : (x y z : ℕ) → x ≡ 0 → by_flags 1 0 x y z ≡ 0
first_none x y z e = omega arith

second_none : (x y z : ℕ) → y ≡ 0 → by_flags 0 1 x y z ≡ 0
second_none x y z e = omega arith

third_none : (x y z : ℕ) → z ≡ 0 → by_flags 0 0 x y z ≡ 0
third_none x y z e = omega arith

pub record Limited (a : Access) : Type 0 where
  pub ctx_small : a.ctx < limit
  pub addr_small : a.addr < limit
  pub clk_small : a.clk < limit

pub record OrderZero (n m step : ℕ) (b a : Access) : Type 0 where
  pub first_bit : n < 2
  pub second_bit : m < 2
  pub one_new : felt_mul n m ≡ 0
  pub step_small : step < limit
  pub contexts : felt_mul (felt_sub 1 n) (felt_sub a.ctx b.ctx) ≡ 0
  pub addresses : felt_mul (felt_mul (felt_sub 1 n) (felt_sub 1 m)) (felt_sub a.addr b.addr) ≡ 0
  pub grows : by_flags n m (over b.ctx a.ctx step) (over b.addr a.addr step) (over b.clk a.clk step) ≡ 0

same_none : (x y : ℕ) → x < limit → y ≡ x → felt_sub x y ≡ 0
same_none x y h e = omega arith

small_step : (from to step : ℕ) → to < limit → step ≡ to - from - 1 → step < limit
small_step from to step h e = omega arith

module _ (step : ℕ) (b a : Access) (s : Limited a) where
  -- where the flags are these
  zero_by : (n m : ℕ) → n < 2 → m < 2 → felt_mul n m ≡ 0 → step < limit → felt_mul (felt_sub 1 n) (felt_sub a.ctx b.ctx) ≡ 0
      → felt_mul (felt_mul (felt_sub 1 n) (felt_sub 1 m)) (felt_sub a.addr b.addr) ≡ 0
      → by_flags n m (over b.ctx a.ctx step) (over b.addr a.addr step) (over b.clk a.clk step) ≡ 0 → (i j : ℕ) → i ≡ n → j ≡ m
      → OrderZero i j step b a
  zero_by n m h0 h1 one few c d g i j ei ej =
      subst (λ i. OrderZero i j step b a) (sym ei) (subst (λ j. OrderZero n j step b a) (sym ej) (record {
        first_bit = h0;
        second_bit = h1;
        one_new = one;
        step_small = few;
        contexts = c;
        addresses = d;
        grows = g;
      }))

  pub order_zero : (n m : ℕ) → Steps n m step b a → OrderZero n m step b a
  order_zero n m (by_context en em less is) =
      zero_by 1 0 (lit< tt) (lit< tt) refl (small_step b.ctx a.ctx step s.ctx_small is) (felt_mul-zero_first 0 (felt_sub a.ctx b.ctx) refl)
      (felt_mul-zero_first 0 (felt_sub a.addr b.addr) refl) (first_none _ _ _ (over_none b.ctx a.ctx step s.ctx_small less is)) n m en em
  order_zero n m (by_address en em same less is) =
      zero_by 0 1 (lit< tt) (lit< tt) refl (small_step b.addr a.addr step s.addr_small is)
      (felt_mul-zero_second 1 (felt_sub a.ctx b.ctx) (same_none a.ctx b.ctx s.ctx_small same))
      (felt_mul-zero_first 0 (felt_sub a.addr b.addr) refl) (second_none _ _ _ (over_none b.addr a.addr step s.addr_small less is)) n m en em
  order_zero n m (by_clock en em same also less is) =
      zero_by 0 0 (lit< tt) (lit< tt) refl (small_step b.clk a.clk step s.clk_small is)
      (felt_mul-zero_second 1 (felt_sub a.ctx b.ctx) (same_none a.ctx b.ctx s.ctx_small same))
      (felt_mul-zero_second 1 (felt_sub a.addr b.addr) (same_none a.addr b.addr s.addr_small also))
      (third_none _ _ _ (over_none b.clk a.clk step s.clk_small less is)) n m en em

-- ---- words

-- an element that is kept where the word is read
pub read_zero : (k x y : ℕ) → k ≤ 2 → x < prime → (k ≡ 0 → x ≡ y) → felt_mul (felt_mul (felt_sub k 1) (felt_sub k 2)) (felt_sub x y) ≡ 0
read_zero zero x y h hx same = felt_mul-zero_second (felt_mul (felt_sub 0 1) (felt_sub 0 2)) (felt_sub x y) (felt_sub-same x y hx (same refl))
read_zero (suc zero) x y h hx same = felt_mul-zero_first 0 (felt_sub x y) refl
read_zero (suc (suc zero)) x y h hx same = felt_mul-zero_first 0 (felt_sub x y) refl
read_zero (suc (suc (suc k))) x y h hx same = absurd (omega (arith, h))

-- and one that is kept where the word is not written whole
pub kept_zero : (k x y : ℕ) → k ≤ 2 → x < prime → (k ≡ 0 → x ≡ y) → (k ≡ 2 → x ≡ y) → felt_mul (felt_sub k 1) (felt_sub x y) ≡ 0
kept_zero zero x y h hx same also = felt_mul-zero_second (felt_sub 0 1) (felt_sub x y) (felt_sub-same x y hx (same refl))
kept_zero (suc zero) x y h hx same also = felt_mul-zero_first 0 (felt_sub x y) refl
kept_zero (suc (suc zero)) x y h hx same also = felt_mul-zero_second (felt_sub 2 1) (felt_sub x y) (felt_sub-same x y hx (also refl))
kept_zero (suc (suc (suc k))) x y h hx same also = absurd (omega (arith, h))
