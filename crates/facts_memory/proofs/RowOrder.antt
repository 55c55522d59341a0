-- The order of an access and another one behind it, with the flags and the step of the latter's row, and the word before it.
use Rattle.facts_memory.proofs.Words.{◌≡◌, ℕ, zero, suc, ◌-◌, ◌<◌, ◌==◌, ◌&&◌, Bool, true, false, cond, [], ◌∷◌, length, slice_index, Some, refl, sym, ap, ap₂}
use Rattle.facts_memory.proofs.Words.{◌∙◌, arith, eq-eqb, ne_eqb, and_left, and_right, prime, felt_sub, felt_mul, IsWord, zero_word, elements-index, Access}
use Rattle.facts_memory.proofs.Words.{and_parts, eqb-true, is_at, access_key, word_behind, new_address, new_context, step_behind}
use Rattle.vm_field.proofs.Elements.{index-zeros, word-is}
use Rattle.facts_memory.proofs.Numbers.{by_flags, first_alone, grown, limit, over, over_below, same_where, second_alone, third_alone}

-- ---- an access's place

at_other_context : (a : Access) (c d : ℕ) → (a.ctx ≡ c → ⊥) → is_at a c d ≡ false
at_other_context a c d apart = and_left (a.ctx == c) (a.addr == d) (ne_eqb a.ctx c apart)

at_other_address : (a : Access) (c d : ℕ) → (a.addr ≡ d → ⊥) → is_at a c d ≡ false
at_other_address a c d apart = and_right (a.ctx == c) (a.addr == d) (ne_eqb a.addr d apart)

pub at_same : (a : Access) (c d : ℕ) → a.ctx ≡ c → a.addr ≡ d → is_at a c d ≡ true
at_same a c d same also = ap₂ (λ (p q : Bool). p && q) (eq-eqb a.ctx c same) (eq-eqb a.addr d also)

pub place_is : (a : Access) (c d : ℕ) → is_at a c d ≡ true → (a.ctx ≡ c) × (a.addr ≡ d)
place_is a c d at =
    let both : ((a.ctx == c) ≡ true) × ((a.addr == d) ≡ true) = and_parts (a.ctx == c) (a.addr == d) at in
    (eqb-true a.ctx c both.0, eqb-true a.addr d both.1)

-- ---- the order

-- By which part of its key an access stands behind another one, with the flags and the step of its row.
pub data Steps (n m step : ℕ) (b a : Access) : Type 0 where
  by_context : n ≡ 1 → m ≡ 0 → b.ctx < a.ctx → step ≡ a.ctx - b.ctx - 1 → Steps n m step b a
  by_address : n ≡ 0 → m ≡ 1 → b.ctx ≡ a.ctx → b.addr < a.addr → step ≡ a.addr - b.addr - 1 → Steps n m step b a
  by_clock : n ≡ 0 → m ≡ 0 → b.ctx ≡ a.ctx → b.addr ≡ a.addr → b.clk < a.clk → step ≡ a.clk - b.clk - 1 → Steps n m step b a

-- with the flags and the step that it has
abbrev pub Follows : Access → Access → Type 0
Follows b a = Steps (new_context (Some b) a) (new_address (Some b) a) (step_behind (Some b) a) b a

-- where the entries of a row are 0, its flags and its step are these
pub record Bounds (b a : Access) (step : ℕ) : Type 0 where
  pub ctx_small : b.ctx < limit
  pub addr_small : b.addr < limit
  pub clk_small : b.clk < limit
  pub ctx_low : a.ctx < prime
  pub addr_low : a.addr < prime
  pub clk_low : a.clk < prime
  pub step_small : step < limit

pub steps_from : (n m step : ℕ) (b a : Access) → n < 2 → m < 2 → felt_mul n m ≡ 0 → Bounds b a step
    → felt_mul (felt_sub 1 n) (felt_sub a.ctx b.ctx) ≡ 0 → felt_mul (felt_mul (felt_sub 1 n) (felt_sub 1 m)) (felt_sub a.addr b.addr) ≡ 0
    → by_flags n m (over b.ctx a.ctx step) (over b.addr a.addr step) (over b.clk a.clk step) ≡ 0 → Steps n m step b a
steps_from zero zero step b a hn hm one s ce ae oe =
    let g = grown b.clk a.clk step s.clk_small s.clk_low s.step_small (third_alone _ _ _ (over_below b.clk a.clk step) oe) in
    by_clock refl refl (sym (same_where a.ctx b.ctx s.ctx_low s.ctx_small ce)) (sym (same_where a.addr b.addr s.addr_low s.addr_small ae)) g.0 g.1
steps_from zero (suc zero) step b a hn hm one s ce ae oe =
    let g = grown b.addr a.addr step s.addr_small s.addr_low s.step_small (second_alone _ _ _ (over_below b.addr a.addr step) oe) in
    by_address refl refl (sym (same_where a.ctx b.ctx s.ctx_low s.ctx_small ce)) g.0 g.1
steps_from (suc zero) zero step b a hn hm one s ce ae oe =
    let g = grown b.ctx a.ctx step s.ctx_small s.ctx_low s.step_small (first_alone _ _ _ (over_below b.ctx a.ctx step) oe) in
    by_context refl refl g.0 g.1
steps_from (suc zero) (suc zero) step b a hn hm one s ce ae oe = absurd (omega (arith, one))
steps_from (suc (suc n)) m step b a hn hm one s ce ae oe = absurd (omega (arith, hn))
steps_from n (suc (suc m)) step b a hn hm one s ce ae oe = absurd (omega (arith, hm))

module _ (b a : Access) where
  -- they go by two tests
  flags : (s t : Bool) → (b.ctx == a.ctx) ≡ s → (b.addr == a.addr) ≡ t
      → (new_context (Some b) a ≡ cond s 0 1) × (new_address (Some b) a ≡ cond s (cond t 0 1) 0)
      × (step_behind (Some b) a ≡ cond s (cond t (a.clk - b.clk - 1) (a.addr - b.addr - 1)) (a.ctx - b.ctx - 1))
  flags s t e d = (
    ap (λ s. cond s 0 1) e,
    ap₂ (λ s t. cond s (cond t 0 1) 0) e d,
    ap₂ (λ s t. cond s (cond t (a.clk - b.clk - 1) (a.addr - b.addr - 1)) (a.ctx - b.ctx - 1)) e d,
  )

  apart : (c d : ℕ) → c < d → (c == d) ≡ false
  apart c d less = ne_eqb c d (λ e. omega (arith, e, less))

  pub follows_context : b.ctx < a.ctx → Follows b a
  follows_context less = let f = flags false (b.addr == a.addr) (apart b.ctx a.ctx less) refl in by_context f.0 f.1 less f.2

  pub follows_address : b.ctx ≡ a.ctx → b.addr < a.addr → Follows b a
  follows_address same less =
      let f = flags true false (eq-eqb b.ctx a.ctx same) (apart b.addr a.addr less) in by_address f.0 f.1 same less f.2

  pub follows_clock : b.ctx ≡ a.ctx → b.addr ≡ a.addr → b.clk < a.clk → Follows b a
  follows_clock same also less =
      let f = flags true true (eq-eqb b.ctx a.ctx same) (eq-eqb b.addr a.addr also) in by_clock f.0 f.1 same also less f.2

  pub steps_are : {n m step : ℕ} → Steps n m step b a
      → (n ≡ new_context (Some b) a) × (m ≡ new_address (Some b) a) × (step ≡ step_behind (Some b) a)
  steps_are (by_context en em less is) =
      let f = flags false (b.addr == a.addr) (apart b.ctx a.ctx less) refl in (en ∙ sym f.0, em ∙ sym f.1, is ∙ sym f.2)
  steps_are (by_address en em same less is) =
      let f = flags true false (eq-eqb b.ctx a.ctx same) (apart b.addr a.addr less) in (en ∙ sym f.0, em ∙ sym f.1, is ∙ sym f.2)
  steps_are (by_clock en em same also less is) =
      let f = flags true true (eq-eqb b.ctx a.ctx same) (eq-eqb b.addr a.addr also) in (en ∙ sym f.0, em ∙ sym f.1, is ∙ sym f.2)

  pub key_grows : {n m step : ℕ} → Steps n m step b a → b.addr < limit → b.clk < limit → access_key b < access_key a
  key_grows (by_context _ _ grows _) ha hk = omega (arith, grows, ha, hk)
  key_grows (by_address _ _ same grows _) ha hk = omega (arith, same, grows, ha, hk)
  key_grows (by_clock _ _ same also grows _) ha hk = omega (arith, same, also, grows)

-- ---- the word before

pub zeros_at : (j : ℕ) → slice_index zero_word j ≡ 0
zeros_at j = index-zeros 4 j

none_times : (x : ℕ) → felt_mul 0 x ≡ 0
none_times x = omega arith

once_times : (x : ℕ) → x < prime → felt_mul 1 x ≡ x
once_times x h = omega arith

abbrev pub factor : ℕ → ℕ → ℕ
factor n m = felt_sub (felt_sub 1 n) m

module _ (b a : Access) (w : IsWord b.word) where
  by_test : Bool → ℕ → ℕ
  by_test t j = slice_index (cond t b.word zero_word) j

  -- element j of the word before, by the flags of the row
  pub old_is : {n m step : ℕ} → Steps n m step b a → (j : ℕ)
      → felt_mul (factor n m) (slice_index b.word j) ≡ slice_index (word_behind (Some b) a) j
  unfolding by_test
  old_is (by_context en em less is) j =
      ap₂ (λ n m. felt_mul (factor n m) (slice_index b.word j)) en em ∙ none_times (slice_index b.word j) ∙ sym (zeros_at j)
      ∙ sym (ap (λ t. by_test t j) (at_other_context b a.ctx a.addr (λ e. omega (arith, e, less))))
  old_is (by_address en em same less is) j =
      ap₂ (λ n m. felt_mul (factor n m) (slice_index b.word j)) en em ∙ none_times (slice_index b.word j) ∙ sym (zeros_at j)
      ∙ sym (ap (λ t. by_test t j) (at_other_address b a.ctx a.addr (λ e. omega (arith, e, less))))
  old_is (by_clock en em same also less is) j =
      ap₂ (λ n m. felt_mul (factor n m) (slice_index b.word j)) en em ∙ once_times (slice_index b.word j) (elements-index b.word j w.below)
      ∙ sym (ap (λ t. by_test t j) (at_same b a.ctx a.addr same also))

  behind_size : length (word_behind (Some b) a) ≡ 4
  behind_size = elim (is_at b a.ctx a.addr) as (λ t. length (cond t b.word zero_word) ≡ 4) [ true ↦ w.size | false ↦ refl ]

  pub word_is : {n m step : ℕ} → Steps n m step b a
      → felt_mul (factor n m) (slice_index b.word 0) ∷ felt_mul (factor n m) (slice_index b.word 1)
      ∷ felt_mul (factor n m) (slice_index b.word 2) ∷ felt_mul (factor n m) (slice_index b.word 3) ∷ []
      ≡ word_behind (Some b) a
  word_is s = word-is (word_behind (Some b) a) _ _ _ _ behind_size (old_is s 0) (old_is s 1) (old_is s 2) (old_is s 3)
