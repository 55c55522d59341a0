-- The values of the row of an access that fits behind another one are 0.
use Rattle.facts_memory.proofs.Words.{◌≡◌, ℕ, suc, ◌/◌, ◌%◌, ◌<◌, ◌==◌, Bool, true, false, List, slice_index, Option, Some, None, option_map}
use Rattle.facts_memory.proofs.Words.{refl, sym, ap, subst, ◌∙◌, arith, lit<, eqb-true, prime, felt_add, felt_sub, felt_mul, IsWord, zero_word}
use Rattle.facts_memory.proofs.Words.{elements-index, family, access_values, entry_1, entry_5, goes_on_here, memory_values, order_step, step_of, word_values}
use Rattle.facts_memory.proofs.Words.{Access, Keeps, word_behind, new_address, new_context, row_behind, step_behind}
use Rattle.air_kit.proofs.ZeroLemmas.{bit_zero}
use Rattle.air_kit.specs.ChipPlaces.{only, paired}
use Rattle.facts_memory.proofs.Cells.{AllZero, each_at, no_values, value_then}
use Rattle.facts_memory.proofs.Entries.{OrderZero, address_zero, kept_zero, kind_zero, order_zero, read_zero, rejoined}
use Rattle.facts_memory.proofs.Fitting.{FitsBehind, kept_at, read_at}
use Rattle.facts_memory.proofs.Numbers.{by_flags, limit, over}
use Rattle.facts_memory.proofs.RowOrder.{factor, old_is, zeros_at}

-- ---- what the row's flags are

new_first : (before : Option Access) (a : Access) → (before ≡ None → new_context before a ≡ 1)
new_first None a e = refl
new_first (Some b) a e = absurd (cc)

pub record FlagsZero (before : Option Access) (a : Access) : Type 0 where
  pub first_bit : new_context before a < 2
  pub second_bit : new_address before a < 2
  pub one_new : felt_mul (new_context before a) (new_address before a) ≡ 0
  pub step_small : step_behind before a < limit

behind_is : (b a : Access) → FitsBehind (Some b) a → OrderZero (new_context (Some b) a) (new_address (Some b) a) (step_behind (Some b) a) b a
behind_is b a f = order_zero (step_behind (Some b) a) b a f.shown.limits (new_context (Some b) a) (new_address (Some b) a) (f.order b refl)

pub flags_zero : (before : Option Access) (a : Access) → FitsBehind before a → FlagsZero before a
flags_zero None a f = record { first_bit = lit< tt; second_bit = lit< tt; one_new = refl; step_small = lit< tt }
flags_zero (Some b) a f =
    let o = behind_is b a f in record { first_bit = o.first_bit; second_bit = o.second_bit; one_new = o.one_new; step_small = o.step_small }

only_zero : (test : Bool) (value : ℕ) → (test ≡ true → value ≡ 0) → only test value ≡ 0
only_zero true value is = is refl
only_zero false value is = refl

sub_none : (x : ℕ) → x < prime → felt_sub x 0 ≡ x
sub_none x h = omega arith

-- a row that is the first one has no access before it
abbrev pub FirstOnly : ℕ → Option Access → Type 0
FirstOnly r before = r ≡ 0 → before ≡ None

-- the next access fits behind this one
abbrev pub NextFits : Access → Option Access → Type 0
NextFits a None = Unit {0}
NextFits a (Some b) = FitsBehind (Some a) b

element : (before : Option Access) (a : Access) → FitsBehind before a → (j : ℕ) → slice_index a.word j < prime
element before a f j = elements-index a.word j f.shown.word.below

-- ---- the entries of the row alone

module _ (r : ℕ) (before : Option Access) (a : Access) (f : FitsBehind before a) (first : FirstOnly r before) where
  zeros_where : (r == 0) ≡ true → Keeps a zero_word
  zeros_where is = subst (λ o. Keeps a (word_behind o a)) (first (eqb-true r 0 is)) f.keeps

  read_first : only (r == 0) (felt_mul (felt_mul (felt_sub a.kind 1) (felt_sub a.kind 2)) (slice_index a.word 0)) ≡ 0
  read_first =
      only_zero (r == 0) _ (λ is.
      ap (felt_mul (felt_mul (felt_sub a.kind 1) (felt_sub a.kind 2))) (sym (sub_none (slice_index a.word 0) (element before a f 0)))
      ∙ read_zero a.kind (slice_index a.word 0) 0 f.shown.kind (element before a f 0) (read_at a zero_word 0 (zeros_where is)))

  kept_first : (j : ℕ) → only (r == 0) (felt_mul (felt_sub a.kind 1) (slice_index a.word (suc j))) ≡ 0
  kept_first j =
      only_zero (r == 0) _ (λ is.
      ap (felt_mul (felt_sub a.kind 1)) (sym (sub_none (slice_index a.word (suc j)) (element before a f (suc j))))
      ∙ kept_zero a.kind (slice_index a.word (suc j)) 0 f.shown.kind (element before a f (suc j))
      (λ k. read_at a zero_word (suc j) (zeros_where is) k ∙ zeros_at (suc j))
      (λ k. kept_at a zero_word j (zeros_where is) k ∙ zeros_at (suc j)))

-- ---- the entries of the row and the next one

module _ (b : Access) (w : IsWord b.word) (a : Access) (f : FitsBehind (Some b) a) where
  read_next : felt_mul (felt_mul (felt_sub a.kind 1) (felt_sub a.kind 2))
      (felt_sub (slice_index a.word 0) (felt_mul (factor (new_context (Some b) a) (new_address (Some b) a)) (slice_index b.word 0))) ≡ 0
  read_next =
      read_zero a.kind (slice_index a.word 0) _ f.shown.kind (element (Some b) a f 0)
      (λ k. read_at a (word_behind (Some b) a) 0 f.keeps k ∙ sym (old_is b a w (f.order b refl) 0))

  kept_next : (j : ℕ) → felt_mul (felt_sub a.kind 1)
      (felt_sub (slice_index a.word (suc j)) (felt_mul (factor (new_context (Some b) a) (new_address (Some b) a)) (slice_index b.word (suc j)))) ≡ 0
  kept_next j =
      kept_zero a.kind (slice_index a.word (suc j)) _ f.shown.kind (element (Some b) a f (suc j))
      (λ k. read_at a (word_behind (Some b) a) (suc j) f.keeps k ∙ sym (old_is b a w (f.order b refl) (suc j)))
      (λ k. kept_at a (word_behind (Some b) a) j f.keeps k ∙ sym (old_is b a w (f.order b refl) (suc j)))

  -- the step by its limbs
  limbs_step : ℕ
  limbs_step = felt_add (step_behind (Some b) a % 65536) (felt_mul 65536 (step_behind (Some b) a / 65536))

  grows_next : by_flags (new_context (Some b) a) (new_address (Some b) a) (over b.ctx a.ctx limbs_step) (over b.addr a.addr limbs_step)
      (over b.clk a.clk limbs_step) ≡ 0
  unfolding limbs_step
  grows_next =
      let o = behind_is b a f in
      ap (λ s. by_flags (new_context (Some b) a) (new_address (Some b) a) (over b.ctx a.ctx s) (over b.addr a.addr s) (over b.clk a.clk s))
      (rejoined (step_behind (Some b) a) o.step_small) ∙ o.grows

paired_zero : (value : List ℕ → ℕ) (a : Access) (next : Option Access)
    → ((b : Access) → FitsBehind (Some a) b → value (row_behind (Some a) b) ≡ 0) → NextFits a next
    → paired value (option_map (λ b. row_behind (Some a) b) next) ≡ 0
paired_zero value a None zero_is fits = refl
paired_zero value a (Some b) zero_is fits = zero_is b fits

-- all of a row
pub row_zero : (r : ℕ) (before : Option Access) (a : Access) (next : Option Access) → FitsBehind before a → FirstOnly r before
    → NextFits a next → AllZero (memory_values (record { row = r; cur = row_behind before a; next = option_map (λ b. row_behind (Some a) b) next }))
unfolding memory_values access_values word_values entry_1 entry_5 order_step step_of goes_on_here family row_behind limbs_step
row_zero r before a next f first fits =
    let o = flags_zero before a f in
    let w = f.shown.word in
    each_at (λ v. v ≡ 0) (memory_values (record { row = r; cur = row_behind before a; next = option_map (λ b. row_behind (Some a) b) next })) refl
    (value_then (kind_zero a.kind f.shown.kind) (value_then (bit_zero (new_context before a) o.first_bit)
    (value_then (bit_zero (new_address before a) o.second_bit) (value_then o.one_new (value_then (address_zero a.addr f.shown.limits.addr_small)
    (value_then (only_zero (r == 0) _ (λ is. ap (felt_sub 1) (new_first before a (first (eqb-true r 0 is)))))
    (value_then (paired_zero _ a next (λ b g. (behind_is a b g).contexts) fits)
    (value_then (paired_zero _ a next (λ b g. (behind_is a b g).addresses) fits) (value_then (paired_zero _ a next (grows_next a w) fits)
    (value_then (read_first r before a f first) (value_then (kept_first r before a f first 0) (value_then (kept_first r before a f first 1)
    (value_then (kept_first r before a f first 2) (value_then (paired_zero _ a next (read_next a w) fits)
    (value_then (paired_zero _ a next (λ b g. kept_next a w b g 0) fits) (value_then (paired_zero _ a next (λ b g. kept_next a w b g 1) fits)
    (value_then (paired_zero _ a next (λ b g. kept_next a w b g 2) fits) no_values)))))))))))))))))
