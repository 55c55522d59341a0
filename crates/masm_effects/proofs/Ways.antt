-- How instructions have their effects, with no number, with one or with either, and the law that follows.
use Rattle.std.proofs.Common.{◌≡◌, ℕ, suc, ◌-◌, ◌%◌, true, List, [], ◌∷◌, length, sym, ◌∙◌, ap, arith, add_comm}
use Rattle.vm_field.specs.Field.{prime, felt_add, felt_sub}
use Rattle.vm_field.specs.Limits.{number_of_constants}
use Rattle.vm_field.specs.Machine.{State, IsWellFormed}
use Rattle.vm_ops.specs.declared.item.Item.{Item}
use Rattle.masm_instr.specs.declared.name.Name.{Name}
use Rattle.masm_instr.specs.Instructions.{is_in_form}
use Rattle.masm_instr.specs.Table.{fixed, form_of}
use Rattle.masm_expand.specs.Expansion.{expansion, lit, plain}
use Rattle.masm_effects.specs.Effects.{Effect, instr_effect}
use Rattle.masm_effects.specs.HasEffect.{HasEffect}
use Rattle.masm_effects.proofs.Meeting.{Acts, has-effect}
use Rattle.masm_effects.proofs.Pushes.{one_more, push-effect, pushed_on, sized-pushed}
use Rattle.masm_effects.proofs.Quiets.{Whole, computes, whole, whole_wanted}
use Rattle.masm_effects.proofs.Sized.{IsSized, sized-of}
use Rattle.masm_effects.proofs.Tables.{IsAllowed, by_form, values, values-at}
use Rattle.masm_effects.proofs.Windows.{window}

-- what the instruction does with its numbers, on a window
abbrev pub MeetsAt : List ℕ → ℕ → Name → List ℕ → State → Type 0
MeetsAt constants locals name numbers s =
    Acts constants (expansion name numbers locals) s (instr_effect constants name numbers locals s) (window s)

-- with a number: how many there are, the operations, and the effect
abbrev pub Facts : Type 0
Facts = ℕ × ℕ × List Item × Effect

abbrev pub facts : List ℕ → ℕ → Name → ℕ → Effect → Facts
facts constants locals name n effect = ((form_of name).least, (form_of name).most, expansion name (n ∷ []) locals, effect)

-- how an instruction has its effect
pub data Way (constants : List ℕ) (locals : ℕ) (name : Name) : Type 0 where
  -- it takes no number
  alone : (form_of name).most ≡ 0 → ((s : State) → IsWellFormed s → MeetsAt constants locals name [] s) → Way constants locals name
  -- it takes one
  given : (form_of name).least ≡ 1 → (form_of name).most ≡ 1
      → ((s : State) → IsWellFormed s → (n : ℕ) → IsAllowed name n → MeetsAt constants locals name (n ∷ []) s) → Way constants locals name
  -- it may take one, and has other operations then
  either : (form_of name).most ≡ 1 → ((s : State) → IsWellFormed s → MeetsAt constants locals name [] s)
      → ((s : State) → IsWellFormed s → (n : ℕ) → IsAllowed name n → MeetsAt constants locals name (n ∷ []) s) → Way constants locals name
  -- it may take one, which is pushed before the operations that do without
  pushed : ((n : ℕ) (s : State) → facts constants locals name n (instr_effect constants name [] locals (pushed_on n s))
      ≡ (0, 1, lit n ∷ expansion name [] locals, one_more (instr_effect constants name (n ∷ []) locals s)))
      → ((s : State) → MeetsAt constants locals name [] s) → Way constants locals name
  -- it takes that of a local, whose address is computed first: the effect for an address
  of_local : (effect : State → ℕ → Effect)
      → ((n : ℕ) (s : State) → facts constants locals name n (instr_effect constants name (n ∷ []) locals s)
      ≡ (1, 1, lit (prime - (locals - n)) ∷ plain (fixed name), effect s (felt_sub s.core.fmp (locals - n))))
      → ((v : ℕ) (s : State)
      → Acts constants (plain (fixed name)) (pushed_on v s) (one_more (effect s (felt_add v s.core.fmp))) (window (pushed_on v s)))
      → Way constants locals name
  otherwise : (length constants ≡ number_of_constants → (s : State) → IsSized s.core → (numbers : List ℕ) → is_in_form name numbers ≡ true
      → HasEffect constants (expansion name numbers locals) s (instr_effect constants name numbers locals s)) → Way constants locals name

-- so much below the frame pointer: the sum of it and the negative
place-is : (fmp below : ℕ) → felt_add (prime - below) fmp ≡ felt_sub fmp below
place-is fmp below = ap (λ (n : ℕ). n % prime) (add_comm (prime - below) fmp)

module _ (constants : List ℕ) (count : length constants ≡ number_of_constants) (locals : ℕ) (name : Name) (s : State) (well : IsWellFormed s) where
  abbrev Law : List ℕ → Type 0
  Law numbers = HasEffect constants (expansion name numbers locals) s (instr_effect constants name numbers locals s)

  sized : IsSized s.core
  sized = sized-of s.core well.core

  met : (numbers : List ℕ) → MeetsAt constants locals name numbers s → Law numbers
  met numbers = has-effect constants (expansion name numbers locals) s (instr_effect constants name numbers locals s) count sized

  -- behind a value that is pushed
  met-pushed : (numbers : List ℕ) (v : ℕ) (items : List Item) (e : Effect) → expansion name numbers locals ≡ lit v ∷ items
      → e ≡ one_more (instr_effect constants name numbers locals s) → Acts constants items (pushed_on v s) e (window (pushed_on v s)) → Law numbers
  met-pushed numbers v items e same is meets =
      rw same
      (push-effect constants count v items s _ sized
      (rw is at (has-effect constants items (pushed_on v s) e count (sized-pushed v s sized) meets)))

  -- the law of an instruction, by its way
  pub way-law : Way constants locals name → (numbers : List ℕ) → is_in_form name numbers ≡ true → Law numbers
  way-law (alone most meets) numbers form =
      by_form name Law numbers form (omega arith) (λ least. met [] (meets s well)) (λ some. absurd (omega arith))
  way-law (given least most meets) numbers form =
      by_form name Law numbers form (omega arith) (λ few. absurd (omega arith)) (λ some n ok. met (n ∷ []) (meets s well n ok))
  way-law (either most meets meets-one) numbers form =
      by_form name Law numbers form (omega arith) (λ least. met [] (meets s well)) (λ some n ok. met (n ∷ []) (meets-one s well n ok))
  way-law (pushed is meets) numbers form =
      let most : (form_of name).most ≡ 1 = ap (λ (f : Facts). f.1) (is 0 s) in
      by_form name Law numbers form (omega arith) (λ least. met [] (meets s))
      (λ some n ok. met-pushed (n ∷ []) n (expansion name [] locals) (instr_effect constants name [] locals (pushed_on n s))
      (ap (λ (f : Facts). f.2) (is n s)) (ap (λ (f : Facts). f.3) (is n s)) (meets (pushed_on n s)))
  way-law (of_local effect is meets) numbers form =
      let least : (form_of name).least ≡ 1 = ap (λ (f : Facts). f.0) (is 0 s) in
      let most : (form_of name).most ≡ 1 = ap (λ (f : Facts). f.1) (is 0 s) in
      by_form name Law numbers form (omega arith) (λ few. absurd (omega arith))
      (λ some n ok.
      let v : ℕ = prime - (locals - n) in
      met-pushed (n ∷ []) v (plain (fixed name)) (one_more (effect s (felt_add v s.core.fmp))) (ap (λ (f : Facts). f.2) (is n s))
      (ap (λ (i : ℕ). one_more (effect s i)) (place-is s.core.fmp (locals - n)) ∙ ap (λ (f : Facts). one_more f.3) (sym (is n s))) (meets v s))
  way-law (otherwise law) numbers form = law count s sized numbers form

module _ (constants : List ℕ) (locals : ℕ) (name : Name) (s : State) where
  -- what the instruction comes to with this number, and what it should
  abbrev pub got : ℕ → Whole
  got n = whole constants (expansion name (n ∷ []) locals) s (instr_effect constants name (n ∷ []) locals s) (window s)

  abbrev pub wanted : ℕ → Whole
  wanted n = whole_wanted s (instr_effect constants name (n ∷ []) locals s)

  -- with each number of the form
  abbrev pub with_each : (ℕ → Whole) → List Whole
  with_each f = values f (suc ((form_of name).high - (form_of name).low)) (form_of name).low

  -- all by computing
  pub each : with_each got ≡ with_each wanted → (n : ℕ) → IsAllowed name n → MeetsAt constants locals name (n ∷ []) s
  each same n ok =
      let least = ok.least in
      let most = ok.most in
      computes (values-at got wanted (suc ((form_of name).high - (form_of name).low)) (form_of name).low n same least (omega arith))
