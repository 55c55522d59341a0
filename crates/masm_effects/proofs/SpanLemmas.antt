-- By induction on the items: a cycle of an operation is its step.
use Rattle.std.proofs.Common.{◌≡◌, ℕ, ◌+◌, ◌≤◌, Bool, true, false, cond, nat_lt, List, [], ◌∷◌, ◌++◌, length, Result, Ok, Err, refl, sym, ◌∙◌, arith, lt-ltb}
use Rattle.vm_field.specs.Limits.{number_of_constants}
use Rattle.vm_field.specs.Machine.{State, IsWellFormed}
use Rattle.vm_ops.specs.declared.cause.Cause.{Cause}
use Rattle.vm_ops.specs.declared.item.Item.{Item}
use Rattle.vm_ops.specs.Runs.{after_ok, run}
use Rattle.vm_ops.specs.Step.{step}
use Rattle.vm_ops.specs.Values.{advice_of}
use Rattle.vm_ops.proofs.StepLemmas.{step-clock}
use Rattle.block_tree.specs.Cycles.{Mark, Do}
use Rattle.block_tree.specs.Execution.{Event, Outcome, Done, Trap, OutOfCycles, IsCutOff, cut_off, Part, cycle_outcome, event_of, logged, operations, seq, skip, taking, then_do}
use Rattle.masm_instr.specs.declared.name.Name.{Name}
use Rattle.masm_effects.specs.Effects.{instr_effect}
use Rattle.masm_expand.specs.Expansion.{expansion}
use Rattle.masm_instr.specs.Instructions.{is_in_form}
use Rattle.masm_effects.specs.HasEffect.{affected, TrapsOrLeaves, HasEffect}
use Rattle.masm_effects.proofs.Law.{instruction-effects}
use Rattle.masm_effects.specs.Spans.{EndsLike, TrapsOrIsDone}

agrees-logged : (events : List Event) (o : Outcome) (r : Result State Cause) → EndsLike o r → EndsLike (logged events o) r
agrees-logged events (Done t more) r h = h
agrees-logged events (Trap clock cause) r h = h
agrees-logged events (OutOfCycles t more) r h = tt

-- the first cycle, and then the others
agrees-on : (left : Bool) (mark : Mark) (n : ℕ) (s : State) (r : Result State Cause) (part : Part) (later : State → Result State Cause)
    → ((t : State) → EndsLike (part t) (later t)) → EndsLike (then_do (cond left (cycle_outcome mark n s r) (OutOfCycles s [])) part) (after_ok later r)
agrees-on false mark n s r part later h = tt
agrees-on true mark n s (Err cause) part later h = refl
agrees-on true mark n s (Ok t) part later h = agrees-logged (event_of mark n s ∷ []) (part t) (later t) (h t)

abbrev IsLate : Outcome → Type 0
IsLate (Done t events) = ⊥
IsLate (Trap clock cause) = ⊥
IsLate (OutOfCycles t events) = Unit {0}

is-late : (o : Outcome) → IsCutOff o → IsLate o
is-late o (cut_off t events) = tt

cut-logged : (events : List Event) (o : Outcome) → IsCutOff (logged events o) → IsCutOff o
cut-logged events (OutOfCycles t more) h = cut_off t more
cut-logged events (Done t more) h = absurd (is-late (Done t (events ++ more)) h)
cut-logged events (Trap clock cause) h = absurd (is-late (Trap clock cause) h)

within-on : (left : Bool) (mark : Mark) (n : ℕ) (s : State) (r : Result State Cause) (part : Part) → left ≡ true
    → ((t : State) → r ≡ Ok t → IsCutOff (part t) → ⊥) → IsCutOff (then_do (cond left (cycle_outcome mark n s r) (OutOfCycles s [])) part) → ⊥
within-on false mark n s r part e h f = absurd (let no : false ≡ true = e in cc)
within-on true mark n s (Err cause) part e h f = is-late (Trap s.core.clock cause) f
within-on true mark n s (Ok t) part e h f = h t refl (cut-logged (event_of mark n s ∷ []) (part t) f)

comes-to : (traps : Bool) (o : Outcome) (r : Result State Cause) (target : State) → EndsLike o r → (IsCutOff o → ⊥) → TrapsOrLeaves traps r target
    → TrapsOrIsDone traps o target
comes-to true (Done t events) r target agrees within (cause, is) = absurd (let no : Ok t ≡ Err cause = sym agrees ∙ is in cc)
comes-to true (Trap clock cause) r target agrees within answers = (clock, cause, refl)
comes-to true (OutOfCycles t events) r target agrees within answers = absurd (within (cut_off t events))
comes-to false (Done t events) r target agrees within answers =
    let same : Ok t ≡ Ok target = sym agrees ∙ answers in
    (events, cc)
comes-to false (Trap clock cause) r target agrees within answers = absurd (let no : Err cause ≡ Ok target = sym agrees ∙ answers in cc)
comes-to false (OutOfCycles t events) r target agrees within answers = absurd (within (cut_off t events))

module _ (constants : List ℕ) (kernel : List (List ℕ)) (limit : ℕ) where
  pub operations-agree : (items : List Item) (s : State) → EndsLike (operations constants kernel limit items s) (run constants items s)
  unfolding run seq skip taking
  operations-agree [] s = refl
  operations-agree (item ∷ items) s =
      agrees-on (nat_lt s.core.clock limit) (Do item) (advice_of item.op) s (step constants item s) (operations constants kernel limit items)
      (run constants items) (operations-agree items)

  pub operations-within : (items : List Item) (s : State) → s.core.clock + length items ≤ limit
      → IsCutOff (operations constants kernel limit items s) → ⊥
  unfolding seq skip taking
  operations-within [] s h f = is-late (Done s []) f
  operations-within (item ∷ items) s h f =
      within-on (nat_lt s.core.clock limit) (Do item) (advice_of item.op) s (step constants item s) (operations constants kernel limit items)
      (lt-ltb s.core.clock limit (omega arith))
      (λ t is. operations-within items t (let clock = step-clock constants item s t is in omega arith)) f

  pub operations-effect : (locals : ℕ) (s : State) → length constants ≡ number_of_constants → IsWellFormed s
      → (name : Name) (numbers : List ℕ) → is_in_form name numbers ≡ true → s.core.clock + length (expansion name numbers locals) ≤ limit
      → TrapsOrIsDone (instr_effect constants name numbers locals s).traps (operations constants kernel limit (expansion name numbers locals) s)
      (affected (instr_effect constants name numbers locals s) (length (expansion name numbers locals)) s)
  unfolding HasEffect
  operations-effect locals s count well name numbers form left =
      let items : List Item = expansion name numbers locals in
      comes-to _ (operations constants kernel limit items s) (run constants items s) _ (operations-agree items s) (operations-within items s left)
      (instruction-effects constants locals s count well name numbers form)
