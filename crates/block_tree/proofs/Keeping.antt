-- No cycle's effect touches the clock: it is ticked in one place.
use Rattle.std.proofs.Common.{◌≡◌, ℕ, ◌+◌, List, [], ◌∷◌, Ok, refl, ap, ◌∙◌}
use Rattle.vm_field.specs.Machine.{Core, State}
use Rattle.block_tree.specs.Behind.{core_behind}
use Rattle.block_tree.specs.Cycles.{Mark, StartOpaque, effect_of, advice_taken}
use Rattle.block_tree.specs.Execution.{Event, Done, event_of, cycle}
use Rattle.block_tree.specs.Steps.{IsCycle}
use Rattle.block_tree.proofs.BehindLemmas.{behind-cycle}
use Rattle.block_tree.proofs.Parts.{taking-inv}

clock-behind : (constants : List ℕ) (mark : Mark) (advice : List ℕ) (c : Core) → (core_behind constants mark advice c).clock ≡ c.clock
clock-behind constants StartOpaque advice c = refl
clock-behind constants _ advice c = refl

module _ (constants : List ℕ) (kernel : List (List ℕ)) where
  clock-effect : (mark : Mark) (advice : List ℕ) (c d : Core) → effect_of constants kernel mark advice c ≡ Ok d → d.clock ≡ c.clock
  clock-effect mark advice c d e =
      ap (λ x. x.clock) (behind-cycle constants kernel mark advice c d e).1 ∙ clock-behind constants mark advice c

  -- each cycle ticks
  pub cycle-clock : (limit : ℕ) (mark : Mark) (s t : State) → IsCycle constants kernel limit mark s t → t.core.clock ≡ s.core.clock + 1
  cycle-clock limit mark s t c = ap (λ x. x.core.clock) c.now ∙ ap (λ n. n + 1) (clock-effect mark _ s.core c.core c.made)

  -- a cycle that is done is one of the machine's, with its event
  pub cycle-is : (limit : ℕ) (mark : Mark) (s t : State) (es : List Event) → cycle constants kernel limit mark s ≡ Done t es
      → IsCycle constants kernel limit mark s t × (es ≡ event_of mark (advice_taken mark) s ∷ [])
  cycle-is limit mark s t es e =
      let c = taking-inv limit mark (advice_taken mark) (effect_of constants kernel mark) s t es e in
      (record { before = c.before; enough = c.enough; core = c.core; made = c.made; now = c.now }, c.event)

  pub cycle-ticks : (limit : ℕ) (mark : Mark) (s t : State) (es : List Event) → cycle constants kernel limit mark s ≡ Done t es
      → t.core.clock ≡ s.core.clock + 1
  cycle-ticks limit mark s t es e = cycle-clock limit mark s t (cycle-is limit mark s t es e).0
