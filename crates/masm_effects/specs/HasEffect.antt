-- When a list of operations has an effect.
use Rattle.std.specs.Prelude.{◌≡◌, ℕ, ◌+◌, Bool, true, false, List, ◌∷◌, ◌++◌, length, drop, Result, Ok, Err}
use Rattle.vm_field.specs.Machine.{State, filled_up}
use Rattle.vm_ops.specs.declared.cause.Cause.{Cause}
use Rattle.vm_ops.specs.declared.item.Item.{Item}
use Rattle.vm_ops.specs.Step.{memory_with, step}
use Rattle.masm_effects.specs.Effects.{Effect}
use Rattle.vm_ops.specs.Runs.{run}

-- the state that an effect of so many cycles leaves
abbrev pub affected : Effect → ℕ → State → State
affected e cycles s = record {
  core = record s.core {
    clock = s.core.clock + cycles;
    stack = filled_up (e.leaves ++ drop e.takes s.core.stack);
    memory = memory_with s.core.memory s.core.context e.address e.word;
  };
  tape = drop e.advice s.tape;
}

-- a trap where the test holds, else the state
abbrev pub TrapsOrLeaves : Bool → Result State Cause → State → Type 0
TrapsOrLeaves true r t = (cause : Cause) × (r ≡ Err cause)
TrapsOrLeaves false r t = r ≡ Ok t

-- the list traps exactly where the effect does, and else leaves what the effect leaves
unfoldable pub HasEffect : List ℕ → List Item → State → Effect → Type 0
HasEffect constants items s e = TrapsOrLeaves e.traps (run constants items s) (affected e (length items) s)

-- An operation of the list traps for the cause, and those before it do not.
pub record TrapsFirst (constants : List ℕ) (items : List Item) (s : State) (cause : Cause) : Type 0 where
  pub before : List Item
  pub item : Item
  pub more : List Item
  pub reached : State
  pub split : items ≡ before ++ item ∷ more
  pub free : run constants before s ≡ Ok reached
  pub traps : step constants item reached ≡ Err cause
