-- The operation that a run traps at, by induction on the operations.
use Rattle.std.proofs.Common.{◌≡◌, ℕ, List, [], ◌∷◌, Result, Ok, Err, refl, ◌∙◌, ap}
use Rattle.vm_field.specs.Machine.{State}
use Rattle.vm_ops.specs.declared.cause.Cause.{Cause}
use Rattle.vm_ops.specs.declared.item.Item.{Item}
use Rattle.vm_ops.specs.Runs.{after_ok, run}
use Rattle.vm_ops.specs.Step.{step}
use Rattle.masm_effects.specs.HasEffect.{TrapsFirst}

traps-on : (constants : List ℕ) (item : Item) (items : List Item) (s : State) (cause : Cause) (r : Result State Cause)
    → step constants item s ≡ r → ((t : State) → run constants items t ≡ Err cause → TrapsFirst constants items t cause)
    → after_ok (run constants items) r ≡ Err cause → TrapsFirst constants (item ∷ items) s cause
unfolding run
traps-on constants item items s cause (Err other) is later e =
    record { before = []; item = item; more = items; reached = s; split = refl; free = refl; traps = is ∙ e }
traps-on constants item items s cause (Ok t) is later e =
    let found : TrapsFirst constants items t cause = later t e in
    record {
      before = item ∷ found.before;
      item = found.item;
      more = found.more;
      reached = found.reached;
      split = ap (λ xs. item ∷ xs) found.split;
      free = ap (after_ok (run constants found.before)) is ∙ found.free;
      traps = found.traps;
    }

pub traps-first : (constants : List ℕ) (items : List Item) (s : State) (cause : Cause) → run constants items s ≡ Err cause
    → TrapsFirst constants items s cause
unfolding run
traps-first constants [] s cause e = absurd (let no : Ok s ≡ Err cause = e in cc)
traps-first constants (item ∷ items) s cause e =
    traps-on constants item items s cause (step constants item s) refl (λ t. traps-first constants items t cause) e
