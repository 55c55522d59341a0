-- Runs of items, one list after another and from one well-formed state to another.
use Rattle.std.proofs.Common.{◌≡◌, ◌≢◌, ℕ, ◌<◌, List, [], ◌∷◌, ◌++◌, length, Option, Some, None, Result, Ok, Err, unwrap_or, refl, lit<}
use Rattle.std.proofs.lemmas.List.Elements.{All-head, All-tail}
use Rattle.std.specs.List.{All}
use Rattle.std.specs.Option.{MatchOption}
use Rattle.vm_field.specs.Limits.{number_of_constants}
use Rattle.vm_field.specs.Field.{prime}
use Rattle.vm_field.specs.Machine.{State, IsWellFormed}
use Rattle.vm_ops.proofs.StepLemmas.{step-kept}
use Rattle.vm_ops.specs.declared.cause.Cause.{Cause}
use Rattle.vm_ops.specs.declared.item.Item.{Item}
use Rattle.vm_ops.specs.declared.op.Op.TheVariants.{Push}
use Rattle.vm_ops.specs.Items.{IsOrdinaryItem}
use Rattle.vm_ops.specs.Runs.{after_ok, run}
use Rattle.vm_ops.specs.Step.{step}

pub run-nil : (constants : List ℕ) (s : State) → run constants [] s ≡ Ok s
unfolding run
run-nil constants s = refl

pub run-cons : (constants : List ℕ) (item : Item) (items : List Item) (s : State)
    → run constants (item ∷ items) s ≡ after_ok (run constants items) (step constants item s)
unfolding run
run-cons constants item items s = refl

after_both : (constants : List ℕ) (xs ys : List Item) (r : Result State Cause)
    → ((s : State) → run constants (xs ++ ys) s ≡ after_ok (run constants ys) (run constants xs s))
    → after_ok (run constants (xs ++ ys)) r ≡ after_ok (run constants ys) (after_ok (run constants xs) r)
after_both constants xs ys (Ok s) later = later s
after_both constants xs ys (Err cause) later = refl

pub run-append : (constants : List ℕ) (xs ys : List Item) (s : State)
    → run constants (xs ++ ys) s ≡ after_ok (run constants ys) (run constants xs s)
unfolding run
run-append constants [] ys s = refl
run-append constants (x ∷ xs) ys s = after_both constants xs ys (step constants x s) (run-append constants xs ys)

-- an ordinary item's immediate is an element
pub immediate-below : (item : Item) → IsOrdinaryItem item → unwrap_or item.imm 0 < prime
immediate-below item h = go item.imm h.immediate
  where
    go : (imm : Option ℕ) → MatchOption imm (item.op ≢ Push) (λ value. (item.op ≡ Push) × (value < prime)) → unwrap_or imm 0 < prime
    go None k = lit< tt
    go (Some value) k = k.1

kept_next : (constants : List ℕ) (items : List Item) (r : Result State Cause) (t : State) → ((s : State) → r ≡ Ok s → IsWellFormed s)
    → ((s : State) → IsWellFormed s → run constants items s ≡ Ok t → IsWellFormed t)
    → after_ok (run constants items) r ≡ Ok t → IsWellFormed t
kept_next constants items (Ok s) t first later e = later s (first s refl) e
kept_next constants items (Err cause) t first later e = cc

pub run-kept : (constants : List ℕ) (items : List Item) (s t : State) → length constants ≡ number_of_constants → All IsOrdinaryItem items
    → IsWellFormed s → run constants items s ≡ Ok t → IsWellFormed t
unfolding run
run-kept constants [] s t f each h e = let same : s ≡ t = cc in rw (← same) h
run-kept constants (item ∷ items) s t f each h e =
    kept_next constants items (step constants item s) t
    (λ u g. step-kept constants item s u f (immediate-below item (All-head IsOrdinaryItem item items each)) h g)
    (λ u k g. run-kept constants items u t f (All-tail IsOrdinaryItem item items each) k g) e
