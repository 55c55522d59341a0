use Rattle.std.proofs.Common.{◌≡◌, ℕ, ◌≤◌, List, length, drop, Result, Ok, Err, IfOk, sym, subst, arith}
use Rattle.std.proofs.lemmas.List.{length-drop}
use Rattle.complete_rows.specs.Turns.{respans}
use Rattle.complete_rows.proofs.BoundLemmas.{few_respans}
use Rattle.fill_main.proofs.fill.batches_of.Goals as goal

few_answered : {E : Type 0} (answer : Result (List (List ℕ)) E) (batches : List (List ℕ)) (most : ℕ)
    → IfOk answer (λ found. found ≡ batches) → length batches ≤ most → IfOk answer (λ found. length found ≤ most)
few_answered (Ok found) batches most is few = subst (λ (xs : List (List ℕ)). length xs ≤ most) (sym is) few
few_answered (Err refusal) batches most is few = tt

-- a span has no more later batches than there are later events
pub returns-in-Span-clause-few : goal.returns-in-Span-clause-few
returns-in-Span-clause-few c =
    let events = c.args.events.now in
    let later = drop c.args.first events in
    few_answered c.respans.result (respans later) (length events) c.respans.ensures
    (omega (arith, few_respans later, length-drop c.args.first events))
