use Rattle.std.proofs.Common.{List, ℕ, sym, subst}
use Rattle.air_kit.specs.Requests.{Fits}
use Rattle.test_tables.proofs.chips.fills_empty_program.Goals as goal

pub fill_chips-requires-clause-fit : goal.fill_chips-requires-clause-fit
fill_chips-requires-clause-fit g c κs within =
    subst (λ (kernel : List (List ℕ)). Fits c.new-permutations.result kernel c.in_ok-requests.requests) (sym c.new.ensures.empty)
    (c.in_ok-requests.ensures.fit c.new-permutations.result)
