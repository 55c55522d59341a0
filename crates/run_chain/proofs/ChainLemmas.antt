-- A chain of runs is one run.
use Rattle.std.proofs.Common.{ℕ, List, [], ◌∷◌, map, refl, sym, subst}
use Rattle.std.specs.List.{AllByRecursion}
use Rattle.vm_field.specs.Machine.{start}
use Rattle.run_chain.specs.Following.{first_stack}
use Rattle.run_chain.specs.Chains.{FollowOn, Link, leg_of, fresh, Ends, IsRun, RunsThrough, last_outputs, ChainIsRun}

-- a run from inputs is one from the stack with which they start
from_stack : (constants : List ℕ) (link : Link) → IsRun constants link
    → Ends constants (leg_of link) (fresh (first_stack link.statement.inputs) link.tape) link.statement.outputs
unfolding start
from_stack constants link run = run

through : (constants : List ℕ) (first : Link) (later : List Link) → FollowOn first.statement (map (λ link. link.statement) later)
    → AllByRecursion (IsRun constants) (first ∷ later)
    → RunsThrough constants (map leg_of (first ∷ later)) (first_stack first.statement.inputs) (last_outputs first later)
through constants first [] chained runs = (first.statement.outputs, from_stack constants first runs.0, refl)
through constants first (link ∷ later) chained runs = (
  first.statement.outputs,
  from_stack constants first runs.0,
  subst (λ stack. RunsThrough constants (map leg_of (link ∷ later)) stack (last_outputs link later)) (sym chained.0)
      (through constants link later chained.1 runs.1),
)

pub chain-is-run : ChainIsRun
chain-is-run constants first later chained runs = through constants first later chained runs
