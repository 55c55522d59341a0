use Rattle.std.proofs.Common.{◌≡◌, ℕ, ◌<◌, ◌↔◌, length}
use Rattle.graphs.specs.Graph.{rows_of, Edge}
use Rattle.masm_graph.specs.Users.{UsesProcedure}
use Rattle.masm_graph.proofs.users.users_of.Given as goal

abbrev pub invariant-loop-user : goal.invariant-loop-user
invariant-loop-user l =
    ((place other : ℕ) → Edge (rows_of l.users.items) place other ↔ ((other < l.user) × UsesProcedure (rows_of l.rows) other place))
    × (length l.users.items ≡ length l.rows)
