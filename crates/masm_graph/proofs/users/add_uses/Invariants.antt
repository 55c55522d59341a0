use Rattle.std.proofs.Common.{◌≡◌, ℕ, ◌⊎◌, ◌↔◌, length, take}
use Rattle.graphs.specs.Graph.{rows_of, Edge}
use Rattle.masm_graph.specs.Users.{HasOwn}
use Rattle.masm_graph.proofs.users.add_uses.Given as goal

abbrev pub invariant-loop-link : goal.invariant-loop-link
invariant-loop-link l =
    ((place other : ℕ) → Edge (rows_of l.users.items) place other
    ↔ (Edge (rows_of l.fn.users.items) place other ⊎ ((other ≡ l.user) × HasOwn (take l.link-index l.row) place)))
    × (length l.users.items ≡ length l.fn.users.items)
