use Rattle.std.proofs.Common.{◌≡◌, drop, if◌then◌else◌, slice_get}
use Rattle.show_why.specs.Neighbours.{token_behind}
use Rattle.show_why.proofs.neighbours.token_behind.Given as goal

abbrev pub invariant-loop-token : goal.invariant-loop-token
invariant-loop-token l =
    (if l.is_behind then slice_get (drop l.token-index l.tokens) 0 else token_behind l.line l.column (drop l.token-index l.tokens))
    ≡ token_behind l.line l.column l.tokens
