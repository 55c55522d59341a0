use Rattle.std.proofs.Common.{◌≡◌, ℕ, List, map, take}
use Rattle.masm_names.specs.Names.{place_at}
use Rattle.masm_names.specs.Uses.{place_in}
use Rattle.masm_names.proofs.names.Names.of.Given as goal

abbrev pub invariant-loop-place : goal.invariant-loop-place
invariant-loop-place g l = (text : List ℕ) → place_at l.names text ≡ place_in (map g.T.Named.name (take l.place l.items)) text
