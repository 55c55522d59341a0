use Rattle.std.proofs.Common.{◌≡◌, ℕ, List, map, take}
use Rattle.tree_hash.specs.Nodes.{digest_in}
use Rattle.tree_hash.specs.Places.{first_place, place_at}
use Rattle.tree_hash.proofs.places.Places.of.Given as goal

abbrev pub invariant-loop-place : goal.invariant-loop-place
invariant-loop-place l = (digest : List ℕ) → place_at l.places digest ≡ first_place (map digest_in (take l.place l.nodes)) digest
