-- Paths of a Merkle tree: where they lead, and how they lie on a tape.
use Rattle.std.specs.Prelude.{◌≡◌, ℕ, zero, suc, ◌==◌, if◌then◌else◌, List, [], ◌∷◌, ◌++◌, take, drop, slice_index}
use Rattle.std.specs.List.{flat_map, fold}
use Rattle.vm_field.specs.Sponge.{digest_of_input}
use Rattle.vm_ops.specs.Values.{bit_of}
use Rattle.merkle_lib.specs.declared.paths.Step.{Step}

-- the block of a node and its sibling, the left one first; the bit is 0 where the node is the left one
abbrev pub pair : List ℕ → Step → List ℕ
pair node step = if step.bit then step.sibling ++ node else node ++ step.sibling

-- the node above a node
abbrev pub parent : List ℕ → List ℕ → Step → List ℕ
parent constants node step = digest_of_input constants (record { domain = 0; blocks = pair node step ∷ [] })

-- from the leaf each step leads to the node above, and the last one to the root
abbrev pub Leads : List ℕ → List ℕ → List Step → List ℕ → Type 0
Leads constants leaf path root = fold (parent constants) leaf path ≡ root

-- a step as it lies on a tape: the sibling, its element 0 first, and then the bit
abbrev pub tape_of_step : Step → List ℕ
tape_of_step step = step.sibling ++ bit_of step.bit ∷ []

abbrev pub tape_of : List Step → List ℕ
tape_of path = flat_map tape_of_step path

-- the step that lies in front of a tape
abbrev pub first_step : List ℕ → Step
first_step tape = record { sibling = take 4 tape; bit = slice_index tape 4 == 1 }

-- so many steps from the front of a tape on
abbrev pub steps_on : ℕ → List ℕ → List Step
steps_on zero tape = []
steps_on (suc n) tape = first_step tape ∷ steps_on n (drop 5 tape)
