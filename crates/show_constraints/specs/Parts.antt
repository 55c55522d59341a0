-- What a constraint is within its row of docs/CONSTRAINTS.md, where that row has more than one number and the constraint is no sum over
-- operations.
use Rattle.std.specs.Prelude.{ℕ, ◌+◌, ◌-◌, nat_le, ◌&&◌, if◌then◌else◌, List, [], ◌∷◌, ◌++◌, map, codes, decimal, Option, Some, None}
use Rattle.air_kit.specs.declared.trace.TableName.{TableName}
use Rattle.air_kit.specs.declared.trace.TableName.TheVariants as table
use Rattle.show_constraints.specs.declared.parts.Part as declared

-- what the constraints from one number to another say: pieces of text between which the index stands that each has, and the first one's index
pub record Part : Type 0 where
  pub first : ℕ
  pub last : ℕ
  pub pieces : List (List ℕ)
  pub index : ℕ

-- one constraint, which has no index
abbrev pub one : ℕ → List ℕ → Part
one number text = record { first = number; last = number; pieces = text ∷ []; index = 0 }

-- constraints that differ by their index
abbrev pub each : ℕ → ℕ → List (List ℕ) → ℕ → Part
each first last pieces index = record { first = first; last = last; pieces = pieces; index = index }

-- as the code has them
abbrev pub part_as_said : declared.Part → Part
part_as_said part =
    record { first = part.first; last = part.last; pieces = map (λ piece. piece.now) part.pieces.now; index = part.index }

unfoldable pub parts_of : TableName → List Part
parts_of table.Main =
    each 1 7 (codes "b" ∷ codes " (b" ∷ codes " - 1)" ∷ []) 0
    ∷ one 67 (codes "([SPLIT] + [LOOP]) s0 (s0 - 1)")
    ∷ one 68 (codes "[REPEAT](s0 - 1)")
    ∷ one 69 (codes "[END] h4 s0")
    ∷ each 70 73 (codes "[END] h" ∷ codes " (h" ∷ codes " - 1)" ∷ []) 4
    ∷ one 74 (codes "[END] q (q - 1)")
    ∷ each 75 78 (codes "([LOOP] + C + [DYN]) h" ∷ codes "" ∷ []) 4
    ∷ one 79 (codes "C sys")
    ∷ one 80 (codes "[CALLER](1 - sys)")
    ∷ one 81 (codes "[HALT] addr")
    ∷ each 92 94 (codes "B c" ∷ codes " (c" ∷ codes " - 1)" ∷ []) 0
    ∷ one 95 (codes "B (c0 + c1 + c2)(c0 + c1 + c2 - 1)")
    ∷ each 96 102 (codes "B u" ∷ codes " h" ∷ codes "" ∷ []) 1
    ∷ one 108 (codes "sp stay (1 - sp')")
    ∷ one 109 (codes "sp stay (128 h0' - z)")
    ∷ one 140 (codes "Two (s0 - L(0))")
    ∷ one 141 (codes "Two (s1 - L(2))")
    ∷ one 142 (codes "Three (s2 - L(4))")
    ∷ each 148 151 (codes "[DYN] h" ∷ codes "" ∷ []) 0
    ∷ []
parts_of table.Range = []
parts_of table.Hasher = each 18 29 (codes "x" ∷ codes "'^7 - u" ∷ codes "" ∷ []) 0 ∷ []
parts_of table.Bitwise =
    each 2 5 (codes "a" ∷ codes " (a" ∷ codes " - 1)" ∷ []) 0
    ∷ each 6 9 (codes "b" ∷ codes " (b" ∷ codes " - 1)" ∷ []) 0
    ∷ []
parts_of table.Memory =
    one 2 (codes "n0 (n0 - 1)")
    ∷ one 3 (codes "n1 (n1 - 1)")
    ∷ one 4 (codes "n0 n1")
    ∷ one 7 (codes "(1 - n0')(ctx' - ctx)")
    ∷ one 8 (codes "(1 - n0')(1 - n1')(addr' - addr)")
    ∷ one 10 (codes "(kind - 1)(kind - 2) v0")
    ∷ each 11 13 (codes "(kind - 1) v" ∷ codes "" ∷ []) 1
    ∷ one 14 (codes "(kind' - 1)(kind' - 2)(v0' - g v0)")
    ∷ each 15 17 (codes "(kind' - 1)(v" ∷ codes "' - g v" ∷ codes ")" ∷ []) 1
    ∷ []
parts_of table.Kernel = []
parts_of table.Left = []

-- the part that has this number
unfoldable pub part_in : ℕ → List Part → Option Part
part_in number [] = None
part_in number (part ∷ parts) = if nat_le part.first number && nat_le number part.last then Some part else part_in number parts

-- pieces with the index between them
unfoldable pub with_index : ℕ → List (List ℕ) → List ℕ
with_index index [] = []
with_index index (piece ∷ []) = piece
with_index index (piece ∷ next ∷ pieces) = piece ++ decimal index ++ with_index index (next ∷ pieces)

-- what the constraint of this number says
abbrev pub part_text : ℕ → Part → List ℕ
part_text number part = with_index (part.index + (number - part.first)) part.pieces
