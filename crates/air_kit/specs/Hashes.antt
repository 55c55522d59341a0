-- The hash computations that a hasher's table shows, by their addresses.
use Rattle.std.specs.Prelude.{ℕ, ◌-◌, ◌%◌, Bool, ◌==◌, ◌&&◌, if◌then◌else◌, List, [], ◌∷◌, drop, Option, Some, None}
use Rattle.vm_field.specs.Sponge.{HashInput}
use Rattle.chip_columns.specs.HasherColumns.{mode, cont, more, x}
use Rattle.air_kit.specs.ChipTuples.{absorbed_part}

-- The blocks of a hash from a permutation's first row on: its own, and, as long as its last row says that the hash goes on, those
-- of the permutations behind it.
unfoldable pub blocks_from : List (List ℕ) → List (List ℕ)
blocks_from (r0 ∷ r1 ∷ r2 ∷ r3 ∷ r4 ∷ r5 ∷ r6 ∷ r7 ∷ rows) =
    absorbed_part r0 ∷ (if more r7 == 1 then blocks_from rows else [])
blocks_from rows = []

-- a hash begins in this row
abbrev pub begins_hash : List ℕ → Bool
begins_hash row = (mode row == 0) && (cont row == 0)

abbrev pub computation_from : List (List ℕ) → Option HashInput
computation_from [] = None
computation_from (row ∷ rows) =
    if begins_hash row then Some (record { domain = x row 1; blocks = blocks_from (row ∷ rows) }) else None

-- What is hashed at an address: none where no hash begins there. Addresses count the table's rows from 1 on.
abbrev pub computation_at : List (List ℕ) → ℕ → Option HashInput
computation_at rows address =
    if address % 8 == 1 then computation_from (drop (address - 1) rows) else None
