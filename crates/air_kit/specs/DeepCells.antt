-- The cells below the sixteenth and their keys: the tuples that such cells are, and which there are at the start, where inputs are
-- that deep (docs/CONSTRAINTS.md).
use Rattle.std.specs.Prelude.{ℕ, zero, suc, ◌+◌, ◌-◌, List, [], ◌∷◌, drop, length, slice_index}
use Rattle.buses.specs.Counts.{Counted, once}
use Rattle.vm_field.specs.Field.{prime}
use Rattle.vm_field.specs.Limits.{least_depth}
use Rattle.air_kit.specs.Places.{Claim}

-- the key of the newest cell; 0 where there is none
abbrev pub key_of : List ℕ → ℕ
key_of keys = slice_index keys 0

-- cells with their keys, each with the key of the one below it
unfoldable pub cell_tuples : List ℕ → List ℕ → List Counted
cell_tuples [] cells = []
cell_tuples (key ∷ keys) cells = once (key ∷ slice_index cells 0 ∷ key_of keys ∷ []) ∷ cell_tuples keys (drop 1 cells)

-- The inputs below the sixteenth have the greatest elements as their keys, by their numbers from 0 on; no clock is so great.
unfoldable pub input_key : ℕ → ℕ
input_key i = prime - suc i

-- those of n inputs, from number i on
unfoldable pub input_keys : ℕ → ℕ → List ℕ
input_keys i zero = []
input_keys i (suc n) = input_key i ∷ input_keys (suc i) n

-- those of all inputs that are so deep, where there are n
abbrev pub keys_at_start : ℕ → List ℕ
keys_at_start n = input_keys 0 n

-- the cells below the sixteenth at the start, how deep the stack is then, and the key of the newest of those cells
abbrev pub deep_at_start : Claim → List ℕ
deep_at_start c = drop 16 c.inputs

abbrev pub depth_at_start : Claim → ℕ
depth_at_start c = least_depth + length (deep_at_start c)

abbrev pub key_at_start : Claim → ℕ
key_at_start c = key_of (keys_at_start (length (deep_at_start c)))

-- their tuples
abbrev pub tuples_at_start : Claim → List Counted
tuples_at_start c = cell_tuples (keys_at_start (length (deep_at_start c))) (deep_at_start c)
