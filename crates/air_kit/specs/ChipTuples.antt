-- What a row of the small tables gives and asks on each bus, by its number, its cells and those of the row after it.
use Rattle.std.specs.Prelude.{ℕ, suc, ◌+◌, ◌%◌, ◌==◌, if◌then◌else◌, List, [], ◌∷◌, Option, Some, None, slice_index}
use Rattle.buses.specs.Counts.{Counted, OfRow, once}
use Rattle.buses.specs.declared.bus.Bus.{Bus}
use Rattle.buses.specs.declared.bus.Bus.TheVariants as bus
use Rattle.chip_columns.specs.RangeColumns as range
use Rattle.chip_columns.specs.HasherColumns as hasher
use Rattle.chip_columns.specs.BitwiseColumns as bitwise
use Rattle.chip_columns.specs.MemoryColumns as memory
use Rattle.chip_columns.specs.KernelColumns as kernel
use Rattle.chip_columns.specs.LeftColumns as left
use Rattle.air_kit.specs.Places.{Claim}
use Rattle.air_kit.specs.declared.trace.TableName.{TableName}
use Rattle.air_kit.specs.declared.trace.TableName.TheVariants as table

-- a value of 16 bits, as often as its row says
unfoldable pub range_given : List ℕ → List Counted
range_given row = record { tuple = range.v row ∷ []; count = range.count row } ∷ []

-- what goes into a hash: elements 4 to 11 of the state
abbrev pub absorbed_part : List ℕ → List ℕ
absorbed_part row =
    hasher.x row 4 ∷ hasher.x row 5 ∷ hasher.x row 6 ∷ hasher.x row 7 ∷ hasher.x row 8 ∷ hasher.x row 9 ∷ hasher.x row 10
    ∷ hasher.x row 11 ∷ []

-- what comes out of it: elements 4 to 7
abbrev pub digest_part : List ℕ → List ℕ
digest_part row = hasher.x row 4 ∷ hasher.x row 5 ∷ hasher.x row 6 ∷ hasher.x row 7 ∷ []

abbrev pub whole_part : List ℕ → List ℕ
whole_part row =
    hasher.x row 0 ∷ hasher.x row 1 ∷ hasher.x row 2 ∷ hasher.x row 3 ∷ hasher.x row 4 ∷ hasher.x row 5 ∷ hasher.x row 6
    ∷ hasher.x row 7 ∷ hasher.x row 8 ∷ hasher.x row 9 ∷ hasher.x row 10 ∷ hasher.x row 11 ∷ []

-- The first row of a permutation gives a permutation's input, a hash's next block, or its domain and first block.
unfoldable pub permutation_begins : ℕ → List ℕ → List Counted
permutation_begins address row =
    if hasher.mode row == 1 then once (4 ∷ address ∷ whole_part row) ∷ []
    else if hasher.cont row == 1 then once (2 ∷ address ∷ absorbed_part row) ∷ []
    else once (1 ∷ address ∷ hasher.x row 1 ∷ absorbed_part row) ∷ []

-- The last one gives its output, or the digest where the hash does not go on.
unfoldable pub permutation_ends : ℕ → List ℕ → List Counted
permutation_ends address row =
    if hasher.mode row == 1 then once (5 ∷ address ∷ whole_part row) ∷ []
    else if hasher.more row == 0 then once (3 ∷ address ∷ digest_part row) ∷ [] else []

unfoldable pub hasher_given : ℕ → List ℕ → List Counted
hasher_given i row =
    if i % 8 == 0 then permutation_begins (suc i) row else if i % 8 == 7 then permutation_ends (suc i) row else []

-- the last row of a bitwise operation
unfoldable pub bitwise_given : ℕ → List ℕ → List Counted
bitwise_given i row =
    if i % 8 == 7 then once (bitwise.op row ∷ bitwise.a row ∷ bitwise.b row ∷ bitwise.z row ∷ []) ∷ [] else []

unfoldable pub memory_given : List ℕ → List Counted
memory_given row =
    once (memory.kind row ∷ memory.ctx row ∷ memory.addr row ∷ memory.clk row ∷ memory.v row 0 ∷ memory.v row 1
    ∷ memory.v row 2 ∷ memory.v row 3 ∷ []) ∷ []

-- the limbs of a row of memory
unfoldable pub memory_ranges : List ℕ → List Counted
memory_ranges row =
    once (memory.d0 row ∷ []) ∷ once (memory.d1 row ∷ []) ∷ once (memory.a0 row ∷ []) ∷ once (memory.a1 row ∷ []) ∷ []

-- a digest of the kernel, as often as its row says
unfoldable pub kernel_given : List ℕ → List Counted
kernel_given row =
    record { tuple = kernel.d row 0 ∷ kernel.d row 1 ∷ kernel.d row 2 ∷ kernel.d row 3 ∷ []; count = kernel.count row } ∷ []

abbrev pub next_key : Option (List ℕ) → ℕ
next_key None = 0
next_key (Some y) = left.key y

-- a cell that is left below the sixteenth: its key, the output, and the key of the one below
unfoldable pub left_asked : Claim → ℕ → List ℕ → Option (List ℕ) → List Counted
left_asked c i row next = once (left.key row ∷ slice_index c.outputs (16 + i) ∷ next_key next ∷ []) ∷ []

-- what a row of a small table gives
abbrev pub chip_given : Bus → TableName → OfRow
chip_given bus.Range table.Range i x next = range_given x
chip_given bus.Hasher table.Hasher i x next = hasher_given i x
chip_given bus.Bitwise table.Bitwise i x next = bitwise_given i x
chip_given bus.Memory table.Memory i x next = memory_given x
chip_given bus.Kernel table.Kernel i x next = kernel_given x
chip_given bus table i x next = []

-- what it asks
abbrev pub chip_asked : Claim → Bus → TableName → OfRow
chip_asked c bus.Overflow table.Left i x next = left_asked c i x next
chip_asked c bus.Range table.Memory i x next = memory_ranges x
chip_asked c bus table i x next = []
