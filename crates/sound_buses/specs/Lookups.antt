-- What rows look up in the tables of the hasher, of bitwise operations, of memory, of ranges and of the kernel.
use Rattle.std.specs.Prelude.{◌≡◌, ℕ, suc, ◌^◌, ◌<◌, true, List, ◌∷◌, length}
use Rattle.buses.specs.Counts.{counted, over_rows}
use Rattle.buses.specs.declared.bus.Bus.TheVariants as bus
use Rattle.vm_field.specs.Limits.{most_nesting}
use Rattle.vm_field.specs.Signs.{◌⊞◌, ◌⊟◌}
use Rattle.vm_field.specs.Permutation.{permuted}
use Rattle.vm_ops.specs.declared.op.Op.TheVariants as ops
use Rattle.vm_table.specs.MainColumns.{ctx, ha, lv, s, t, w}
use Rattle.air_kit.specs.ChipTuples.{chip_given}
use Rattle.air_kit.specs.MainTuples.{domain_of, eight, front, hash_end, hasher_asked, count_of_limbs, twelve}
use Rattle.air_kit.specs.declared.trace.TableName.TheVariants as table
use Rattle.block_tree.specs.Cycles.{is_in_kernel}
use Rattle.facts_hasher.specs.HashMeaning.{TableGives}
use Rattle.facts_bitwise.specs.BitTables.{IsBitwise}
use Rattle.facts_memory.specs.MainAccesses.{ServesMain}
use Rattle.vm_table.specs.Layout.{row_at}
use Rattle.facts_main.specs.MainRows.{op_in}
use Rattle.sound_buses.specs.Blocks.{IsAt, Starts, own}

-- how often the hasher's table gives a tuple
abbrev pub hasher_gives : List (List ℕ) → List ℕ → ℕ
hasher_gives hasher u = over_rows (chip_given bus.Hasher table.Hasher) hasher u

-- row i asks the hasher's table for this at the address
abbrev pub AsksAt : List (List ℕ) → ℕ → ℕ → ℕ → List ℕ → Type 0
AsksAt rows i tag address values =
    (suc i < length rows) × (0 < counted (hasher_asked (row_at rows i) (row_at rows (suc i))) (tag ∷ address ∷ values))

-- What rows ask is given: the first block of a start, the next one of a RESPAN, and an END's digest. HPERM leaves the permutation of
-- what it takes, and asks alone at the address where it stands.
pub record HashFacts (constants : List ℕ) (rows hasher : List (List ℕ)) : Type 0 where
  pub table : TableGives constants hasher (hasher_gives hasher)
  pub starts : (j : ℕ) → Starts rows j → 0 < hasher_gives hasher (1 ∷ own rows j ∷ domain_of (op_in rows j) ∷ eight (row_at rows j))
  pub goes_on : (i : ℕ) → IsAt rows i ops.Respan → 0 < hasher_gives hasher (2 ∷ (ha (row_at rows i) ⊞ 8) ∷ eight (row_at rows i))
  pub ends : (e : ℕ) → IsAt rows e ops.End → 0 < hasher_gives hasher (3 ∷ hash_end (row_at rows e) ∷ front (row_at rows e))
  pub permutes : (i : ℕ) → IsAt rows i ops.HPerm → twelve (row_at rows (suc i)) ≡ permuted constants (twelve (row_at rows i))
  pub alone : (i k tag : ℕ) (values : List ℕ) → IsAt rows i ops.HPerm → AsksAt rows k tag (w (row_at rows i) 0) values → k ≡ i

-- U32AND and U32XOR take numbers of 32 bits and leave their and, or their exclusive or
pub record BitFacts (rows : List (List ℕ)) : Type 0 where
  pub conjunction : (i : ℕ) → IsAt rows i ops.U32And → IsBitwise 0 (s (row_at rows i) 0) (s (row_at rows i) 1) (s (row_at rows (suc i)) 0)
  pub difference : (i : ℕ) → IsAt rows i ops.U32Xor → IsBitwise 1 (s (row_at rows i) 0) (s (row_at rows i) 1) (s (row_at rows (suc i)) 0)

-- where contexts have 32 bits, rows access memory as the rows before them leave it
abbrev pub MemoryFacts : List (List ℕ) → Type 0
MemoryFacts rows = ((i : ℕ) → i < length rows → ctx (row_at rows i) < 2 ^ 32) → ServesMain rows

-- limbs have 16 bits, and so has the number of blocks that may still be nested in one that starts
pub record RangeFacts (rows : List (List ℕ)) : Type 0 where
  pub limb : (i j : ℕ) → suc i < length rows → j < count_of_limbs (op_in rows i) → t (row_at rows i) j < 2 ^ 16
  pub nesting : (j : ℕ) → Starts rows j → most_nesting ⊟ lv (row_at rows (suc j)) < 2 ^ 16

-- a syscall calls a function of the kernel
abbrev pub KernelFacts : List (List ℕ) → List (List ℕ) → Type 0
KernelFacts kernel rows = (j : ℕ) → IsAt rows j ops.Syscall → is_in_kernel kernel (front (row_at rows j)) ≡ true
