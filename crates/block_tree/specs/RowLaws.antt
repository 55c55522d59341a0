-- The sizes of what rows show.
use Rattle.std.specs.Prelude.{◌≡◌, ℕ, ◌≤◌, List, length, take}
use Rattle.vm_field.specs.Field.{AreElements}
use Rattle.vm_field.specs.Machine.{Core, State, IsWord, IsWellFormedCore}
use Rattle.op_pack.specs.Reading.{IsBatch}
use Rattle.block_tree.specs.Cycles.{Mark, advice_taken, effect_of, top}
use Rattle.block_tree.specs.Marks.{IsWholeMark}
use Rattle.block_tree.specs.Rows.{hash_of, accessed, behind, four_of}
use Rattle.block_tree.specs.Steps.{IsCycle}

-- of a whole mark the row shows eight elements of hashing
abbrev pub HashIsBatch : Type 0
HashIsBatch = (mark : Mark) → IsWholeMark mark → IsBatch (hash_of mark)

-- no cycle takes more than four elements of the tape
abbrev pub TakesAtMostFour : Type 0
TakesAtMostFour = (mark : Mark) → advice_taken mark ≤ 4

-- and with zeros behind them they are four
abbrev pub FourAreWord : Type 0
FourAreWord = (elements : List ℕ) → length elements ≤ 4 → AreElements elements → IsWord (four_of elements)

-- the word that a cycle reads or writes
abbrev pub AccessedIsWord : Type 0
AccessedIsWord = (mark : Mark) (before after : Core) → IsWellFormedCore after → IsWord (accessed mark before after)

-- the state behind a cycle, but for the clock and the tape
abbrev pub core_after : List ℕ → List (List ℕ) → Mark → State → Core
core_after constants kernel mark s = behind (effect_of constants kernel mark (take (advice_taken mark) s.tape) s.core) s.core

-- what a row shows of the state behind its cycle is what stands in the state of the next row
abbrev pub ShownBehind : Type 0
ShownBehind = (constants : List ℕ) (kernel : List (List ℕ)) (limit : ℕ) (mark : Mark) (s t : State) → IsCycle constants kernel limit mark s t
    → (accessed mark s.core (core_after constants kernel mark s) ≡ accessed mark s.core t.core)
    × (top (core_after constants kernel mark s) ≡ top t.core)
