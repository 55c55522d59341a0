-- The limbs of 16 bits of a row: those of the operands, then those of what is left, each number's low limb first. Behind an access of
-- memory the other three elements of the word stand in their place.
use Rattle.std.specs.Prelude.{ℕ, ◌-◌, ◌/◌, ◌%◌, List, [], ◌∷◌, ◌++◌, drop, slice_index}
use Rattle.vm_ops.specs.declared.op.Op.{Op}
use Rattle.vm_ops.specs.declared.op.Op.TheVariants as ops
use Rattle.machine_cycles.specs.declared.event.Event.{Event}
use Rattle.machine_cycles.specs.declared.event.Visible.{Visible}

abbrev pub limbs : ℕ → List ℕ
limbs n = n % 65536 ∷ n / 65536 ∷ []

-- a cell of the state
abbrev pub cell : Visible → ℕ → ℕ
cell seen j = slice_index seen.cells j

-- of an operation between two states
abbrev pub limbs_by : Op → Visible → Visible → List ℕ
limbs_by ops.U32Split x y = limbs (cell y 1) ++ limbs (cell y 0)
limbs_by ops.U32Assert2 x y = limbs (cell x 0) ++ limbs (cell x 1)
limbs_by ops.U32Sub x y = limbs (cell x 0) ++ (limbs (cell x 1) ++ limbs (cell y 1))
limbs_by ops.U32Add x y = limbs (cell x 0) ++ (limbs (cell x 1) ++ (limbs (cell y 1) ++ cell y 0 ∷ []))
limbs_by ops.U32Mul x y = limbs (cell x 0) ++ (limbs (cell x 1) ++ (limbs (cell y 1) ++ limbs (cell y 0)))
limbs_by ops.U32Add3 x y = limbs (cell x 0) ++ (limbs (cell x 1) ++ (limbs (cell x 2) ++ (limbs (cell y 1) ++ cell y 0 ∷ [])))
limbs_by ops.U32MAdd x y = limbs (cell x 0) ++ (limbs (cell x 1) ++ (limbs (cell x 2) ++ (limbs (cell y 1) ++ limbs (cell y 0))))
limbs_by ops.U32Div x y =
    limbs (cell x 0) ++ (limbs (cell x 1) ++ (limbs (cell y 1) ++ (limbs (cell y 0) ++ limbs (cell x 0 - cell y 0 - 1))))
limbs_by op x y = []

-- the elements of the word that no cell of the stack shows
abbrev pub word_rest : Op → List ℕ → List ℕ
word_rest ops.MLoad word = drop 1 word
word_rest ops.MStore word = drop 1 word
word_rest op word = []

-- the limbs of a row before a state
unfoldable pub limbs_of : Event → Visible → List ℕ
limbs_of e next = limbs_by e.op e.before next ++ word_rest e.op e.word
