-- What is read of packed operations.
use Rattle.std.specs.Prelude.{◌≡◌, ℕ, Bool, ◌==◌, not, List, [], ◌∷◌, ◌++◌, Option, Some, option_map, option_and_then}
use Rattle.std.specs.List.{filter}
use Rattle.op_pack.specs.Reading.{reading}
use Rattle.vm_ops.specs.Codes.{code_of}
use Rattle.vm_ops.specs.declared.item.Item.{Item}

abbrev pub is_noop : Item → Bool
is_noop item = code_of item.op == 0

abbrev pub without_noops : List Item → List Item
without_noops items = filter (λ item. not (is_noop item)) items

-- the operations of all batches, one batch after another
abbrev pub read_batches : List (List ℕ) → Option (List Item)
read_batches [] = Some []
read_batches (batch ∷ batches) =
    option_and_then (λ first. option_map (λ later. first ++ later) (read_batches batches)) (reading batch)

-- a reading is there, and its operations are these up to NOOPs
pub record IsReadAs (reading : Option (List Item)) (items : List Item) : Type 0 where
  pub read : List Item
  pub is : reading ≡ Some read
  pub same : without_noops read ≡ without_noops items
