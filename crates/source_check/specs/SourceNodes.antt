-- The blocks of a tree in preorder, and what each is hashed by. The permutation's constants are an argument throughout.
use Rattle.std.specs.Prelude.{ℕ, ◌-◌, List, [], ◌∷◌, ◌++◌, length, get_or, nat_le, if◌then◌else◌, Option, Some, None}
use Rattle.vm_field.specs.Machine.{zero_word}
use Rattle.vm_field.specs.Sponge.{HashInput}
use Rattle.block_tree.specs.Trees.{Tree, Targets, Opaque, Span, Join, Split, Loop, Call, Syscall, Dyn, no_target, target, input_of}
use Rattle.air_kit.specs.Hashes.{computation_at}

module _ (constants : List ℕ) where
  abbrev mutual
    -- what each block is hashed by, in preorder; one of which only the digest is known by nothing
    pub inputs_of : Tree → List (Option HashInput)
    inputs_of (Opaque digest) = input_of constants (Opaque digest) ∷ []
    inputs_of (Span batches) = input_of constants (Span batches) ∷ []
    inputs_of (Join first second) = input_of constants (Join first second) ∷ (inputs_of first ++ inputs_of second)
    inputs_of (Split on_one on_zero) = input_of constants (Split on_one on_zero) ∷ (inputs_of on_one ++ inputs_of on_zero)
    inputs_of (Loop body) = input_of constants (Loop body) ∷ inputs_of body
    inputs_of (Call callee) = input_of constants (Call callee) ∷ inputs_of callee
    inputs_of (Syscall callee) = input_of constants (Syscall callee) ∷ inputs_of callee
    inputs_of (Dyn targets) = input_of constants (Dyn targets) ∷ inputs_in targets

    -- those of all targets, also of those whose digest an earlier one has
    pub inputs_in : Targets → List (Option HashInput)
    inputs_in no_target = []
    inputs_in (target first more) = inputs_of first ++ inputs_in more

  -- what the block of this number is hashed by; the root has number 1
  abbrev pub node_input : Tree → ℕ → Option HashInput
  node_input tree node = get_or (None ∷ inputs_of tree) node None

-- What is hashed at an address of a table, and behind its last row by blocks, in order.
abbrev pub hashed_with : List (List ℕ) → List (Option HashInput) → ℕ → Option HashInput
hashed_with rows inputs address =
    if nat_le address (length rows) then computation_at rows address else get_or (None ∷ inputs) (address - length rows) None

-- the first of some blocks, or eight zeros
abbrev pub first_or_zeros : List (List ℕ) → List ℕ
first_or_zeros [] = zero_word ++ zero_word
first_or_zeros (block ∷ blocks) = block

-- the first block of what is hashed, or eight zeros
abbrev pub shown_block : Option HashInput → List ℕ
shown_block None = zero_word ++ zero_word
shown_block (Some input) = first_or_zeros input.blocks
