-- A row of the main table from its parts: the 65 cells in the order of the columns.
use Rattle.std.specs.Prelude.{ℕ, ◌/◌, ◌%◌, ◌^◌, ◌==◌, List, [], ◌∷◌, slice_index}
use Rattle.vm_field.specs.Field.{felt_inv}
use Rattle.vm_field.specs.Signs.{◌⊟◌}
use Rattle.vm_ops.specs.Codes.{code_of, is_ordinary_op}
use Rattle.vm_ops.specs.declared.op.Op.{Op}
use Rattle.vm_ops.specs.Values.{bit_of}
use Rattle.machine_cycles.specs.declared.event.Visible.{Visible}

-- What is not given beyond the ends of the lists is 0.
pub record Line : Type 0 where
  pub op : Op
  pub seen : Visible  -- the state before the cycle
  pub address : ℕ  -- of the newest block
  pub hash : List ℕ
  pub left : ℕ  -- the positions of the batch that are left
  pub place : ℕ  -- in the group
  pub in_use : ℕ  -- the positions in use of a batch that begins; 0 in other rows
  pub key : ℕ
  pub ha : ℕ
  pub witnesses : List ℕ
  pub limbs : List ℕ

-- bit j of an operation's code
abbrev pub code_bit : Op → ℕ → ℕ
code_bit op j = code_of op / 2 ^ j % 2

unfoldable pub laid_out : Line → List ℕ
laid_out l =
    l.seen.clock ∷ l.seen.fmp ∷ l.seen.context ∷ bit_of l.seen.in_syscall
    ∷ slice_index l.seen.digest 0 ∷ slice_index l.seen.digest 1 ∷ slice_index l.seen.digest 2 ∷ slice_index l.seen.digest 3
    ∷ l.address
    ∷ code_bit l.op 0 ∷ code_bit l.op 1 ∷ code_bit l.op 2 ∷ code_bit l.op 3 ∷ code_bit l.op 4 ∷ code_bit l.op 5 ∷ code_bit l.op 6
    ∷ slice_index l.hash 0 ∷ slice_index l.hash 1 ∷ slice_index l.hash 2 ∷ slice_index l.hash 3
    ∷ slice_index l.hash 4 ∷ slice_index l.hash 5 ∷ slice_index l.hash 6 ∷ slice_index l.hash 7
    ∷ bit_of (is_ordinary_op l.op) ∷ l.left ∷ l.place
    ∷ bit_of (l.in_use == 8) ∷ bit_of (l.in_use == 4) ∷ bit_of (l.in_use == 2)
    ∷ slice_index l.seen.cells 0 ∷ slice_index l.seen.cells 1 ∷ slice_index l.seen.cells 2 ∷ slice_index l.seen.cells 3
    ∷ slice_index l.seen.cells 4 ∷ slice_index l.seen.cells 5 ∷ slice_index l.seen.cells 6 ∷ slice_index l.seen.cells 7
    ∷ slice_index l.seen.cells 8 ∷ slice_index l.seen.cells 9 ∷ slice_index l.seen.cells 10 ∷ slice_index l.seen.cells 11
    ∷ slice_index l.seen.cells 12 ∷ slice_index l.seen.cells 13 ∷ slice_index l.seen.cells 14 ∷ slice_index l.seen.cells 15
    ∷ l.seen.depth ∷ l.key ∷ felt_inv (l.seen.depth ⊟ 16) ∷ l.ha ∷ l.seen.nesting
    ∷ slice_index l.witnesses 0 ∷ slice_index l.witnesses 1 ∷ slice_index l.witnesses 2 ∷ slice_index l.witnesses 3
    ∷ slice_index l.limbs 0 ∷ slice_index l.limbs 1 ∷ slice_index l.limbs 2 ∷ slice_index l.limbs 3 ∷ slice_index l.limbs 4
    ∷ slice_index l.limbs 5 ∷ slice_index l.limbs 6 ∷ slice_index l.limbs 7 ∷ slice_index l.limbs 8 ∷ slice_index l.limbs 9 ∷ []
