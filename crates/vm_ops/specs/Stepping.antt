-- The step taken apart: where it goes on and where it traps, what it keeps of a state, and how it moves the stack.
use Rattle.std.specs.Prelude.{◌≡◌, ◌⊎◌, ℕ, ◌+◌, ◌<◌, ◌≤◌, List, ◌∷◌, take, drop, length, slice_index, Some, None}
use Rattle.vm_field.specs.Machine.{Core, State}
use Rattle.vm_ops.specs.declared.cause.Cause.{Cause}
use Rattle.vm_ops.specs.declared.cause.Cause.TheVariants.{AdviceEmpty}
use Rattle.vm_ops.specs.declared.item.Item.{Item}
use Rattle.vm_ops.specs.declared.op.Shift.{Shift}
use Rattle.vm_ops.specs.declared.op.Shift.TheVariants.{Left, Stay, Right}
use Rattle.vm_ops.specs.Step.{seen, performed}
use Rattle.vm_ops.specs.Values.{Seen, advice_of, trap_of}

-- what the operation sees of a state, with the advice that it takes
abbrev pub seen_at : List ℕ → Item → State → Seen
seen_at constants item s = seen constants item (take (advice_of item.op) s.tape) s.core

-- the state behind the operation
abbrev pub state_after : List ℕ → Item → State → State
state_after constants item s = record {
  core = record (performed item.op (seen_at constants item s) s.core) { clock = s.core.clock + 1 };
  tape = drop (advice_of item.op) s.tape;
}

-- the step goes on: the tape is long enough and the operation does not trap
pub record Stepped (constants : List ℕ) (item : Item) (s t : State) : Type 0 where
  pub enough : advice_of item.op ≤ length s.tape
  pub free : trap_of item.op (seen_at constants item s) ≡ None
  pub is : t ≡ state_after constants item s

-- the step traps: the tape is too short, or the operation has a cause of its own
pub record Trapped (constants : List ℕ) (item : Item) (s : State) (cause : Cause) : Type 0 where
  pub why : ((length s.tape < advice_of item.op) × (cause ≡ AdviceEmpty))
      ⊎ ((advice_of item.op ≤ length s.tape) × (trap_of item.op (seen_at constants item s) ≡ Some cause))

-- the same function runs, called from the same place
pub record IsSameCall (c d : Core) : Type 0 where
  pub context : d.context ≡ c.context
  pub in_syscall : d.in_syscall ≡ c.in_syscall
  pub digest : d.digest ≡ c.digest
  pub nesting : d.nesting ≡ c.nesting

-- What a shift does to the cells below the sixteenth, of a stack before and behind it: the sixteenth cell goes to their
-- front, or the first of them becomes the sixteenth cell, which is 0 where there is none.
abbrev pub ShiftedBelow : Shift → List ℕ → List ℕ → Type 0
ShiftedBelow Right before after = drop 16 after ≡ slice_index before 15 ∷ drop 16 before
ShiftedBelow Stay before after = drop 16 after ≡ drop 16 before
ShiftedBelow Left before after = (drop 16 after ≡ drop 17 before) × (slice_index after 15 ≡ slice_index (drop 16 before) 0)

-- the same is shown of both: all but the immediate, the advice, the word of memory and the constants
pub record ShowTheSame (a b : Seen) : Type 0 where
  pub clock : a.clock ≡ b.clock
  pub fmp : a.fmp ≡ b.fmp
  pub in_syscall : a.in_syscall ≡ b.in_syscall
  pub digest : a.digest ≡ b.digest
  pub depth : a.depth ≡ b.depth
  pub cells : a.cells ≡ b.cells
