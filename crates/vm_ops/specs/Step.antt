-- One cycle of an ordinary operation.
use Rattle.std.specs.Prelude.{ℕ, ◌+◌, nat_lt, if◌then◌else◌, List, ◌++◌, map, take, drop, length, slice_index, Option, Some, None, unwrap_or, Result, Ok, Err}
use Rattle.std.specs.FinMap.{insert}
use Rattle.vm_field.specs.Machine.{Core, State, WordMap, word_at, filled_up}
use Rattle.vm_ops.specs.declared.op.Op.{Op}
use Rattle.vm_ops.specs.declared.item.Item.{Item}
use Rattle.vm_ops.specs.declared.cause.Cause.{Cause}
use Rattle.vm_ops.specs.declared.cause.Cause.TheVariants.{AdviceEmpty}
use Rattle.vm_ops.specs.Moves.{takes_of, sources_of}
use Rattle.vm_ops.specs.Values.{Seen, computed, fmp_after, written, trap_of, advice_of}

-- what the operation reads of a state, under the permutation's constants and with the advice that it takes
abbrev pub seen : List ℕ → Item → List ℕ → Core → Seen
seen constants item advice c = record {
  constants = constants;
  immediate = unwrap_or item.imm 0;
  advice = advice;
  word = word_at c.memory c.context (slice_index c.stack 0);
  clock = c.clock;
  fmp = c.fmp;
  in_syscall = c.in_syscall;
  digest = c.digest;
  depth = length c.stack;
  cells = take 16 c.stack;
}

-- the cells that the operation leaves on top: what it computes, or the cells that it moves
unfoldable pub left_cells : Op → Seen → List ℕ
left_cells op s = computed op s ++ map (slice_index s.cells) (sources_of op)

-- the stack behind the operation: those cells, then the cells below those that it takes, and zeros up to sixteen cells
unfoldable pub stack_after : Op → Seen → List ℕ → List ℕ
stack_after op s stack = filled_up (left_cells op s ++ drop (takes_of op) stack)

abbrev pub memory_with : WordMap → ℕ → ℕ → Option (List ℕ) → WordMap
memory_with memory context place None = memory
memory_with memory context place (Some word) = insert memory (context, place) word

-- the state but for the clock and the tape
abbrev pub performed : Op → Seen → Core → Core
performed op s c = record c {
  fmp = fmp_after op s;
  stack = stack_after op s c.stack;
  memory = memory_with c.memory c.context (slice_index c.stack 0) (written op s);
}

abbrev pub unless_trapped : Option Cause → Core → Result Core Cause
unless_trapped None c = Ok c
unless_trapped (Some cause) c = Err cause

-- The operation on a state with the advice that it takes: the state behind it but for the clock, or its trap.
unfoldable pub act : List ℕ → Item → List ℕ → Core → Result Core Cause
act constants item advice c =
    unless_trapped (trap_of item.op (seen constants item advice c)) (performed item.op (seen constants item advice c) c)

-- the clock grows by one, and the tape loses what was taken
abbrev pub ticked : ℕ → List ℕ → Result Core Cause → Result State Cause
ticked n tape (Ok c) = Ok (record { core = record c { clock = c.clock + 1 }; tape = drop n tape })
ticked n tape (Err cause) = Err cause

-- a cycle that takes n elements of the tape, or traps where the tape has fewer
unfoldable pub cycle_taking : ℕ → (List ℕ → Core → Result Core Cause) → State → Result State Cause
cycle_taking n effect s =
    if nat_lt (length s.tape) n then Err AdviceEmpty else ticked n s.tape (effect (take n s.tape) s.core)

-- the step of an ordinary operation
abbrev pub step : List ℕ → Item → State → Result State Cause
step constants item s = cycle_taking (advice_of item.op) (act constants item) s
