-- What a tree does from a state: it is done, it traps, or the limit of cycles ends it (docs/MACHINE.md, "Cycles").
use Rattle.std.specs.Prelude.{ℕ, zero, suc, ◌-◌, nat_lt, if◌then◌else◌, List, [], ◌∷◌, ◌++◌, take, Option, Some, None, Result, Ok, Err, nat_eq, is_some}
use lib.Pointwise.{pointwise}
use Rattle.vm_field.specs.Machine.{Core, State}
use Rattle.vm_ops.specs.declared.item.Item.{Item}
use Rattle.vm_ops.specs.declared.cause.Cause.{Cause}
use Rattle.vm_ops.specs.Step.{cycle_taking}
use Rattle.op_pack.specs.Reading.{reading}
use Rattle.block_tree.specs.Trees.{Tree, Opaque, Span, Join, Split, Loop, Call, Syscall, Dyn, Targets, no_target, target, first_target, tree_digest}
use Rattle.block_tree.specs.Cycles.{Cycle, Mark, StartOpaque, StartSpan, StartJoin, StartSplit, StartLoop, StartCall, StartSyscall, StartDyn, Respan, Repeat, Do, End, EndSpan, EndLoop, EndCall, EndSyscall, frame_of, top, called_word, effect_of, advice_taken}

-- One cycle of a run: what it is, the state before it but for the tape, and what it takes of the tape.
pub record Event : Type 0 where
  pub mark : Mark
  pub core : Core
  pub advice : List ℕ

-- How a run comes out: done, with a cycle's event each; a trap at a clock; or cut off by the limit, with the state at the cut and
-- the event of each cycle before it.
pub data Outcome : Type 0 where
  Done : (state : State) (events : List Event) → Outcome
  Trap : (clock : ℕ) (cause : Cause) → Outcome
  OutOfCycles : (state : State) (events : List Event) → Outcome

-- that the limit cut a run off
pub data IsCutOff : Outcome → Type 0 where
  cut_off : (state : State) (events : List Event) → IsCutOff (OutOfCycles state events)

-- a part of a run
abbrev pub Part : Type 0
Part = State → Outcome

-- the events before come first
abbrev pub logged : List Event → Outcome → Outcome
logged events (Done s more) = Done s (events ++ more)
logged events (Trap clock cause) = Trap clock cause
logged events (OutOfCycles s more) = OutOfCycles s (events ++ more)

abbrev pub then_do : Outcome → Part → Outcome
then_do (Done s events) next = logged events (next s)
then_do (Trap clock cause) next = Trap clock cause
then_do (OutOfCycles s events) next = OutOfCycles s events

-- nothing at all
unfoldable pub skip : Part
skip s = Done s []

-- one part, and then the other
unfoldable pub seq : Part → Part → Part
seq first second s = then_do (first s) second

-- what a cycle from a state comes to
abbrev pub event_of : Mark → ℕ → State → Event
event_of mark n s = record { mark = mark; core = s.core; advice = take n s.tape }

abbrev pub cycle_outcome : Mark → ℕ → State → Result State Cause → Outcome
cycle_outcome mark n s (Ok t) = Done t (event_of mark n s ∷ [])
cycle_outcome mark n s (Err cause) = Trap s.core.clock cause

-- A cycle that takes n elements of the tape. The limit is tested first, and then the cycle's causes.
unfoldable pub taking : ℕ → Mark → ℕ → (List ℕ → Cycle) → Part
taking limit mark n effect s =
    if nat_lt s.core.clock limit then cycle_outcome mark n s (cycle_taking n effect s) else OutOfCycles s []

-- the first part at 0, and else the second
abbrev pub at_bit : ℕ → Part → Part → Part
at_bit zero on_zero on_one = on_zero
at_bit (suc n) on_zero on_one = on_one

-- under the permutation's constants, the kernel's list, and the clock that is the limit
module _ (constants : List ℕ) (kernel : List (List ℕ)) (limit : ℕ) where
  abbrev pub cycle : Mark → Part
  cycle mark = taking limit mark (advice_taken mark) (effect_of constants kernel mark)

  -- one operation after another
  abbrev pub operations : List Item → Part
  operations [] = skip
  operations (item ∷ items) = seq (cycle (Do item)) (operations items)

  -- the operations of a batch; one without a reading has trapped before
  abbrev pub read_operations : Option (List Item) → Part
  read_operations None = skip
  read_operations (Some items) = operations items

  -- the batches from one on: it is begun by SPAN or RESPAN, and each later one by RESPAN
  abbrev pub batches_from : (List ℕ → Mark) → List (List ℕ) → Part
  batches_from begins [] = skip
  batches_from begins (batch ∷ later) =
      seq (cycle (begins batch)) (seq (read_operations (reading batch)) (batches_from Respan later))

  -- Turns of a loop, at most so many, of a body with its digest in a loop with its digest. After each a 0 on top ends the loop,
  -- and a 1 is popped by REPEAT, at which any other value traps.
  abbrev pub turns : List ℕ → List ℕ → ℕ → Part → Part
  turns digest body_digest zero body s = OutOfCycles s []
  turns digest body_digest (suc n) body s =
      seq body (λ t. at_bit (top t.core)
      (cycle (EndLoop digest))
      (seq (cycle (Repeat body_digest)) (turns digest body_digest n body)) t) s

  -- The run of a tree. Each turn of a loop takes a cycle at least, so that no loop makes more turns than cycles are left. A
  -- dynamic block runs the first of its targets whose digest is on top of the stack, and leaves the stack as it is.
  abbrev mutual
    pub execution : Tree → Part
    execution (Opaque digest) = cycle StartOpaque
    execution (Span batches) = seq (batches_from StartSpan batches) (cycle (EndSpan (tree_digest constants (Span batches))))
    execution (Join first second) =
        seq (cycle (StartJoin (tree_digest constants first) (tree_digest constants second)))
        (seq (execution first) (seq (execution second) (cycle (End (tree_digest constants (Join first second))))))
    execution (Split on_one on_zero) = λ s.
        seq (cycle (StartSplit (tree_digest constants on_one) (tree_digest constants on_zero)))
        (seq (at_bit (top s.core) (execution on_zero) (execution on_one)) (cycle (End (tree_digest constants (Split on_one on_zero))))) s
    execution (Loop body) = λ s.
        seq (cycle (StartLoop (tree_digest constants body)))
        (at_bit (top s.core)
        (cycle (End (tree_digest constants (Loop body))))
        (turns (tree_digest constants (Loop body)) (tree_digest constants body) (limit - s.core.clock) (execution body))) s
    execution (Call callee) = λ s.
        seq (cycle (StartCall (tree_digest constants callee)))
        (seq (execution callee) (cycle (EndCall (tree_digest constants (Call callee)) (frame_of s.core)))) s
    execution (Syscall callee) = λ s.
        seq (cycle (StartSyscall (tree_digest constants callee)))
        (seq (execution callee) (cycle (EndSyscall (tree_digest constants (Syscall callee)) (frame_of s.core)))) s
    execution (Dyn targets) = λ s.
        seq (cycle (StartDyn (is_some (first_target constants (called_word s.core) targets))))
        (seq (run_first targets (called_word s.core)) (cycle (End (tree_digest constants (Dyn targets))))) s

    -- the first target of a digest; where there is none, the start has trapped
    pub run_first : Targets → List ℕ → Part
    run_first no_target digest = skip
    run_first (target first more) digest =
        if pointwise nat_eq (tree_digest constants first) digest then execution first else run_first more digest
