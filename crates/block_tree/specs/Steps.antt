-- A run one cycle after another: what is still to be done is a list of tasks, and the first of them says which cycle comes
-- (docs/MACHINE.md, "Cycles").
use Rattle.std.specs.Prelude.{◌≡◌, ℕ, true, ◌+◌, ◌<◌, ◌≤◌, List, [], ◌∷◌, ◌++◌, length, take, drop, Some, Ok}
use Rattle.vm_field.specs.Machine.{Core, State}
use Rattle.vm_ops.specs.declared.item.Item.{Item}
use Rattle.op_pack.specs.Reading.{reading}
use Rattle.block_tree.specs.Trees.{Tree, Targets, Span, Join, Split, Loop, Call, Syscall, Dyn, first_target, tree_digest}
use Rattle.block_tree.specs.Cycles.{Frame, Mark, StartSpan, StartJoin, StartSplit, StartLoop, StartCall, StartSyscall, StartDyn, Respan, Repeat, Do, End, EndSpan, EndLoop, EndCall, EndSyscall, frame_of, top, called_word, effect_of, advice_taken}
use Rattle.block_tree.specs.Execution.{Event, event_of}

pub data Task : Type 0 where
  Block : (tree : Tree) → Task  -- a block that is to start
  Within : (items : List Item) (later : List (List ℕ)) (digest : List ℕ) → Task  -- a span of that digest: the rest of its batch, and the later ones
  Turned : (body : Tree) → Task  -- a loop of that body, behind a turn
  Closing : (digest : List ℕ) → Task  -- the end of a join, a split, a dynamic block, or a loop that was not entered
  Returning : (digest : List ℕ) (frame : Frame) → Task  -- the end of a call
  Leaving : (digest : List ℕ) (frame : Frame) → Task  -- the end of a syscall

module _ (constants : List ℕ) where
  -- Of a task and the state but for the tape: the cycle that comes next, and what is then to be done in the task's place.
  pub data Next : Task → Core → Mark → List Task → Type 0 where
    span : {c : Core} {batch : List ℕ} {later : List (List ℕ)} {items : List Item} → reading batch ≡ Some items
        → Next (Block (Span (batch ∷ later))) c (StartSpan batch) (Within items later (tree_digest constants (Span (batch ∷ later))) ∷ [])
    join : {c : Core} {a b : Tree}
        → Next (Block (Join a b)) c (StartJoin (tree_digest constants a) (tree_digest constants b))
        (Block a ∷ Block b ∷ Closing (tree_digest constants (Join a b)) ∷ [])
    split_1 : {c : Core} {a b : Tree} → top c ≡ 1
        → Next (Block (Split a b)) c (StartSplit (tree_digest constants a) (tree_digest constants b))
        (Block a ∷ Closing (tree_digest constants (Split a b)) ∷ [])
    split_0 : {c : Core} {a b : Tree} → top c ≡ 0
        → Next (Block (Split a b)) c (StartSplit (tree_digest constants a) (tree_digest constants b))
        (Block b ∷ Closing (tree_digest constants (Split a b)) ∷ [])
    loop_1 : {c : Core} {a : Tree} → top c ≡ 1 → Next (Block (Loop a)) c (StartLoop (tree_digest constants a)) (Block a ∷ Turned a ∷ [])
    loop_0 : {c : Core} {a : Tree} → top c ≡ 0
        → Next (Block (Loop a)) c (StartLoop (tree_digest constants a)) (Closing (tree_digest constants (Loop a)) ∷ [])
    call : {c : Core} {a : Tree}
        → Next (Block (Call a)) c (StartCall (tree_digest constants a)) (Block a ∷ Returning (tree_digest constants (Call a)) (frame_of c) ∷ [])
    syscall : {c : Core} {a : Tree}
        → Next (Block (Syscall a)) c (StartSyscall (tree_digest constants a))
        (Block a ∷ Leaving (tree_digest constants (Syscall a)) (frame_of c) ∷ [])
    dyn : {c : Core} {targets : Targets} {a : Tree} → first_target constants (called_word c) targets ≡ Some a
        → Next (Block (Dyn targets)) c (StartDyn true) (Block a ∷ Closing (tree_digest constants (Dyn targets)) ∷ [])
    operation : {c : Core} {item : Item} {items : List Item} {later : List (List ℕ)} {digest : List ℕ}
        → Next (Within (item ∷ items) later digest) c (Do item) (Within items later digest ∷ [])
    respan : {c : Core} {batch : List ℕ} {later : List (List ℕ)} {digest : List ℕ} {items : List Item} → reading batch ≡ Some items
        → Next (Within [] (batch ∷ later) digest) c (Respan batch) (Within items later digest ∷ [])
    span_ends : {c : Core} {digest : List ℕ} → Next (Within [] [] digest) c (EndSpan digest) []
    repeats : {c : Core} {a : Tree} → top c ≡ 1 → Next (Turned a) c (Repeat (tree_digest constants a)) (Block a ∷ Turned a ∷ [])
    loop_ends : {c : Core} {a : Tree} → top c ≡ 0 → Next (Turned a) c (EndLoop (tree_digest constants (Loop a))) []
    closes : {c : Core} {digest : List ℕ} → Next (Closing digest) c (End digest) []
    returns : {c : Core} {digest : List ℕ} {frame : Frame} → Next (Returning digest frame) c (EndCall digest frame) []
    leaves : {c : Core} {digest : List ℕ} {frame : Frame} → Next (Leaving digest frame) c (EndSyscall digest frame) []

  -- under the kernel's list and the clock that is the limit
  module _ (kernel : List (List ℕ)) (limit : ℕ) where
    -- a cycle that is done, from one state to another
    pub record IsCycle (mark : Mark) (s t : State) : Type 0 where
      pub before : s.core.clock < limit
      pub enough : advice_taken mark ≤ length s.tape
      pub core : Core
      pub made : effect_of constants kernel mark (take (advice_taken mark) s.tape) s.core ≡ Ok core
      pub now : t ≡ record { core = record core { clock = core.clock + 1 }; tape = drop (advice_taken mark) s.tape }

    -- from one state to another all tasks are done, the first one first, with a cycle's event each
    pub data Steps : List Task → State → List Event → State → Type 0 where
      ended : {s : State} → Steps [] s [] s
      goes : {task : Task} {rest todo : List Task} {mark : Mark} {s t u : State} {events : List Event}
          → Next task s.core mark rest → IsCycle mark s t → Steps (rest ++ todo) t events u
          → Steps (task ∷ todo) s (event_of mark (advice_taken mark) s ∷ events) u
