-- A tree that is ready traps for values alone, where so many blocks may still be opened.
use Rattle.std.proofs.Common.{◌≡◌, ℕ, zero, suc, ◌+◌, ◌-◌, ◌<◌, ◌≤◌, Bool, true, false, cond, ltb, nat_eq, nat_lt, not, ◌&&◌, ◌==◌, List, [], ◌∷◌, length, is_some, Option, Some, None, Result, Ok, Err, refl, sym, subst, arith, lt-ltb}
use Rattle.std.specs.List.{AllByRecursion}
use lib.Pointwise.{pointwise}
use Rattle.vm_field.specs.Machine.{Core, State}
use Rattle.vm_ops.specs.declared.cause.Cause.{Cause}
use Rattle.vm_ops.specs.declared.cause.Cause.TheVariants.{BadBatch, NestedTooDeep, AdviceEmpty, NotU32, DivideByZero}
use Rattle.vm_ops.specs.declared.item.Item.{Item}
use Rattle.vm_ops.specs.declared.op.Op.{Op}
use Rattle.vm_ops.specs.declared.op.Op.TheVariants as ops
use Rattle.vm_ops.specs.Step.{act, seen, performed, unless_trapped, cycle_taking, ticked}
use Rattle.vm_ops.specs.Values.{Seen, cell, is_bit, is_u32, two_u32, trap_of, unless, or_else}
use Rattle.op_pack.specs.Reading.{reading}
use Rattle.block_tree.specs.Behind.{HasReading}
use Rattle.block_tree.specs.Cycles.{Cycle, Frame, Mark, StartOpaque, StartSpan, StartJoin, StartSplit, StartLoop, StartCall, StartSyscall, StartDyn, Respan, Repeat, Do, End, EndSpan, EndLoop, EndCall, EndSyscall, frame_of, pops_bit, opens, closes, and_then, reads, finds, enters_call, is_in_kernel, enters_syscall, returns_to, effect_of, advice_taken, called_word, top}
use Rattle.block_tree.specs.Execution.{Event, Outcome, Done, Trap, OutOfCycles, Part, logged, then_do, skip, seq, cycle_outcome, taking, at_bit, cycle, operations, read_operations, batches_from, turns, execution, run_first}
use Rattle.block_tree.specs.Trees.{Tree, Targets, Opaque, Span, Join, Split, Loop, Call, Syscall, Dyn, no_target, target, first_target, targets_height, tree_digest, tree_height}
use Rattle.block_tree.specs.KnownTrees.{AreReady, IsReady}
use Rattle.masm_runs.specs.Runs.{IsOfValues, TrapsForValues, ReadyRuns}

-- a cycle's effect leaves so many blocks open, or traps for values
abbrev Sound : ℕ → Result Core Cause → Type 0
Sound n (Ok c) = c.nesting ≡ n
Sound n (Err cause) = IsOfValues cause

sound-cond : (n : ℕ) (b : Bool) (x y : Result Core Cause) → Sound n x → Sound n y → Sound n (cond b x y)
sound-cond n true x y p q = p
sound-cond n false x y p q = q

sound-pops : (c : Core) → Sound c.nesting (pops_bit c)
unfolding pops_bit
sound-pops c = sound-cond c.nesting (is_bit (top c)) _ _ refl tt

sound-closes : (c : Core) → Sound (c.nesting - 1) (closes c)
unfolding closes
sound-closes c = refl

sound-reads : (batch : List ℕ) (c : Core) → HasReading batch → Sound c.nesting (reads batch c)
unfolding reads
sound-reads batch c has = subst (λ o. Sound c.nesting (cond (is_some o) (Ok c) (Err BadBatch))) (sym has.1) refl

sound-finds : (known : Bool) (c : Core) → Sound c.nesting (finds known c)
unfolding finds
sound-finds known c = sound-cond c.nesting known _ _ refl tt

sound-call : (callee : List ℕ) (c : Core) → Sound c.nesting (enters_call callee c)
unfolding enters_call
sound-call callee c = sound-cond c.nesting c.in_syscall _ _ tt refl

sound-syscall : (kernel : List (List ℕ)) (callee : List ℕ) (c : Core) → Sound c.nesting (enters_syscall kernel callee c)
unfolding enters_syscall
sound-syscall kernel callee c =
    sound-cond c.nesting c.in_syscall _ _ tt (sound-cond c.nesting (is_in_kernel kernel callee) _ _ refl tt)

sound-returns : (frame : Frame) (c : Core) → Sound (c.nesting - 1) (returns_to frame c)
unfolding returns_to
sound-returns frame c = sound-cond (c.nesting - 1) (ltb 16 (length c.stack)) _ _ tt refl

sound-opens : (effect : Cycle) (c : Core) → c.nesting < 1024 → ((d : Core) → Sound d.nesting (effect d)) → Sound (c.nesting + 1) (opens effect c)
unfolding opens
sound-opens effect c low h =
    subst (λ b. Sound (c.nesting + 1) (cond b (effect (record c { nesting = c.nesting + 1 })) (Err NestedTooDeep)))
    (sym (lt-ltb c.nesting 1024 low)) (h (record c { nesting = c.nesting + 1 }))

sound-and : (n : ℕ) (r : Result Core Cause) (effect : Cycle) → Sound n r → ((c : Core) → Sound (c.nesting - 1) (effect c))
    → Sound (n - 1) (and_then r effect)
sound-and n (Ok c) effect p h = subst (λ m. Sound (m - 1) (effect c)) p (h c)
sound-and n (Err cause) effect p h = p

-- operations trap for values
abbrev OfValues : Option Cause → Type 0
OfValues None = Unit {0}
OfValues (Some cause) = IsOfValues cause

values-unless : (b : Bool) (cause : Cause) → IsOfValues cause → OfValues (unless b cause)
values-unless true cause h = tt
values-unless false cause h = h

values-or : (a b : Option Cause) → OfValues a → OfValues b → OfValues (or_else a b)
values-or None b h k = k
values-or (Some cause) b h k = h

values-trap : (op : Op) (s : Seen) → OfValues (trap_of op s)
unfolding trap_of
values-trap ops.Inv s = values-unless _ _ tt
values-trap ops.Not s = values-unless _ _ tt
values-trap ops.MLoad s = values-unless _ _ tt
values-trap ops.Caller s = values-unless _ _ tt
values-trap ops.U32Add s = values-unless _ _ tt
values-trap ops.U32Sub s = values-unless _ _ tt
values-trap ops.U32Mul s = values-unless _ _ tt
values-trap ops.U32Div s =
    values-or (two_u32 s) (unless (not (cell s 0 == 0)) DivideByZero) (values-unless (is_u32 (cell s 0) && is_u32 (cell s 1)) NotU32 tt)
    (values-unless (not (cell s 0 == 0)) DivideByZero tt)
values-trap ops.U32Assert2 s = values-unless _ _ tt
values-trap ops.Assert s = values-unless _ _ tt
values-trap ops.And s = values-unless _ _ tt
values-trap ops.Or s = values-unless _ _ tt
values-trap ops.U32And s = values-unless _ _ tt
values-trap ops.U32Xor s = values-unless _ _ tt
values-trap ops.CSwap s = values-unless _ _ tt
values-trap ops.CSwapW s = values-unless _ _ tt
values-trap ops.MLoadW s = values-unless _ _ tt
values-trap ops.MStore s = values-unless _ _ tt
values-trap ops.MStoreW s = values-unless _ _ tt
values-trap ops.U32Add3 s = values-unless _ _ tt
values-trap ops.U32MAdd s = values-unless _ _ tt
values-trap op s = tt

sound-unless : (n : ℕ) (o : Option Cause) (c : Core) → OfValues o → c.nesting ≡ n → Sound n (unless_trapped o c)
sound-unless n None c h e = e
sound-unless n (Some cause) c h e = h

sound-act : (constants : List ℕ) (item : Item) (advice : List ℕ) (c : Core) → Sound c.nesting (act constants item advice c)
unfolding act
sound-act constants item advice c =
    sound-unless c.nesting (trap_of item.op (seen constants item advice c)) (performed item.op (seen constants item advice c) c)
    (values-trap item.op (seen constants item advice c)) refl

-- a block may start, and a batch has a reading
abbrev MayBe : Mark → ℕ → Type 0
MayBe StartOpaque n = ⊥
MayBe (StartSpan batch) n = (n < 1024) × HasReading batch
MayBe (StartJoin first second) n = n < 1024
MayBe (StartSplit on_one on_zero) n = n < 1024
MayBe (StartLoop body) n = n < 1024
MayBe (StartCall callee) n = n < 1024
MayBe (StartSyscall callee) n = n < 1024
MayBe (StartDyn known) n = n < 1024
MayBe (Respan batch) n = HasReading batch
MayBe mark n = Unit {0}

-- how many blocks are open behind a cycle
abbrev open_behind : Mark → ℕ → ℕ
open_behind StartOpaque n = n + 1
open_behind (StartSpan batch) n = n + 1
open_behind (StartJoin first second) n = n + 1
open_behind (StartSplit on_one on_zero) n = n + 1
open_behind (StartLoop body) n = n + 1
open_behind (StartCall callee) n = n + 1
open_behind (StartSyscall callee) n = n + 1
open_behind (StartDyn known) n = n + 1
open_behind (Respan batch) n = n
open_behind (Repeat body) n = n
open_behind (Do item) n = n
open_behind (End digest) n = n - 1
open_behind (EndSpan digest) n = n - 1
open_behind (EndLoop digest) n = n - 1
open_behind (EndCall digest frame) n = n - 1
open_behind (EndSyscall digest frame) n = n - 1

-- a part leaves so many blocks open, or traps for values, or is cut off
abbrev SoundOut : ℕ → Outcome → Type 0
SoundOut n (Done t events) = t.core.nesting ≡ n
SoundOut n (Trap clock cause) = IsOfValues cause
SoundOut n (OutOfCycles t events) = Unit {0}

sound-out : (left few : Bool) (mark : Mark) (n m : ℕ) (s : State) (r : Result Core Cause) → Sound m r
    → SoundOut m (cond left (cycle_outcome mark n s (cond few (Err AdviceEmpty) (ticked n s.tape r))) (OutOfCycles s []))
sound-out false few mark n m s r h = tt
sound-out true true mark n m s r h = tt
sound-out true false mark n m s (Ok c) h = h
sound-out true false mark n m s (Err cause) h = h

sound-logged : (n : ℕ) (events : List Event) (o : Outcome) → SoundOut n o → SoundOut n (logged events o)
sound-logged n events (Done t more) h = h
sound-logged n events (Trap clock cause) h = h
sound-logged n events (OutOfCycles t more) h = h

sound-then : (m n : ℕ) (o : Outcome) (g : Part) → SoundOut m o → ((t : State) → t.core.nesting ≡ m → SoundOut n (g t)) → SoundOut n (then_do o g)
sound-then m n (Done t events) g h k = sound-logged n events (g t) (k t h)
sound-then m n (Trap clock cause) g h k = h
sound-then m n (OutOfCycles t events) g h k = tt

sound-seq : (m n : ℕ) (f g : Part) (s : State) → SoundOut m (f s) → ((t : State) → t.core.nesting ≡ m → SoundOut n (g t)) → SoundOut n (seq f g s)
unfolding seq
sound-seq m n f g s h k = sound-then m n (f s) g h k

sound-skip : (n : ℕ) (s : State) → s.core.nesting ≡ n → SoundOut n (skip s)
unfolding skip
sound-skip n s e = e

sound-bit : (n k : ℕ) (x y : Part) (t : State) → SoundOut n (x t) → SoundOut n (y t) → SoundOut n (at_bit k x y t)
sound-bit n zero x y t h k = h
sound-bit n (suc b) x y t h k = k

sound-choice : (n : ℕ) (b : Bool) (x y : Part) (t : State) → SoundOut n (x t) → SoundOut n (y t) → SoundOut n (cond b x y t)
sound-choice n true x y t h k = h
sound-choice n false x y t h k = k

back : (n : ℕ) → n + 1 - 1 ≡ n
back n = omega arith

module _ (constants : List ℕ) (kernel : List (List ℕ)) where
  sound-effect : (mark : Mark) (advice : List ℕ) (c : Core) → MayBe mark c.nesting
      → Sound (open_behind mark c.nesting) (effect_of constants kernel mark advice c)
  sound-effect StartOpaque advice c h = absurd h
  sound-effect (StartSpan batch) advice c h = sound-opens (reads batch) c h.0 (λ d. sound-reads batch d h.1)
  sound-effect (StartJoin first second) advice c h = sound-opens (λ d. Ok d) c h (λ d. refl)
  sound-effect (StartSplit on_one on_zero) advice c h = sound-opens pops_bit c h sound-pops
  sound-effect (StartLoop body) advice c h = sound-opens pops_bit c h sound-pops
  sound-effect (StartCall callee) advice c h = sound-opens (enters_call callee) c h (sound-call callee)
  sound-effect (StartSyscall callee) advice c h = sound-opens (enters_syscall kernel callee) c h (sound-syscall kernel callee)
  sound-effect (StartDyn known) advice c h = sound-opens (finds known) c h (sound-finds known)
  sound-effect (Respan batch) advice c h = sound-reads batch c h
  sound-effect (Repeat body) advice c h = sound-pops c
  sound-effect (Do item) advice c h = sound-act constants item advice c
  sound-effect (End digest) advice c h = sound-closes c
  sound-effect (EndSpan digest) advice c h = sound-closes c
  sound-effect (EndLoop digest) advice c h = sound-and c.nesting (pops_bit c) closes (sound-pops c) sound-closes
  sound-effect (EndCall digest frame) advice c h = sound-returns frame c
  sound-effect (EndSyscall digest frame) advice c h = sound-returns frame c

  module _ (limit : ℕ) where
    sound-cycle : (mark : Mark) (s : State) → MayBe mark s.core.nesting
        → SoundOut (open_behind mark s.core.nesting) (cycle constants kernel limit mark s)
    unfolding taking cycle_taking
    sound-cycle mark s h =
        sound-out (nat_lt s.core.clock limit) (nat_lt (length s.tape) (advice_taken mark)) mark (advice_taken mark)
        (open_behind mark s.core.nesting) s _
        (sound-effect mark _ s.core h)

    sound-at : (mark : Mark) (n : ℕ) (s : State) → s.core.nesting ≡ n → MayBe mark n
        → SoundOut (open_behind mark n) (cycle constants kernel limit mark s)
    sound-at mark n s e h =
        subst (λ m. SoundOut (open_behind mark m) (cycle constants kernel limit mark s)) e (sound-cycle mark s (subst (MayBe mark) (sym e) h))

    sound-end : (mark : Mark) (n : ℕ) (s : State) → s.core.nesting ≡ n + 1 → open_behind mark (n + 1) ≡ n → MayBe mark (n + 1)
        → SoundOut n (cycle constants kernel limit mark s)
    sound-end mark n s e same h = subst (λ m. SoundOut m (cycle constants kernel limit mark s)) same (sound-at mark (n + 1) s e h)

    sound-operations : (items : List Item) (n : ℕ) (s : State) → s.core.nesting ≡ n → SoundOut n (operations constants kernel limit items s)
    sound-operations [] n s e = sound-skip n s e
    sound-operations (item ∷ items) n s e =
        sound-seq n n (cycle constants kernel limit (Do item)) (operations constants kernel limit items) s
        (sound-at (Do item) n s e tt) (sound-operations items n)

    sound-read : (o : Option (List Item)) (n : ℕ) (s : State) → s.core.nesting ≡ n → SoundOut n (read_operations constants kernel limit o s)
    sound-read None n s e = sound-skip n s e
    sound-read (Some items) n s e = sound-operations items n s e

    sound-batches : (batches : List (List ℕ)) (n : ℕ) (s : State) → s.core.nesting ≡ n → AllByRecursion HasReading batches
        → SoundOut n (batches_from constants kernel limit Respan batches s)
    sound-batches [] n s e h = sound-skip n s e
    sound-batches (batch ∷ later) n s e h =
        sound-seq n n (cycle constants kernel limit (Respan batch)) _ s (sound-at (Respan batch) n s e h.0)
        (λ t e'. sound-seq n n (read_operations constants kernel limit (reading batch)) (batches_from constants kernel limit Respan later) t
        (sound-read (reading batch) n t e') (λ u e''. sound-batches later n u e'' h.1))

    sound-turns : (digest body_digest : List ℕ) (k n : ℕ) (body : Part) (s : State) → s.core.nesting ≡ n + 1
        → ((t : State) → t.core.nesting ≡ n + 1 → SoundOut (n + 1) (body t)) → SoundOut n (turns constants kernel limit digest body_digest k body s)
    sound-turns digest body_digest zero n body s e h = tt
    sound-turns digest body_digest (suc k) n body s e h =
        sound-seq (n + 1) n body _ s (h s e)
        (λ t e'. sound-bit n (top t.core) (cycle constants kernel limit (EndLoop digest))
        (seq (cycle constants kernel limit (Repeat body_digest)) (turns constants kernel limit digest body_digest k body)) t
        (sound-end (EndLoop digest) n t e' (back n) tt)
        (sound-seq (n + 1) n (cycle constants kernel limit (Repeat body_digest)) (turns constants kernel limit digest body_digest k body) t
        (sound-at (Repeat body_digest) (n + 1) t e' tt)
        (λ u e''. sound-turns digest body_digest k n body u e'' h)))

    mutual
      sound-run : (tree : Tree) (n : ℕ) (s : State) → s.core.nesting ≡ n → IsReady tree → n + tree_height tree ≤ 1024
          → SoundOut n (execution constants kernel limit tree s)
      sound-run (Opaque digest) n s e h low = absurd h
      sound-run (Span []) n s e h low = absurd (h.0 refl)
      sound-run (Span (batch ∷ later)) n s e h low =
          sound-seq (n + 1) n _ (cycle constants kernel limit (EndSpan (tree_digest constants (Span (batch ∷ later))))) s
          (sound-seq (n + 1) (n + 1) (cycle constants kernel limit (StartSpan batch)) _ s
          (sound-at (StartSpan batch) n s e ((let l = low in omega arith), h.1.0))
          (λ t e'. sound-seq (n + 1) (n + 1) (read_operations constants kernel limit (reading batch))
          (batches_from constants kernel limit Respan later) t
          (sound-read (reading batch) (n + 1) t e') (λ u e''. sound-batches later (n + 1) u e'' h.1.1)))
          (λ t e'. sound-end (EndSpan (tree_digest constants (Span (batch ∷ later)))) n t e' (back n) tt)
      sound-run (Join first second) n s e h low =
          sound-seq (n + 1) n (cycle constants kernel limit (StartJoin (tree_digest constants first) (tree_digest constants second))) _ s
          (sound-at (StartJoin (tree_digest constants first) (tree_digest constants second)) n s e (let l = low in omega arith))
          (λ t e'. sound-seq (n + 1) n (execution constants kernel limit first) _ t
          (sound-run first (n + 1) t e' h.0 (let l = low in omega arith))
          (λ u e''. sound-seq (n + 1) n (execution constants kernel limit second) _ u
          (sound-run second (n + 1) u e'' h.1 (let l = low in omega arith))
          (λ v e'''. sound-end (End (tree_digest constants (Join first second))) n v e''' (back n) tt)))
      sound-run (Split on_one on_zero) n s e h low =
          sound-seq (n + 1) n (cycle constants kernel limit (StartSplit (tree_digest constants on_one) (tree_digest constants on_zero))) _ s
          (sound-at (StartSplit (tree_digest constants on_one) (tree_digest constants on_zero)) n s e (let l = low in omega arith))
          (λ t e'. sound-seq (n + 1) n (at_bit (top s.core) (execution constants kernel limit on_zero) (execution constants kernel limit on_one)) _ t
          (sound-bit (n + 1) (top s.core) (execution constants kernel limit on_zero) (execution constants kernel limit on_one) t
          (sound-run on_zero (n + 1) t e' h.1 (let l = low in omega arith))
          (sound-run on_one (n + 1) t e' h.0 (let l = low in omega arith)))
          (λ u e''. sound-end (End (tree_digest constants (Split on_one on_zero))) n u e'' (back n) tt))
      sound-run (Loop body) n s e h low =
          sound-seq (n + 1) n (cycle constants kernel limit (StartLoop (tree_digest constants body))) _ s
          (sound-at (StartLoop (tree_digest constants body)) n s e (let l = low in omega arith))
          (λ t e'. sound-bit n (top s.core) (cycle constants kernel limit (End (tree_digest constants (Loop body))))
          (turns constants kernel limit (tree_digest constants (Loop body)) (tree_digest constants body) (limit - s.core.clock)
          (execution constants kernel limit body)) t
          (sound-end (End (tree_digest constants (Loop body))) n t e' (back n) tt)
          (sound-turns (tree_digest constants (Loop body)) (tree_digest constants body) (limit - s.core.clock) n
          (execution constants kernel limit body) t e'
          (λ u e''. sound-run body (n + 1) u e'' h (let l = low in omega arith))))
      sound-run (Call callee) n s e h low =
          sound-seq (n + 1) n (cycle constants kernel limit (StartCall (tree_digest constants callee))) _ s
          (sound-at (StartCall (tree_digest constants callee)) n s e (let l = low in omega arith))
          (λ t e'. sound-seq (n + 1) n (execution constants kernel limit callee) _ t
          (sound-run callee (n + 1) t e' h (let l = low in omega arith))
          (λ u e''. sound-end (EndCall (tree_digest constants (Call callee)) (frame_of s.core)) n u e'' (back n) tt))
      sound-run (Syscall callee) n s e h low =
          sound-seq (n + 1) n (cycle constants kernel limit (StartSyscall (tree_digest constants callee))) _ s
          (sound-at (StartSyscall (tree_digest constants callee)) n s e (let l = low in omega arith))
          (λ t e'. sound-seq (n + 1) n (execution constants kernel limit callee) _ t
          (sound-run callee (n + 1) t e' h (let l = low in omega arith))
          (λ u e''. sound-end (EndSyscall (tree_digest constants (Syscall callee)) (frame_of s.core)) n u e'' (back n) tt))
      sound-run (Dyn targets) n s e h low =
          sound-seq (n + 1) n (cycle constants kernel limit (StartDyn (is_some (first_target constants (called_word s.core) targets)))) _ s
          (sound-at (StartDyn (is_some (first_target constants (called_word s.core) targets))) n s e (let l = low in omega arith))
          (λ t e'. sound-seq (n + 1) n (run_first constants kernel limit targets (called_word s.core)) _ t
          (sound-first targets (called_word s.core) (n + 1) t e' h (let l = low in omega arith))
          (λ u e''. sound-end (End (tree_digest constants (Dyn targets))) n u e'' (back n) tt))

      sound-first : (targets : Targets) (digest : List ℕ) (n : ℕ) (s : State) → s.core.nesting ≡ n → AreReady targets
          → n + targets_height targets ≤ 1024 → SoundOut n (run_first constants kernel limit targets digest s)
      sound-first no_target digest n s e h low = sound-skip n s e
      sound-first (target first more) digest n s e h low =
          sound-choice n (pointwise nat_eq (tree_digest constants first) digest) _ _ s
          (sound-run first n s e h.0 (let l = low in omega arith)) (sound-first more digest n s e h.1 (let l = low in omega arith))

traps : (n : ℕ) (o : Outcome) → SoundOut n o → TrapsForValues o
traps n (Done t events) h = tt
traps n (Trap clock cause) h = h
traps n (OutOfCycles t events) h = tt

pub ready-runs : ReadyRuns
ready-runs constants kernel limit tree s ready low none =
    traps 0 (execution constants kernel limit tree s) (sound-run constants kernel limit tree 0 s none ready (let l = low in omega arith))
