-- A cycle is done exactly where it is allowed, and leaves one state behind it.
use Rattle.std.proofs.Common.{◌≡◌, ℕ, ◌<◌, ◌≤◌, Bool, true, false, cond, ltb, List, length, Option, Some, None, Result, Ok, Err, refl, sym, ap, ◌∙◌, is_some}
use Rattle.std.proofs.lemmas.Bool.{ltb-true, ltb-false, lt-ltb, le-ltb, false≢true}
use Rattle.vm_field.specs.Machine.{Core, State}
use Rattle.vm_ops.specs.declared.cause.Cause.{Cause}
use Rattle.vm_ops.specs.declared.cause.Cause.TheVariants.{NestedTooDeep, NotBinary, UnknownTarget, BadBatch, CallInSyscall, NotInKernel, DepthAtReturn}
use Rattle.vm_ops.specs.declared.item.Item.{Item}
use Rattle.vm_ops.specs.Values.{trap_of}
use Rattle.vm_ops.specs.Step.{act, seen, performed, unless_trapped}
use Rattle.op_pack.specs.Reading.{reading}
use Rattle.block_tree.specs.Cycles.{Cycle, Frame, Mark, StartOpaque, StartSpan, StartJoin, StartSplit, StartLoop, StartCall, StartSyscall, StartDyn, Respan, Repeat, Do, End, EndSpan, EndLoop, EndCall, EndSyscall, pops_bit, opens, closes, and_then, reads, finds, enters_call, is_in_kernel, enters_syscall, returns_to, effect_of, advice_taken, top}
use Rattle.block_tree.specs.Behind.{opened, closed, popped, called, syscalled, returned, core_behind, HasReading, IsAllowed}
use Rattle.block_tree.specs.Execution.{Event, Done, cycle}
use Rattle.block_tree.proofs.Parts.{taking-inv}

-- a result is there exactly where this holds, and is this state
record Behaves (r : Result Core Cause) (P : Type 0) (d : Core) : Type 0 where
  inv : (m : Core) → r ≡ Ok m → P × (m ≡ d)
  done : P → r ≡ Ok d

behaves-ok : (c : Core) → Behaves (Ok c) (Unit {0}) c
behaves-ok c = record { inv = λ m e. (tt, cc); done = λ h. refl }

-- where a test is passed, and where it is not passed
behaves-if : (b : Bool) {r : Result Core Cause} (cause : Cause) {d : Core} {P Q : Type 0} → (b ≡ true → P → Q) → (Q → (b ≡ true) × P) → Behaves r P d
    → Behaves (cond b r (Err cause)) Q d
behaves-if true cause f g k =
    record { inv = λ m e. let h = k.inv m e in (f refl h.0, h.1); done = λ q. k.done (g q).1 }
behaves-if false cause f g k = record { inv = λ m e. cc; done = λ q. absurd (false≢true (g q).0) }

behaves-unless : (b : Bool) {r : Result Core Cause} (cause : Cause) {d : Core} {P Q : Type 0} → (b ≡ false → P → Q) → (Q → (b ≡ false) × P)
    → Behaves r P d → Behaves (cond b (Err cause) r) Q d
behaves-unless false cause f g k =
    record { inv = λ m e. let h = k.inv m e in (f refl h.0, h.1); done = λ q. k.done (g q).1 }
behaves-unless true cause f g k = record { inv = λ m e. cc; done = λ q. absurd (false≢true (sym (g q).0)) }

behaves-opens : (effect : Cycle) (c : Core) {d : Core} {P Q : Type 0} → (c.nesting < 1024 → P → Q) → (Q → (c.nesting < 1024) × P)
    → Behaves (effect (opened c)) P d → Behaves (opens effect c) Q d
unfolding opens
behaves-opens effect c f g k =
    behaves-if (ltb c.nesting 1024) NestedTooDeep (λ e p. f (ltb-true c.nesting 1024 e) p) (λ q. (lt-ltb c.nesting 1024 (g q).0, (g q).1)) k

behaves-opened : (effect : Cycle) (c : Core) {d : Core} {P : Type 0} → Behaves (effect (opened c)) P d → Behaves (opens effect c) ((c.nesting < 1024) × P) d
behaves-opened effect c k = behaves-opens effect c (λ l p. (l, p)) (λ q. q) k

behaves-pops : (c : Core) → Behaves (pops_bit c) (top c < 2) (popped c)
unfolding pops_bit
behaves-pops c =
    behaves-if (ltb (top c) 2) NotBinary (λ e p. ltb-true (top c) 2 e) (λ q. (lt-ltb (top c) 2 q, tt)) (behaves-ok (popped c))

some-reading : (batch : List ℕ) (o : Option (List Item)) → reading batch ≡ o → is_some o ≡ true → HasReading batch
some-reading batch None e h = cc
some-reading batch (Some items) e h = (items, e)

behaves-reads : (batch : List ℕ) (c : Core) → Behaves (reads batch c) (HasReading batch) c
unfolding reads
behaves-reads batch c =
    behaves-if (is_some (reading batch)) BadBatch (λ e p. some-reading batch _ refl e) (λ q. (ap is_some q.1, tt)) (behaves-ok c)

behaves-finds : (known : Bool) (c : Core) → Behaves (finds known c) (known ≡ true) c
unfolding finds
behaves-finds known c = behaves-if known UnknownTarget (λ e p. e) (λ q. (q, tt)) (behaves-ok c)

behaves-closes : (c : Core) → Behaves (closes c) (Unit {0}) (closed c)
unfolding closes
behaves-closes c = behaves-ok (closed c)

behaves-call : (callee : List ℕ) (c : Core) → Behaves (enters_call callee c) (c.in_syscall ≡ false) (called callee c)
unfolding enters_call
behaves-call callee c = behaves-unless c.in_syscall CallInSyscall (λ e p. e) (λ q. (q, tt)) (behaves-ok (called callee c))

behaves-syscall : (kernel : List (List ℕ)) (callee : List ℕ) (c : Core)
    → Behaves (enters_syscall kernel callee c) ((c.in_syscall ≡ false) × (is_in_kernel kernel callee ≡ true)) (syscalled c)
unfolding enters_syscall
behaves-syscall kernel callee c =
    behaves-unless c.in_syscall CallInSyscall (λ e p. (e, p)) (λ q. q)
    (behaves-if (is_in_kernel kernel callee) NotInKernel (λ e p. e) (λ q. (q, tt)) (behaves-ok (syscalled c)))

behaves-returns : (frame : Frame) (c : Core) → Behaves (returns_to frame c) (length c.stack ≤ 16) (returned frame c)
unfolding returns_to
behaves-returns frame c =
    behaves-unless (ltb 16 (length c.stack)) DepthAtReturn (λ e p. ltb-false 16 (length c.stack) e)
    (λ q. (le-ltb 16 (length c.stack) q, tt)) (behaves-ok (returned frame c))

behaves-act : (constants : List ℕ) (item : Item) (advice : List ℕ) (c : Core)
    → Behaves (act constants item advice c) (trap_of item.op (seen constants item advice c) ≡ None) (performed item.op (seen constants item advice c) c)
unfolding act
behaves-act constants item advice c = go (trap_of item.op (seen constants item advice c)) (performed item.op (seen constants item advice c) c)
  where
    go : (o : Option Cause) (d : Core) → Behaves (unless_trapped o d) (o ≡ None) d
    go None d = record { inv = λ m e. (refl, cc); done = λ h. refl }
    go (Some cause) d = record { inv = λ m e. cc; done = λ h. cc }

-- a cycle, and what the same cycle then does
behaves-and : (r : Result Core Cause) (effect : Cycle) (c d : Core) {P : Type 0} → Behaves r P c → Behaves (effect c) (Unit {0}) d
    → Behaves (and_then r effect) P d
behaves-and (Ok m) effect c d k l = record {
  inv = λ n e. let h = k.inv m refl in (h.0, (l.inv n (ap effect (sym h.1) ∙ e)).1);
  done = λ h. ap effect (k.inv m refl).1 ∙ l.done tt;
}
behaves-and (Err cause) effect c d k l = record { inv = λ n e. cc; done = λ h. let e = k.done h in cc }

abbrev pub fine : Core → Result Core Cause
fine c = Ok c

module _ (constants : List ℕ) (kernel : List (List ℕ)) where
  behaves : (mark : Mark) (advice : List ℕ) (c : Core)
      → Behaves (effect_of constants kernel mark advice c) (IsAllowed constants kernel mark advice c) (core_behind constants mark advice c)
  behaves StartOpaque advice c = behaves-opens _ c (λ l p. p) (λ q. absurd q) (record { inv = λ m e. cc; done = λ h. absurd h })
  behaves (StartSpan batch) advice c = behaves-opened _ c (behaves-reads batch (opened c))
  behaves (StartJoin first second) advice c = behaves-opens _ c (λ l p. l) (λ q. (q, tt)) (behaves-ok (opened c))
  behaves (StartSplit on_one on_zero) advice c = behaves-opened _ c (behaves-pops (opened c))
  behaves (StartLoop body) advice c = behaves-opened _ c (behaves-pops (opened c))
  behaves (StartCall callee) advice c = behaves-opened _ c (behaves-call callee (opened c))
  behaves (StartSyscall callee) advice c =
      behaves-opens _ c (λ l p. (l, p.0, p.1)) (λ q. (q.0, (q.1, q.2))) (behaves-syscall kernel callee (opened c))
  behaves (StartDyn known) advice c = behaves-opened _ c (behaves-finds known (opened c))
  behaves (Respan batch) advice c = behaves-reads batch c
  behaves (Repeat body) advice c = behaves-pops c
  behaves (Do item) advice c = behaves-act constants item advice c
  behaves (End digest) advice c = behaves-closes c
  behaves (EndSpan digest) advice c = behaves-closes c
  behaves (EndLoop digest) advice c = behaves-and (pops_bit c) closes (popped c) _ (behaves-pops c) (behaves-closes (popped c))
  behaves (EndCall digest frame) advice c = behaves-returns frame c
  behaves (EndSyscall digest frame) advice c = behaves-returns frame c

  -- of a cycle that is done: it was allowed, and the state behind it
  pub behind-cycle : (mark : Mark) (advice : List ℕ) (c d : Core) → effect_of constants kernel mark advice c ≡ Ok d
      → IsAllowed constants kernel mark advice c × (d ≡ core_behind constants mark advice c)
  behind-cycle mark advice c d e = (behaves mark advice c).inv d e

  -- and a cycle that is allowed is done
  pub allowed-cycle : (mark : Mark) (advice : List ℕ) (c : Core) → IsAllowed constants kernel mark advice c
      → effect_of constants kernel mark advice c ≡ Ok (core_behind constants mark advice c)
  allowed-cycle mark advice c h = (behaves mark advice c).done h

  pub cycle-allowed : (limit : ℕ) (mark : Mark) (s t : State) (es : List Event) → cycle constants kernel limit mark s ≡ Done t es
      → (advice : List ℕ) × IsAllowed constants kernel mark advice s.core
  cycle-allowed limit mark s t es e =
      let c = taking-inv limit mark (advice_taken mark) (effect_of constants kernel mark) s t es e in
      (_, (behind-cycle mark _ s.core c.core c.made).0)
