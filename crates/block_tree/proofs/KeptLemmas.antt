-- What each cycle leaves of a well-formed state is one.
use Rattle.std.proofs.Common.{◌≡◌, ℕ, ◌<◌, Bool, List, length, take, drop, Ok, refl, sym, ap, subst, arith, length-append}
use Rattle.std.proofs.lemmas.Bool.{le-ltb}
use Rattle.std.proofs.lemmas.List.{length-take-le}
use Rattle.vm_field.specs.Field.{prime}
use Rattle.vm_field.specs.Limits.{number_of_constants}
use Rattle.vm_field.specs.Machine.{Core, State, IsWord, IsWellFormedCore, IsWellFormed}
use Rattle.vm_field.proofs.Elements.{elements-append, elements-take, elements-drop, elements-filled_up, length-filled_up}
use Rattle.vm_ops.specs.declared.item.Item.{Item}
use Rattle.vm_ops.specs.Items.{IsOrdinaryItem}
use Rattle.vm_ops.specs.Step.{cycle_taking, step}
use Rattle.vm_ops.specs.Values.{advice_of}
use Rattle.vm_ops.proofs.RunLemmas.{immediate-below}
use Rattle.vm_ops.proofs.StepLemmas.{step-kept}
use Rattle.block_tree.specs.Behind.{opened, popped, returned, core_behind}
use Rattle.block_tree.specs.Cycles.{Frame, Mark, StartSplit, StartLoop, StartCall, StartSyscall, Repeat, Do, EndLoop, EndCall, EndSyscall, frame_of, advice_taken}
use Rattle.block_tree.specs.Marks.{IsWholeFrame, IsWholeMark}
use Rattle.block_tree.specs.Steps.{IsCycle}
use Rattle.block_tree.proofs.BehindLemmas.{behind-cycle}

-- neither nesting nor the clock matters
kept-counted : (c : Core) (nesting clock : ℕ) → IsWellFormedCore c → IsWellFormedCore (record c { nesting = nesting; clock = clock })
kept-counted c nesting clock h = record { deep = h.deep; cells = h.cells; fmp = h.fmp; digest = h.digest; words = h.words }

kept-popped : (c : Core) → IsWellFormedCore c → IsWellFormedCore (popped c)
kept-popped c h = record {
  deep = omega (arith, length-filled_up (drop 1 c.stack));
  cells = elements-filled_up (drop 1 c.stack) (elements-drop 1 c.stack h.cells);
  fmp = h.fmp;
  digest = h.digest;
  words = h.words;
}

-- where a call or a syscall enters
kept-entered : (context fmp : ℕ) (in_syscall : Bool) (digest : List ℕ) (c : Core) → fmp < prime → IsWord digest → IsWellFormedCore c
    → IsWellFormedCore (record c { context = context; fmp = fmp; in_syscall = in_syscall; digest = digest; stack = take 16 c.stack })
kept-entered context fmp in_syscall digest c f w h = record {
  deep = omega (arith, length-take-le 16 c.stack h.deep);
  cells = elements-take 16 c.stack h.cells;
  fmp = f;
  digest = w;
  words = h.words;
}

kept-returned : (frame : Frame) (c : Core) → IsWholeFrame frame → IsWellFormedCore c → IsWellFormedCore (returned frame c)
kept-returned frame c f h = record {
  deep = let d = h.deep in omega (arith, length-append c.stack frame.hidden);
  cells = elements-append c.stack frame.hidden h.cells f.hidden;
  fmp = f.fmp;
  digest = f.digest;
  words = h.words;
}

pub whole-frame : (c : Core) → IsWellFormedCore c → IsWholeFrame (frame_of c)
whole-frame c h = record { fmp = h.fmp; digest = h.digest; hidden = elements-drop 16 c.stack h.cells }

-- a cycle of an operation is its step
pub cycle-step : (constants : List ℕ) (kernel : List (List ℕ)) (limit : ℕ) (item : Item) (s t : State) → IsCycle constants kernel limit (Do item) s t
    → step constants item s ≡ Ok t
unfolding cycle_taking
cycle-step constants kernel limit item s t c = rw (le-ltb (length s.tape) (advice_of item.op) c.enough, c.made, c.now) refl

-- the state but for the clock and the tape, behind each cycle that is no operation
kept-core : (constants : List ℕ) (mark : Mark) (advice : List ℕ) (c : Core) → IsWholeMark mark → IsWellFormedCore c
    → ((item : Item) → mark ≡ Do item → IsWellFormedCore (core_behind constants mark advice c))
    → IsWellFormedCore (core_behind constants mark advice c)
kept-core constants (StartSplit on_one on_zero) advice c w h item = kept-popped (opened c) (kept-counted c _ _ h)
kept-core constants (StartLoop body) advice c w h item = kept-popped (opened c) (kept-counted c _ _ h)
kept-core constants (StartCall callee) advice c w h item = kept-entered _ _ _ callee (opened c) (omega arith) w (kept-counted c _ _ h)
kept-core constants (StartSyscall callee) advice c w h item = kept-entered _ _ _ _ (opened c) (omega arith) h.digest (kept-counted c _ _ h)
kept-core constants (Repeat body) advice c w h item = kept-popped c h
kept-core constants (Do i) advice c w h item = item i refl
kept-core constants (EndLoop digest) advice c w h item = kept-counted (popped c) _ _ (kept-popped c h)
kept-core constants (EndCall digest frame) advice c w h item = kept-returned frame c w.1 h
kept-core constants (EndSyscall digest frame) advice c w h item = kept-returned frame c w.1 h
kept-core constants _ advice c w h item = kept-counted c _ _ h

operation-kept : (constants : List ℕ) (kernel : List (List ℕ)) (limit : ℕ) (item : Item) (s t : State) → length constants ≡ number_of_constants
    → IsCycle constants kernel limit (Do item) s t → IsOrdinaryItem item → IsWellFormed s → IsWellFormed t
operation-kept constants kernel limit item s t len c w h =
    step-kept constants item s t len (immediate-below item w) h (cycle-step constants kernel limit item s t c)

-- a whole cycle leads from one well-formed state to another
pub cycle-kept : (constants : List ℕ) (kernel : List (List ℕ)) (limit : ℕ) (mark : Mark) (s t : State) → length constants ≡ number_of_constants
    → IsCycle constants kernel limit mark s t → IsWholeMark mark → IsWellFormed s → IsWellFormed t
cycle-kept constants kernel limit mark s t len c w h =
    let behind = (behind-cycle constants kernel mark _ s.core c.core c.made).1 in
    let core : IsWellFormedCore c.core
    = subst IsWellFormedCore (sym behind) (kept-core constants mark _ s.core w h.core (λ item is.
    subst IsWellFormedCore behind (kept-counted _ c.core.nesting c.core.clock (subst IsWellFormedCore (ap (λ x. x.core) c.now)
    (operation-kept constants kernel limit item s t len (subst (λ m. IsCycle constants kernel limit m s t) is c)
    (subst IsWholeMark is w) h).core)))) in
    subst IsWellFormed (sym c.now) (record { core = kept-counted c.core _ _ core; tape = elements-drop (advice_taken mark) s.tape h.tape })
