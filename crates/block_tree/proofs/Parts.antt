-- What is known of a cycle and of one part after another: the rest never opens `taking` or `seq`.
use Rattle.std.proofs.Common.{◌≡◌, ℕ, ◌+◌, ◌<◌, ◌≤◌, Bool, true, false, cond, ltb, List, [], ◌∷◌, ◌++◌, length, take, drop, Result, Ok, Err, refl}
use Rattle.std.proofs.lemmas.Bool.{ltb-true, ltb-false, lt-ltb, le-ltb}
use Rattle.vm_field.specs.Machine.{Core, State}
use Rattle.vm_ops.specs.declared.cause.Cause.{Cause}
use Rattle.vm_ops.specs.declared.cause.Cause.TheVariants.{AdviceEmpty}
use Rattle.vm_ops.specs.Step.{cycle_taking, ticked}
use Rattle.block_tree.specs.Cycles.{Cycle, Mark}
use Rattle.block_tree.specs.Execution.{Event, Outcome, Done, Trap, OutOfCycles, Part, logged, then_do, skip, seq, event_of, cycle_outcome, taking}

pub done-state : (s t : State) (es fs : List Event) → Done s es ≡ Done t fs → s ≡ t
done-state s t es fs e = cc

pub done-events : (s t : State) (es fs : List Event) → Done s es ≡ Done t fs → es ≡ fs
done-events s t es fs e = cc

pub done-not_late : (s t : State) (es fs : List Event) → OutOfCycles s es ≡ Done t fs → ⊥
done-not_late s t es fs e = cc

-- one part and then the other, from one state to another
pub record Between (f g : Part) (s t : State) (es : List Event) : Type 0 where
  pub mid : State
  pub first : List Event
  pub second : List Event
  pub ran : f s ≡ Done mid first
  pub went_on : g mid ≡ Done t second
  pub all : es ≡ first ++ second

pub seq-inv : (f g : Part) (s t : State) (es : List Event) → seq f g s ≡ Done t es → Between f g s t es
unfolding seq
seq-inv f g s t es e = go (f s) refl e
  where
    behind : (mid : State) (first : List Event) (o : Outcome) → f s ≡ Done mid first → g mid ≡ o → logged first o ≡ Done t es → Between f g s t es
    behind mid first (Done u more) ran went e = record { mid = mid; first = first; second = more; ran = ran; went_on = cc; all = cc }
    behind mid first _ ran went e = cc

    go : (o : Outcome) → f s ≡ o → then_do o g ≡ Done t es → Between f g s t es
    go (Done mid first) ran e = behind mid first (g mid) ran refl e
    go _ ran e = cc

pub seq-done : (f g : Part) (s mid t : State) (first second : List Event) → f s ≡ Done mid first → g mid ≡ Done t second
    → seq f g s ≡ Done t (first ++ second)
unfolding seq
seq-done f g s mid t first second ran went_on = rw (ran, went_on) refl

pub seq-late : (f g : Part) (s t : State) (es : List Event) → f s ≡ OutOfCycles t es → seq f g s ≡ OutOfCycles t es
unfolding seq
seq-late f g s t es late = rw late refl

pub seq-late_second : (f g : Part) (s mid t : State) (first second : List Event) → f s ≡ Done mid first → g mid ≡ OutOfCycles t second
    → seq f g s ≡ OutOfCycles t (first ++ second)
unfolding seq
seq-late_second f g s mid t first second ran late = rw (ran, late) refl

pub seq-trap : (f g : Part) (s : State) (clock : ℕ) (cause : Cause) → f s ≡ Trap clock cause → seq f g s ≡ Trap clock cause
unfolding seq
seq-trap f g s clock cause trap = rw trap refl

pub seq-trap_second : (f g : Part) (s mid : State) (first : List Event) (clock : ℕ) (cause : Cause)
    → f s ≡ Done mid first → g mid ≡ Trap clock cause → seq f g s ≡ Trap clock cause
unfolding seq
seq-trap_second f g s mid first clock cause ran trap = rw (ran, trap) refl

pub skip-done : (s : State) → skip s ≡ Done s []
unfolding skip
skip-done s = refl

pub skip-inv : (s t : State) (es : List Event) → skip s ≡ Done t es → (s ≡ t) × (es ≡ [])
unfolding skip
skip-inv s t es e = (cc, cc)

-- a cycle that is done
pub record Cycled (limit : ℕ) (mark : Mark) (n : ℕ) (effect : List ℕ → Cycle) (s t : State) (es : List Event) : Type 0 where
  pub before : s.core.clock < limit
  pub enough : n ≤ length s.tape
  pub core : Core
  pub made : effect (take n s.tape) s.core ≡ Ok core
  pub now : t ≡ record { core = record core { clock = core.clock + 1 }; tape = drop n s.tape }
  pub event : es ≡ event_of mark n s ∷ []

pub taking-inv : (limit : ℕ) (mark : Mark) (n : ℕ) (effect : List ℕ → Cycle) (s t : State) (es : List Event)
    → taking limit mark n effect s ≡ Done t es → Cycled limit mark n effect s t es
unfolding taking cycle_taking
taking-inv limit mark n effect s t es e =
    go (ltb s.core.clock limit) (ltb (length s.tape) n) (effect (take n s.tape) s.core) refl refl refl e
  where
    go : (early short : Bool) (r : Result Core Cause) → ltb s.core.clock limit ≡ early → ltb (length s.tape) n ≡ short → effect (take n s.tape) s.core ≡ r
        → cond early (cycle_outcome mark n s (cond short (Err AdviceEmpty) (ticked n s.tape r))) (OutOfCycles s []) ≡ Done t es
        → Cycled limit mark n effect s t es
    go true false (Ok core) before enough made done = record {
      before = ltb-true s.core.clock limit before;
      enough = ltb-false (length s.tape) n enough;
      core = core;
      made = made;
      now = cc;
      event = cc;
    }
    go _ _ _ before enough made done = cc

pub taking-done : (limit : ℕ) (mark : Mark) (n : ℕ) (effect : List ℕ → Cycle) (s : State) (core : Core)
    → s.core.clock < limit → n ≤ length s.tape → effect (take n s.tape) s.core ≡ Ok core
    → taking limit mark n effect s
    ≡ Done (record { core = record core { clock = core.clock + 1 }; tape = drop n s.tape }) (event_of mark n s ∷ [])
unfolding taking cycle_taking
taking-done limit mark n effect s core before enough made =
    rw (lt-ltb s.core.clock limit before, le-ltb (length s.tape) n enough, made) refl

pub taking-ok : (limit : ℕ) (mark : Mark) (n : ℕ) (effect : List ℕ → Cycle) (s t : State)
    → s.core.clock < limit → cycle_taking n effect s ≡ Ok t → taking limit mark n effect s ≡ Done t (event_of mark n s ∷ [])
unfolding taking
taking-ok limit mark n effect s t before made = rw (lt-ltb s.core.clock limit before, made) refl

pub taking-trap : (limit : ℕ) (mark : Mark) (n : ℕ) (effect : List ℕ → Cycle) (s : State) (cause : Cause)
    → s.core.clock < limit → cycle_taking n effect s ≡ Err cause → taking limit mark n effect s ≡ Trap s.core.clock cause
unfolding taking
taking-trap limit mark n effect s cause before made = rw (lt-ltb s.core.clock limit before, made) refl

pub taking-late : (limit : ℕ) (mark : Mark) (n : ℕ) (effect : List ℕ → Cycle) (s : State)
    → limit ≤ s.core.clock → taking limit mark n effect s ≡ OutOfCycles s []
unfolding taking
taking-late limit mark n effect s late = rw (le-ltb s.core.clock limit late) refl

-- within two limits a cycle comes out the same
pub taking-within : (limit other : ℕ) (mark : Mark) (n : ℕ) (effect : List ℕ → Cycle) (s : State)
    → s.core.clock < limit → s.core.clock < other → taking limit mark n effect s ≡ taking other mark n effect s
unfolding taking
taking-within limit other mark n effect s l m = rw (lt-ltb s.core.clock limit l, lt-ltb s.core.clock other m) refl
