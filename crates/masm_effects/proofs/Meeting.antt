-- What is left to show of an instruction: what its list does on a window.
use Rattle.std.proofs.Common.{◌≡◌, ℕ, ◌+◌, ◌-◌, ◌≤◌, max, Bool, true, false, List, ◌++◌, length, drop, Option, Some, None, Result, Ok, is_some, refl, sym, ◌∙◌, ap, arith, add-zero}
use Rattle.std.proofs.lemmas.List.{length-append, length-drop, drop-append-le, append_assoc}
use Rattle.vm_field.proofs.Elements.{length-filled_up}
use Rattle.vm_field.specs.Limits.{number_of_constants}
use Rattle.vm_field.specs.Machine.{Core, State, WordMap, filled_up}
use Rattle.vm_ops.specs.declared.cause.Cause.{Cause}
use Rattle.vm_ops.specs.declared.item.Item.{Item}
use Rattle.masm_effects.proofs.Sized.{IsSized}
use Rattle.vm_ops.specs.Step.{memory_with}
use Rattle.masm_effects.specs.Effects.{Effect, listed}
use Rattle.masm_effects.specs.HasEffect.{affected, TrapsOrLeaves, HasEffect}
use Rattle.vm_ops.specs.Runs.{run}
use Rattle.masm_effects.proofs.Alikes.{Alike, alike-along, alike-back, alike-equal, alike-filled_up, alike-front, alike-drop, alike-listed, length-listed}
use Rattle.masm_effects.proofs.Running.{Does, WindowShows, last-turn, run-does}
use Rattle.masm_effects.proofs.Windows.{Window, window, last, trap, fits}

-- what the list leaves is what the effect leaves
pub record Left (e : Effect) (s : State) (w : Window) : Type 0 where
  pub fmp : w.fmp ≡ s.core.fmp
  pub cells : w.cells ≡ e.leaves ++ drop e.takes (listed 24 0 s.core.stack)
  pub memory : w.memory ≡ memory_with s.core.memory s.core.context e.address e.word
  pub tape : w.tape ≡ drop e.advice s.tape

-- the list, run on this window of a state, has the effect
pub record Acts (constants : List ℕ) (items : List Item) (s : State) (e : Effect) (w : Window) : Type 0 where
  pub small : e.takes ≤ 16
  pub room : fits constants s.core items w ≡ true
  pub traps : is_some (trap constants s.core items w) ≡ e.traps
  pub does : e.traps ≡ false → Left e s (last constants s.core items w)

abbrev pub Meets : List ℕ → List Item → State → Effect → Type 0
Meets constants items s e = Acts constants items s e (window s)

shows-start : (s : State) → 16 ≤ length s.core.stack → WindowShows s.core (drop 24 s.core.stack) (window s) s
shows-start s deep = record {
  clock = sym (add-zero s.core.clock);
  context = refl;
  fmp = refl;
  in_syscall = refl;
  digest = refl;
  nesting = refl;
  stack = alike-back _ _ (alike-listed 24 s.core.stack);
  depth = omega arith;
  memory = refl;
  tape = refl;
}

-- the stack that the window shows is the stack that the effect leaves
stack-is : (stack old leaves known : List ℕ) (takes : ℕ) → 16 ≤ length old → takes ≤ 16
    → known ≡ leaves ++ drop takes (listed 24 0 old) → Alike stack (known ++ drop 24 old)
    → length stack ≡ max 16 (length known + length old - 24) → stack ≡ filled_up (leaves ++ drop takes old)
stack-is stack old leaves known takes deep small is alike depth =
    let count : length known ≡ length leaves + (24 - takes) = rw (is, length-append, length-drop) refl in
    let new : length (filled_up (leaves ++ drop takes old)) ≡ max 16 (length leaves + (length old - takes)) =
    rw (length-filled_up, length-append, length-drop) refl in
    let enough : takes ≤ length (listed 24 0 old) = omega (arith, length-listed 24 0 old) in
    let joined : known ++ drop 24 old ≡ leaves ++ drop takes (listed 24 0 old ++ drop 24 old) =
    rw (is, append_assoc, drop-append-le takes (listed 24 0 old) (drop 24 old) enough) refl in
    let below : Alike (leaves ++ drop takes (listed 24 0 old ++ drop 24 old)) (leaves ++ drop takes old) =
    alike-front leaves _ _ (alike-drop takes _ _ (alike-listed 24 old)) in
    alike-equal stack (filled_up (leaves ++ drop takes old)) (omega arith)
    (alike-along _ _ _ (rw joined at alike) (alike-along _ _ _ below (alike-back _ _ (alike-filled_up (leaves ++ drop takes old)))))

-- a state of these parts
abbrev pub state_of : ℕ → ℕ → ℕ → Bool → List ℕ → ℕ → List ℕ → WordMap → List ℕ → State
state_of clock context fmp in_syscall digest nesting stack memory tape = record {
  core = record {
    clock = clock;
    context = context;
    fmp = fmp;
    in_syscall = in_syscall;
    digest = digest;
    nesting = nesting;
    stack = stack;
    memory = memory;
  };
  tape = tape;
}

pub same-state : {clock clock' context context' fmp fmp' : ℕ} {in_syscall in_syscall' : Bool} {digest digest' : List ℕ} {nesting nesting' : ℕ}
    {stack stack' : List ℕ} {memory memory' : WordMap} {tape tape' : List ℕ}
    → clock ≡ clock' → context ≡ context' → fmp ≡ fmp' → in_syscall ≡ in_syscall' → digest ≡ digest' → nesting ≡ nesting'
    → stack ≡ stack' → memory ≡ memory' → tape ≡ tape'
    → state_of clock context fmp in_syscall digest nesting stack memory tape
    ≡ state_of clock' context' fmp' in_syscall' digest' nesting' stack' memory' tape'
same-state e1 e2 e3 e4 e5 e6 e7 e8 e9 = cc

answers : (o : Option Cause) (b : Bool) (r : Result State Cause) (c : Core) (rest : List ℕ) (w : Window) (target : State)
    → is_some o ≡ b → Does o r c rest w → (b ≡ false → (t : State) → WindowShows c rest w t → t ≡ target) → TrapsOrLeaves b r target
answers None false r c rest w target e (t, is, shows) same = is ∙ ap Ok (same refl t shows)
answers (Some cause) true r c rest w target e is same = (cause, is)
answers None true r c rest w target e does same = cc
answers (Some cause) false r c rest w target e does same = cc

module _ (constants : List ℕ) (items : List Item) (s : State) (e : Effect) where
  abbrev end : Window
  end = last constants s.core items (window s)

  target-is : (t : State) → 16 ≤ length s.core.stack → e.takes ≤ 16 → Left e s end → WindowShows s.core (drop 24 s.core.stack) end t
      → t ≡ affected e (length items) s
  target-is t deep small left shows =
      let turn : end.turn ≡ length items = last-turn constants s.core items (window s) ∙ add-zero (length items) in
      same-state (shows.clock ∙ ap (λ n. s.core.clock + n) turn) shows.context (shows.fmp ∙ left.fmp) shows.in_syscall shows.digest shows.nesting
      (stack-is t.core.stack s.core.stack e.leaves end.cells e.takes deep small left.cells shows.stack shows.depth)
      (shows.memory ∙ left.memory) (shows.tape ∙ left.tape)

  pub has-effect : length constants ≡ number_of_constants → IsSized s.core → Meets constants items s e → HasEffect constants items s e
  unfolding HasEffect
  has-effect count sized meets =
      answers (trap constants s.core items (window s)) e.traps (run constants items s) s.core (drop 24 s.core.stack) end
      (affected e (length items) s) meets.traps
      (run-does constants s.core (drop 24 s.core.stack) items (window s) s count sized.stack meets.room sized (shows-start s sized.stack))
      (λ free t shows. target-is t sized.stack meets.small (meets.does free) shows)
