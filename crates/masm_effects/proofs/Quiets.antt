-- An effect shown by computing the run of a list on a window.
use Rattle.std.proofs.Common.{◌≡◌, ℕ, ◌≤◌, Bool, true, false, nat_le, List, ◌∷◌, ◌++◌, drop, is_some, ap, leb-true}
use Rattle.vm_field.specs.Machine.{State, WordMap}
use Rattle.vm_ops.specs.declared.item.Item.{Item}
use Rattle.vm_ops.specs.Step.{memory_with}
use Rattle.masm_effects.specs.Effects.{Effect, leaving, listed}
use Rattle.masm_effects.proofs.Meeting.{Acts}
use Rattle.masm_effects.proofs.Windows.{Window, last, trap, fits}

-- an instruction that only changes the stack
pub acts : (constants : List ℕ) (items : List Item) (s : State) (traps : Bool) (takes : ℕ) (leaves : List ℕ) (w : Window) → takes ≤ 16
    → fits constants s.core items w ≡ true → is_some (trap constants s.core items w) ≡ traps
    → (last constants s.core items w).fmp ≡ s.core.fmp → (last constants s.core items w).memory ≡ s.core.memory
    → (last constants s.core items w).tape ≡ s.tape
    → (traps ≡ false → (last constants s.core items w).cells ≡ leaves ++ drop takes (listed 24 0 s.core.stack))
    → Acts constants items s (leaving traps takes leaves) w
acts constants items s traps takes leaves w small room is fmp memory tape cells = record {
  small = small;
  room = room;
  traps = is;
  does = λ free. record { fmp = fmp; cells = cells free; memory = memory; tape = tape };
}

pub first-is : (v v' : ℕ) (rest : List ℕ) → v ≡ v' → v ∷ rest ≡ v' ∷ rest
first-is v v' rest e = ap (λ (x : ℕ). x ∷ rest) e

pub head-is : {v v' : ℕ} {rest : List ℕ} → v ≡ v' → v ∷ rest ≡ v' ∷ rest
head-is e = first-is _ _ _ e

-- all of a run but whether it traps and its cells, and what that should be
abbrev pub Rest : Type 0
Rest = Bool × Bool × ℕ × WordMap × List ℕ

abbrev pub rest : List ℕ → List Item → State → Effect → Window → Rest
rest constants items s e w = (
  nat_le e.takes 16,
  fits constants s.core items w,
  (last constants s.core items w).fmp,
  (last constants s.core items w).memory,
  (last constants s.core items w).tape,
)

abbrev pub rest_wanted : State → Effect → Rest
rest_wanted s e = (true, true, s.core.fmp, memory_with s.core.memory s.core.context e.address e.word, drop e.advice s.tape)

abbrev pub cells_wanted : State → Effect → List ℕ
cells_wanted s e = e.leaves ++ drop e.takes (listed 24 0 s.core.stack)

abbrev pub whole_rest : List ℕ → List Item → State → Effect → Window → Rest × List ℕ
whole_rest constants items s e w = (rest constants items s e w, (last constants s.core items w).cells)

-- all of it
abbrev pub Whole : Type 0
Whole = Rest × Bool × List ℕ

abbrev pub whole : List ℕ → List Item → State → Effect → Window → Whole
whole constants items s e w =
    (rest constants items s e w, is_some (trap constants s.core items w), (last constants s.core items w).cells)

abbrev pub whole_wanted : State → Effect → Whole
whole_wanted s e = (rest_wanted s e, e.traps, cells_wanted s e)

module _ {constants : List ℕ} {items : List Item} {s : State} {e : Effect} {w : Window} where
  pub shown : rest constants items s e w ≡ rest_wanted s e → is_some (trap constants s.core items w) ≡ e.traps
      → (e.traps ≡ false → (last constants s.core items w).cells ≡ cells_wanted s e) → Acts constants items s e w
  shown same traps cells = record {
    small = leb-true _ _ (ap (λ (r : Rest). r.0) same);
    room = ap (λ (r : Rest). r.1) same;
    traps = traps;
    does = λ free. record {
      fmp = ap (λ (r : Rest). r.2) same;
      cells = cells free;
      memory = ap (λ (r : Rest). r.3) same;
      tape = ap (λ (r : Rest). r.4) same;
    };
  }

  -- where only the trap wants a lemma
  pub tested : whole_rest constants items s e w ≡ (rest_wanted s e, cells_wanted s e) → is_some (trap constants s.core items w) ≡ e.traps
      → Acts constants items s e w
  tested same traps = shown (ap (λ (r : Rest × List ℕ). r.0) same) traps (λ free. ap (λ (r : Rest × List ℕ). r.1) same)

  pub computes : whole constants items s e w ≡ whole_wanted s e → Acts constants items s e w
  computes same = shown (ap (λ (r : Whole). r.0) same) (ap (λ (r : Whole). r.1) same) (λ free. ap (λ (r : Whole). r.2) same)
