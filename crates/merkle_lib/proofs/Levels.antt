-- One level of a walk, and the comparison at its end: the cells and the tape behind their operations where none traps.
use Rattle.std.proofs.Common.{◌≡◌, inl, inr, ℕ, zero, suc, ◌+◌, ◌-◌, ◌<◌, ◌≤◌, Bool, true, false, cond, not, ◌&&◌, ◌==◌, eqb-true, ltb-true, ltb-false, nat_lt, List, [], ◌∷◌, ◌++◌, length, drop, replicate, slice_index, Result, Ok, Err, refl, sym, ap, subst, ◌∙◌, arith, lit<}
use Rattle.std.proofs.lemmas.Bool.{and_parts, ne_eqb}
use Rattle.std.proofs.lemmas.Bool.Decides.{eqb_tells}
use Rattle.vm_field.proofs.Elements.{elements-index, word-again, word-of}
use Rattle.vm_field.specs.Limits.{number_of_constants}
use Rattle.vm_field.specs.Field.{AreElements}
use Rattle.vm_field.specs.Machine.{Core, State, IsWellFormed, IsWord, filled_up}
use Rattle.vm_field.specs.Sponge.{hashed}
use Rattle.vm_ops.specs.declared.cause.Cause.{Cause}
use Rattle.vm_ops.specs.declared.item.Item.{Item}
use Rattle.vm_ops.specs.Runs.{after_ok, run}
use Rattle.vm_ops.specs.Values.{bit_of}
use Rattle.vm_ops.proofs.RunLemmas.{run-append}
use Rattle.rpo_hash.proofs.Digests.{hashed-IsWord}
use Rattle.masm_instr.specs.declared.name.Name.{Name}
use Rattle.masm_instr.specs.declared.name.Name.TheVariants as names
use Rattle.masm_instr.specs.Instructions.{is_in_form, names_local}
use Rattle.masm_expand.specs.Expansion.{expansion}
use Rattle.masm_effects.specs.Effects.{instr_effect}
use Rattle.masm_effects.specs.HasEffect.{HasEffect, TrapsOrLeaves, affected}
use Rattle.masm_effects.proofs.Law.{instruction-effects, instruction-kept}
use Rattle.merkle_lib.specs.declared.paths.Step.{Step}
use Rattle.merkle_lib.specs.Paths.{parent, tape_of_step}
use Rattle.merkle_lib.specs.Programs.{last_items, level_items}

-- a state of this stack and this tape
abbrev pub holding : Core → List ℕ → List ℕ → State
holding c stack tape = record { core = record c { stack = stack }; tape = tape }

-- the cells below the known ones, with the zeros that come in below
abbrev filled : List ℕ → List ℕ → List ℕ
filled xs rest = rest ++ replicate (16 - length (xs ++ rest)) 0

not-false : (b : Bool) → not b ≡ false → b ≡ true
not-false true e = refl
not-false false e = cc

fine : (traps : Bool) (r : Result State Cause) (t target : State) → TrapsOrLeaves traps r target → r ≡ Ok t → (traps ≡ false) × (t ≡ target)
fine true r t target (cause, is) e = cc
fine false r t target is e = (refl, cc)

one-left : (bit : ℕ) → bit < 2 → (bit ≡ 0 → ⊥) → bit ≡ 1
one-left zero h some = absurd (some refl)
one-left (suc zero) h some = refl
one-left (suc (suc n)) h some = absurd (omega arith)

-- an instruction that is done did not trap, and left what its effect leaves
record Leaves (constants : List ℕ) (name : Name) (numbers : List ℕ) (s t : State) : Type 0 where
  free : (instr_effect constants name numbers 0 s).traps ≡ false
  is : t ≡ affected (instr_effect constants name numbers 0 s) (length (expansion name numbers 0)) s
  well : IsWellFormed t

leaves : (constants : List ℕ) (name : Name) (numbers : List ℕ) (s t : State) → length constants ≡ number_of_constants → IsWellFormed s
    → is_in_form name numbers ≡ true → names_local name ≡ false → run constants (expansion name numbers 0) s ≡ Ok t
    → Leaves constants name numbers s t
unfolding HasEffect
leaves constants name numbers s t count well form local e =
    let both = fine (instr_effect constants name numbers 0 s).traps (run constants (expansion name numbers 0) s) t
    (affected (instr_effect constants name numbers 0 s) (length (expansion name numbers 0)) s)
    (instruction-effects constants 0 s count well name numbers form) e in
    record {
      free = both.0;
      is = both.1;
      well = instruction-kept constants 0 s t count well name numbers form (λ is_local. cc) e;
    }

-- one list and then another
pub record Through (constants : List ℕ) (xs ys : List Item) (s t : State) : Type 0 where
  pub mid : State
  pub first : run constants xs s ≡ Ok mid
  pub second : run constants ys mid ≡ Ok t

through_of : (constants : List ℕ) (xs ys : List Item) (s t : State) (r : Result State Cause) → run constants xs s ≡ r
    → after_ok (run constants ys) r ≡ Ok t → Through constants xs ys s t
through_of constants xs ys s t (Ok u) first e = record { mid = u; first = first; second = e }
through_of constants xs ys s t (Err cause) first e = cc

pub through : (constants : List ℕ) (xs ys : List Item) (s t : State) → run constants (xs ++ ys) s ≡ Ok t → Through constants xs ys s t
through constants xs ys s t e =
    through_of constants xs ys s t (run constants xs s) refl (sym (run-append constants xs ys s) ∙ e)

module _ (constants : List ℕ) (count : length constants ≡ number_of_constants) where
  -- a state that holds these cells and this tape
  pub record Holds (xs tape : List ℕ) (t : State) : Type 0 where
    pub core : Core
    pub rest : List ℕ
    pub is : t ≡ holding core (xs ++ rest) tape
    pub well : IsWellFormed (holding core (xs ++ rest) tape)

  -- the instruction from a state that is equal
  start-at : (name : Name) (numbers : List ℕ) (s s' t : State) → s ≡ s' → IsWellFormed s' → is_in_form name numbers ≡ true
      → names_local name ≡ false → run constants (expansion name numbers 0) s ≡ Ok t → Leaves constants name numbers s' t
  start-at name numbers s s' t same well form local e =
      leaves constants name numbers s' t count well form local (ap (run constants (expansion name numbers 0)) (sym same) ∙ e)

  padded : (a b c d e f g h : ℕ) (tape : List ℕ) (s t : State) → Holds (a ∷ b ∷ c ∷ d ∷ e ∷ f ∷ g ∷ h ∷ []) tape s
      → run constants (expansion names.Padw [] 0) s ≡ Ok t
      → Holds (0 ∷ 0 ∷ 0 ∷ 0 ∷ a ∷ b ∷ c ∷ d ∷ e ∷ f ∷ g ∷ h ∷ []) tape t
  unfolding instr_effect
  padded a b c d e f g h tape s t held ran =
      let l = start-at names.Padw [] s _ t held.is held.well refl refl ran in
      record {
        core = record held.core { clock = held.core.clock + length (expansion names.Padw [] 0) };
        rest = filled (0 ∷ 0 ∷ 0 ∷ 0 ∷ a ∷ b ∷ c ∷ d ∷ e ∷ f ∷ g ∷ h ∷ []) held.rest;
        is = l.is;
        well = subst IsWellFormed l.is l.well;
      }

  loaded : (w x y z a b c d e f g h : ℕ) (tape : List ℕ) (s t : State)
      → Holds (w ∷ x ∷ y ∷ z ∷ a ∷ b ∷ c ∷ d ∷ e ∷ f ∷ g ∷ h ∷ []) tape s
      → run constants (expansion names.AdvLoadw [] 0) s ≡ Ok t
      → (4 ≤ length tape) × Holds (slice_index tape 3 ∷ slice_index tape 2 ∷ slice_index tape 1 ∷ slice_index tape 0
      ∷ a ∷ b ∷ c ∷ d ∷ e ∷ f ∷ g ∷ h ∷ []) (drop 4 tape) t
  unfolding instr_effect
  loaded w x y z a b c d e f g h tape s t held ran =
      let l = start-at names.AdvLoadw [] s _ t held.is held.well refl refl ran in (
        ltb-false (length tape) 4 l.free,
        record {
          core = record held.core { clock = held.core.clock + length (expansion names.AdvLoadw [] 0) };
          rest = filled (slice_index tape 3 ∷ slice_index tape 2 ∷ slice_index tape 1 ∷ slice_index tape 0
              ∷ a ∷ b ∷ c ∷ d ∷ e ∷ f ∷ g ∷ h ∷ []) held.rest;
          is = l.is;
          well = subst IsWellFormed l.is l.well;
        },
      )

  pushed : (w x y z a b c d e f g h : ℕ) (tape : List ℕ) (s t : State)
      → Holds (w ∷ x ∷ y ∷ z ∷ a ∷ b ∷ c ∷ d ∷ e ∷ f ∷ g ∷ h ∷ []) tape s
      → run constants (expansion names.AdvPush (1 ∷ []) 0) s ≡ Ok t
      → (1 ≤ length tape) × Holds (slice_index tape 0 ∷ w ∷ x ∷ y ∷ z ∷ a ∷ b ∷ c ∷ d ∷ e ∷ f ∷ g ∷ h ∷ []) (drop 1 tape) t
  unfolding instr_effect
  pushed w x y z a b c d e f g h tape s t held ran =
      let l = start-at names.AdvPush (1 ∷ []) s _ t held.is held.well refl refl ran in (
        ltb-false (length tape) 1 l.free,
        record {
          core = record held.core { clock = held.core.clock + length (expansion names.AdvPush (1 ∷ []) 0) };
          rest = filled (slice_index tape 0 ∷ w ∷ x ∷ y ∷ z ∷ a ∷ b ∷ c ∷ d ∷ e ∷ f ∷ g ∷ h ∷ []) held.rest;
          is = l.is;
          well = subst IsWellFormed l.is l.well;
        },
      )

  merged : (w x y z a b c d e f g h : ℕ) (tape : List ℕ) (s t : State)
      → Holds (w ∷ x ∷ y ∷ z ∷ a ∷ b ∷ c ∷ d ∷ e ∷ f ∷ g ∷ h ∷ []) tape s
      → run constants (expansion names.Hmerge [] 0) s ≡ Ok t
      → let digest : List ℕ = hashed constants 0 ((d ∷ c ∷ b ∷ a ∷ z ∷ y ∷ x ∷ w ∷ []) ∷ []) in
      Holds (slice_index digest 3 ∷ slice_index digest 2 ∷ slice_index digest 1 ∷ slice_index digest 0 ∷ e ∷ f ∷ g ∷ h ∷ []) tape t
  unfolding instr_effect
  merged w x y z a b c d e f g h tape s t held ran =
      let l = start-at names.Hmerge [] s _ t held.is held.well refl refl ran in
      let digest : List ℕ = hashed constants 0 ((d ∷ c ∷ b ∷ a ∷ z ∷ y ∷ x ∷ w ∷ []) ∷ []) in
      record {
        core = record held.core { clock = held.core.clock + length (expansion names.Hmerge [] 0) };
        rest = filled (slice_index digest 3 ∷ slice_index digest 2 ∷ slice_index digest 1 ∷ slice_index digest 0 ∷ e ∷ f ∷ g ∷ h ∷ []) held.rest;
        is = l.is;
        well = subst IsWellFormed l.is l.well;
      }

  -- the bit puts the two words in their order
  record Swapped (w x y z a b c d e f g h bit : ℕ) (tape : List ℕ) (t : State) : Type 0 where
    right : (bit ≡ 0) → Holds (w ∷ x ∷ y ∷ z ∷ a ∷ b ∷ c ∷ d ∷ e ∷ f ∷ g ∷ h ∷ []) tape t
    left : (bit ≡ 0 → ⊥) → Holds (a ∷ b ∷ c ∷ d ∷ w ∷ x ∷ y ∷ z ∷ e ∷ f ∷ g ∷ h ∷ []) tape t
    bit_is : bit < 2

  swapped : (w x y z a b c d e f g h bit : ℕ) (tape : List ℕ) (s t : State)
      → Holds (bit ∷ w ∷ x ∷ y ∷ z ∷ a ∷ b ∷ c ∷ d ∷ e ∷ f ∷ g ∷ h ∷ []) tape s
      → run constants (expansion names.Cswapw [] 0) s ≡ Ok t
      → Swapped w x y z a b c d e f g h bit tape t
  unfolding instr_effect
  swapped w x y z a b c d e f g h bit tape s t held ran =
      let l = start-at names.Cswapw [] s _ t held.is held.well refl refl ran in
      let kept : Bool → List ℕ → List ℕ = λ test below. cond test (w ∷ x ∷ y ∷ z ∷ a ∷ b ∷ c ∷ d ∷ []) (a ∷ b ∷ c ∷ d ∷ w ∷ x ∷ y ∷ z ∷ []) ++ below in
      let behind : Bool → State = λ test.
      holding (record held.core { clock = held.core.clock + length (expansion names.Cswapw [] 0) })
      (filled_up (kept test (e ∷ f ∷ g ∷ h ∷ held.rest))) tape in
      record {
        right = λ zero_bit.
            let test : (bit == 0) ≡ true = rw zero_bit refl in
            let same : t ≡ behind true = l.is ∙ ap behind test in
            record {
              core = record held.core { clock = held.core.clock + length (expansion names.Cswapw [] 0) };
              rest = filled (w ∷ x ∷ y ∷ z ∷ a ∷ b ∷ c ∷ d ∷ e ∷ f ∷ g ∷ h ∷ []) held.rest;
              is = same;
              well = subst IsWellFormed same l.well;
            };
        left = λ some_bit.
            let test : (bit == 0) ≡ false = ne_eqb bit 0 some_bit in
            let same : t ≡ behind false = l.is ∙ ap behind test in
            record {
              core = record held.core { clock = held.core.clock + length (expansion names.Cswapw [] 0) };
              rest = filled (a ∷ b ∷ c ∷ d ∷ w ∷ x ∷ y ∷ z ∷ e ∷ f ∷ g ∷ h ∷ []) held.rest;
              is = same;
              well = subst IsWellFormed same l.well;
            };
        bit_is = ltb-true bit 2 (not-false (nat_lt bit 2) l.free);
      }

  -- a level that is done: the tape began with a step, and the node above stands in the node's place
  pub record Level (n0 n1 n2 n3 r0 r1 r2 r3 : ℕ) (tape : List ℕ) (t : State) : Type 0 where
    pub step : Step
    pub later : List ℕ
    pub tape_is : tape ≡ tape_of_step step ++ later
    pub word : IsWord step.sibling
    pub m0 : ℕ
    pub m1 : ℕ
    pub m2 : ℕ
    pub m3 : ℕ
    pub node : m0 ∷ m1 ∷ m2 ∷ m3 ∷ [] ≡ parent constants (n0 ∷ n1 ∷ n2 ∷ n3 ∷ []) step
    pub holds : Holds (m3 ∷ m2 ∷ m1 ∷ m0 ∷ r3 ∷ r2 ∷ r1 ∷ r0 ∷ []) later t

  front : (tape : List ℕ) (bit : Bool) → 4 ≤ length tape → 1 ≤ length (drop 4 tape) → slice_index (drop 4 tape) 0 ≡ bit_of bit
      → tape ≡ (slice_index tape 0 ∷ slice_index tape 1 ∷ slice_index tape 2 ∷ slice_index tape 3 ∷ []) ++ bit_of bit ∷ [] ++ drop 1 (drop 4 tape)
  front [] bit four more e = absurd (omega arith)
  front (a ∷ []) bit four more e = absurd (omega arith)
  front (a ∷ b ∷ []) bit four more e = absurd (omega arith)
  front (a ∷ b ∷ c ∷ []) bit four more e = absurd (omega arith)
  front (a ∷ b ∷ c ∷ d ∷ []) bit four more e = absurd (omega arith)
  front (a ∷ b ∷ c ∷ d ∷ x ∷ later) bit four more e = ap (λ (y : ℕ). a ∷ b ∷ c ∷ d ∷ y ∷ later) e

  -- the level of either bit, from what stands before its digest is made
  on_right : (n0 n1 n2 n3 r0 r1 r2 r3 : ℕ) (tape : List ℕ) (s t : State) → AreElements tape → 4 ≤ length tape → 1 ≤ length (drop 4 tape)
      → slice_index (drop 4 tape) 0 ≡ 0
      → Holds (slice_index tape 3 ∷ slice_index tape 2 ∷ slice_index tape 1 ∷ slice_index tape 0 ∷ n3 ∷ n2 ∷ n1 ∷ n0 ∷ r3 ∷ r2 ∷ r1 ∷ r0 ∷ [])
      (drop 1 (drop 4 tape)) s
      → run constants (expansion names.Hmerge [] 0) s ≡ Ok t → Level n0 n1 n2 n3 r0 r1 r2 r3 tape t
  on_right n0 n1 n2 n3 r0 r1 r2 r3 tape s t below four more bit held ran =
      let sibling : List ℕ = slice_index tape 0 ∷ slice_index tape 1 ∷ slice_index tape 2 ∷ slice_index tape 3 ∷ [] in
      let digest : List ℕ = hashed constants 0 ((n0 ∷ n1 ∷ n2 ∷ n3 ∷ sibling) ∷ []) in
      record {
        step = record { sibling = sibling; bit = false };
        later = drop 1 (drop 4 tape);
        tape_is = front tape false four more bit;
        word = word-of _ _ _ _ (elements-index tape 0 below) (elements-index tape 1 below) (elements-index tape 2 below) (elements-index tape 3 below);
        m0 = slice_index digest 0;
        m1 = slice_index digest 1;
        m2 = slice_index digest 2;
        m3 = slice_index digest 3;
        node = word-again digest (hashed-IsWord constants 0 _ count (lit< tt)).size;
        holds = merged _ _ _ _ _ _ _ _ _ _ _ _ _ s t held ran;
      }

  on_left : (n0 n1 n2 n3 r0 r1 r2 r3 : ℕ) (tape : List ℕ) (s t : State) → AreElements tape → 4 ≤ length tape → 1 ≤ length (drop 4 tape)
      → slice_index (drop 4 tape) 0 ≡ 1
      → Holds (n3 ∷ n2 ∷ n1 ∷ n0 ∷ slice_index tape 3 ∷ slice_index tape 2 ∷ slice_index tape 1 ∷ slice_index tape 0 ∷ r3 ∷ r2 ∷ r1 ∷ r0 ∷ [])
      (drop 1 (drop 4 tape)) s
      → run constants (expansion names.Hmerge [] 0) s ≡ Ok t → Level n0 n1 n2 n3 r0 r1 r2 r3 tape t
  on_left n0 n1 n2 n3 r0 r1 r2 r3 tape s t below four more bit held ran =
      let sibling : List ℕ = slice_index tape 0 ∷ slice_index tape 1 ∷ slice_index tape 2 ∷ slice_index tape 3 ∷ [] in
      let digest : List ℕ = hashed constants 0 ((sibling ++ n0 ∷ n1 ∷ n2 ∷ n3 ∷ []) ∷ []) in
      record {
        step = record { sibling = sibling; bit = true };
        later = drop 1 (drop 4 tape);
        tape_is = front tape true four more bit;
        word = word-of _ _ _ _ (elements-index tape 0 below) (elements-index tape 1 below) (elements-index tape 2 below) (elements-index tape 3 below);
        m0 = slice_index digest 0;
        m1 = slice_index digest 1;
        m2 = slice_index digest 2;
        m3 = slice_index digest 3;
        node = word-again digest (hashed-IsWord constants 0 _ count (lit< tt)).size;
        holds = merged _ _ _ _ _ _ _ _ _ _ _ _ _ s t held ran;
      }

  pub level-done : (n0 n1 n2 n3 r0 r1 r2 r3 : ℕ) (tape : List ℕ) (s t : State)
      → Holds (n3 ∷ n2 ∷ n1 ∷ n0 ∷ r3 ∷ r2 ∷ r1 ∷ r0 ∷ []) tape s → run constants level_items s ≡ Ok t
      → Level n0 n1 n2 n3 r0 r1 r2 r3 tape t
  unfolding level_items
  level-done n0 n1 n2 n3 r0 r1 r2 r3 tape s t held ran =
      let pad : List Item = expansion names.Padw [] 0 in
      let load : List Item = expansion names.AdvLoadw [] 0 in
      let push : List Item = expansion names.AdvPush (1 ∷ []) 0 in
      let choose : List Item = expansion names.Cswapw [] 0 in
      let d = through constants (pad ++ load ++ push ++ choose) (expansion names.Hmerge [] 0) s t ran in
      let c = through constants (pad ++ load ++ push) choose s d.mid d.first in
      let b = through constants (pad ++ load) push s c.mid c.first in
      let a = through constants pad load s b.mid b.first in
      let one = padded _ _ _ _ _ _ _ _ tape s a.mid held a.first in
      let two = loaded _ _ _ _ _ _ _ _ _ _ _ _ tape a.mid b.mid one a.second in
      let three = pushed _ _ _ _ _ _ _ _ _ _ _ _ (drop 4 tape) b.mid c.mid two.1 b.second in
      let four = swapped _ _ _ _ _ _ _ _ _ _ _ _ (slice_index (drop 4 tape) 0) (drop 1 (drop 4 tape)) c.mid d.mid three.1 c.second in
      elim (eqb_tells (slice_index (drop 4 tape) 0) 0) [
        | inl zero_bit ↦ on_right n0 n1 n2 n3 r0 r1 r2 r3 tape d.mid t held.well.tape two.0 three.0 zero_bit.1 (four.right zero_bit.1) d.second
        | inr some_bit ↦
            on_left n0 n1 n2 n3 r0 r1 r2 r3 tape d.mid t held.well.tape two.0 three.0
            (one-left (slice_index (drop 4 tape) 0) four.bit_is some_bit.1) (four.left some_bit.1) d.second
      ]

  -- the comparison at the end: the words are the same, and the tape stays
  pub compared : (n0 n1 n2 n3 r0 r1 r2 r3 : ℕ) (tape : List ℕ) (s t : State)
      → Holds (n3 ∷ n2 ∷ n1 ∷ n0 ∷ r3 ∷ r2 ∷ r1 ∷ r0 ∷ []) tape s → run constants last_items s ≡ Ok t
      → (n0 ∷ n1 ∷ n2 ∷ n3 ∷ [] ≡ r0 ∷ r1 ∷ r2 ∷ r3 ∷ []) × (t.tape ≡ tape)
  unfolding last_items instr_effect
  compared n0 n1 n2 n3 r0 r1 r2 r3 tape s t held ran =
      let l = start-at names.AssertEqw [] s _ t held.is held.well refl refl ran in
      let all = not-false ((n3 == r3) && ((n2 == r2) && ((n1 == r1) && ((n0 == r0) && true)))) l.free in
      let a = and_parts (n3 == r3) ((n2 == r2) && ((n1 == r1) && ((n0 == r0) && true))) all in
      let b = and_parts (n2 == r2) ((n1 == r1) && ((n0 == r0) && true)) a.1 in
      let c = and_parts (n1 == r1) ((n0 == r0) && true) b.1 in
      let d = and_parts (n0 == r0) true c.1 in
      let e3 : n3 ≡ r3 = eqb-true n3 r3 a.0 in
      let e2 : n2 ≡ r2 = eqb-true n2 r2 b.0 in
      let e1 : n1 ≡ r1 = eqb-true n1 r1 c.0 in
      let e0 : n0 ≡ r0 = eqb-true n0 r0 d.0 in
      (λ i. e0 i ∷ e1 i ∷ e2 i ∷ e3 i ∷ [], ap (λ (x : State). x.tape) l.is)
