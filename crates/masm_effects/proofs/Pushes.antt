-- Runs whose first operations push values, or take them from the tape.
use Rattle.std.proofs.Common.{◌≡◌, ℕ, zero, suc, ◌+◌, Bool, true, false, cond, ◌==◌, nat_lt, slice_index, List, [], ◌∷◌, ◌++◌, length, map, replicate, reverse, Result, Ok, Err, refl, sym, ◌∙◌, ap, arith, append_assoc, eqb-true, lt-ltb, le-ltb}
use Rattle.std.proofs.lemmas.Bool.Decides.{nat_tests}
use Rattle.std.proofs.lemmas.List.{reverse-append}
use Rattle.vm_field.specs.Limits.{number_of_constants}
use Rattle.vm_field.specs.Machine.{Core, State, filled_up}
use Rattle.vm_ops.proofs.FrameLemmas.{filled_up-deep}
use Rattle.vm_ops.proofs.RunLemmas.{run-append}
use Rattle.vm_ops.specs.Items.{plain_item, push_item}
use Rattle.vm_ops.specs.Runs.{after_ok, run}
use Rattle.vm_ops.specs.Step.{left_cells}
use Rattle.vm_ops.specs.Values.{computed, trap_of}
use Rattle.vm_ops.specs.declared.cause.Cause.{Cause}
use Rattle.vm_ops.specs.declared.item.Item.{Item}
use Rattle.vm_ops.specs.declared.op.Op.TheVariants as ops
use Rattle.masm_expand.specs.Expansion.{lit, plain}
use Rattle.masm_effects.specs.Effects.{Effect, leaving, listed, taking_advice}
use Rattle.masm_effects.specs.HasEffect.{HasEffect, TrapsOrLeaves, affected}
use Rattle.masm_effects.proofs.Meeting.{Acts, has-effect, same-state}
use Rattle.masm_effects.proofs.Quiets.{computes, shown}
use Rattle.masm_effects.proofs.Sized.{IsSized}
use Rattle.masm_effects.proofs.Windows.{last, trap, fits, window}

-- a state with a value pushed, a cycle later
abbrev pub pushed_on : ℕ → State → State
pushed_on v s = record s { core = record s.core { clock = s.core.clock + 1; stack = v ∷ s.core.stack } }

pub sized-pushed : (v : ℕ) (s : State) → IsSized s.core → IsSized (pushed_on v s).core
sized-pushed v s sized = record { stack = (let deep = sized.stack in omega arith); digest = sized.digest; words = sized.words }

-- the effect that takes one cell more
abbrev pub one_more : Effect → Effect
one_more e = record e { takes = suc e.takes }

same-answer : (b b' : Bool) (r r' : Result State Cause) (t t' : State) → b ≡ b' → r' ≡ r → t ≡ t' → TrapsOrLeaves b r t → TrapsOrLeaves b' r' t'
same-answer b b' r r' t t' e f g answer = rw (← e, f, ← g) answer

reverse-cons : (n : ℕ) (ns rest : List ℕ) → reverse ns ++ n ∷ rest ≡ reverse (n ∷ ns) ++ rest
reverse-cons n ns rest =
    let turned : reverse (n ∷ ns) ≡ reverse ns ++ n ∷ [] = reverse-append (n ∷ []) ns in
    rw (turned, append_assoc) refl

listed-later : (n k x : ℕ) (xs : List ℕ) → listed n (suc k) (x ∷ xs) ≡ listed n k xs
listed-later zero k x xs = refl
listed-later (suc n) k x xs = ap (λ (rest : List ℕ). slice_index xs k ∷ rest) (listed-later n (suc k) x xs)

fewer : (m n : ℕ) → nat_lt m n ≡ nat_lt (suc m) (suc n)
fewer m n = grind (arith, nat_tests)

module _ (constants : List ℕ) (count : length constants ≡ number_of_constants) where
  -- a list behind another that comes to a state
  behind : (xs ys : List Item) (s t : State) (e e' : Effect) → run constants xs s ≡ Ok t → HasEffect constants ys t e → e.traps ≡ e'.traps
      → affected e (length ys) t ≡ affected e' (length (xs ++ ys)) s → HasEffect constants (xs ++ ys) s e'
  unfolding HasEffect
  behind xs ys s t e e' is effect traps same =
      same-answer _ _ (run constants ys t) _ _ _ traps (run-append constants xs ys s ∙ ap (after_ok (run constants ys)) is) same effect

  push-acts : (is_zero : Bool) (v : ℕ) (s : State) → (is_zero ≡ true → v ≡ 0)
      → Acts constants (cond is_zero (plain_item ops.Pad) (push_item v) ∷ []) s (leaving false 0 (v ∷ [])) (window s)
  unfolding last trap fits left_cells computed trap_of
  push-acts false v s none = computes refl
  push-acts true v s none = rw (none refl) (computes refl)

  push-runs : (v : ℕ) (s : State) → IsSized s.core → run constants (lit v ∷ []) s ≡ Ok (pushed_on v s)
  unfolding HasEffect
  push-runs v s sized =
      let deep = sized.stack in
      let effect : HasEffect constants (lit v ∷ []) s (leaving false 0 (v ∷ [])) =
      has-effect constants (lit v ∷ []) s _ count sized (push-acts (v == 0) v s (eqb-true v 0)) in
      effect ∙ ap Ok (same-state refl refl refl refl refl refl (filled_up-deep (v ∷ s.core.stack) (omega arith)) refl refl)

  -- a list behind a value that is pushed
  pub push-effect : (v : ℕ) (items : List Item) (s : State) (e : Effect) → IsSized s.core → HasEffect constants items (pushed_on v s) (one_more e)
      → HasEffect constants (lit v ∷ items) s e
  push-effect v items s e sized effect =
      behind (lit v ∷ []) items s (pushed_on v s) (one_more e) e (push-runs v s sized) effect refl
      (same-state (omega arith) refl refl refl refl refl refl refl refl)

  -- values pushed one after another
  pub lits-effect : (ns : List ℕ) (s : State) → IsSized s.core → HasEffect constants (map lit ns) s (leaving false 0 (reverse ns))
  unfolding last trap fits
  lits-effect [] s sized = has-effect constants [] s (leaving false 0 []) count sized (computes refl)
  lits-effect (n ∷ ns) s sized =
      behind (lit n ∷ []) (map lit ns) s (pushed_on n s) (leaving false 0 (reverse ns)) (leaving false 0 (reverse (n ∷ ns))) (push-runs n s sized)
      (lits-effect ns (pushed_on n s) (sized-pushed n s sized)) refl
      (same-state (omega arith) refl refl refl refl refl (ap filled_up (reverse-cons n ns s.core.stack)) refl refl)

  -- elements of the tape, one after another
  pub advice-effect : (n : ℕ) (c : Core) (tape : List ℕ) → IsSized c
      → HasEffect constants (plain (replicate n ops.AdvPop)) (record { core = c; tape = tape }) (taking_advice n 0 (record { core = c; tape = tape }))
  unfolding HasEffect last trap fits left_cells computed trap_of
  advice-effect zero c tape sized =
      has-effect constants [] (record { core = c; tape = tape }) (taking_advice 0 0 (record { core = c; tape = tape })) count sized
      (shown refl (sym (le-ltb (length tape) 0 (omega arith))) (λ free. refl))
  advice-effect (suc n) c [] sized =
      let s : State = record { core = c; tape = [] } in
      let (cause, is) = has-effect constants (plain (ops.AdvPop ∷ [])) s (leaving true 0 []) count sized (shown refl refl (λ free. cc)) in
      same-answer true _ (Err cause) _ _ _ (sym (lt-ltb 0 (suc n) (omega arith)))
      (run-append constants (plain (ops.AdvPop ∷ [])) (plain (replicate n ops.AdvPop)) s ∙ ap (after_ok (run constants (plain (replicate n ops.AdvPop)))) is)
      refl (cause, refl)
  advice-effect (suc n) c (x ∷ tape) sized =
      let s : State = record { core = c; tape = x ∷ tape } in
      let t : State = record { core = (pushed_on x s).core; tape = tape } in
      let deep = sized.stack in
      let first : HasEffect constants (plain (ops.AdvPop ∷ [])) s (record (leaving false 0 (x ∷ [])) { advice = 1 }) =
      has-effect constants (plain (ops.AdvPop ∷ [])) s (record (leaving false 0 (x ∷ [])) { advice = 1 }) count sized
      (shown refl (rw (le-ltb (suc (length tape)) 1 (omega arith)) refl) (λ free. refl)) in
      behind (plain (ops.AdvPop ∷ [])) (plain (replicate n ops.AdvPop)) s t (taking_advice n 0 t) (taking_advice (suc n) 0 s)
      (first ∙ ap Ok (same-state refl refl refl refl refl refl (filled_up-deep (x ∷ c.stack) (omega arith)) refl refl))
      (advice-effect n t.core tape (sized-pushed x s sized)) (fewer (length tape) n)
      (same-state (omega arith) refl refl refl refl refl
      (ap filled_up (reverse-cons x (listed n 0 tape) c.stack ∙ ap (λ (xs : List ℕ). reverse (x ∷ xs) ++ c.stack) (sym (listed-later n 0 x tape)))) refl refl)
