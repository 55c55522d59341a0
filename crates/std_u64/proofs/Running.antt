-- What the list of each procedure does on a window of the stack, and so on a state.
use Rattle.std.proofs.Common.{◌≡◌, ℕ, ◌+◌, ◌-◌, ◌/◌, ◌%◌, ◌^◌, ◌<◌, ◌≤◌, true, false, not, nat_lt, nat_le, List, [], ◌∷◌, ◌++◌, length, drop, Option, Some, None, Result, Ok, Err, is_some, refl, sym, ◌∙◌, ap, subst, lit≤, arith, add-zero, ltb-true, ltb-false}
use Rattle.vm_field.specs.Field.{felt_sub}
use Rattle.vm_field.specs.Limits.{number_of_constants}
use Rattle.vm_field.specs.Machine.{IsWellFormed, State}
use Rattle.vm_ops.specs.declared.cause.Cause.{Cause}
use Rattle.vm_ops.specs.Runs.{run}
use Rattle.vm_ops.specs.Step.{left_cells}
use Rattle.vm_ops.specs.Values.{bit_of, computed, trap_of}
use Rattle.masm_expand.specs.Expansion.{expansion, front, movdn, movup, swap}
use Rattle.masm_effects.specs.Effects.{difference, leaving, listed, top}
use Rattle.masm_effects.specs.HasEffect.{HasEffect, affected}
use Rattle.masm_effects.proofs.Alikes.{alike-back, alike-listed}
use Rattle.masm_effects.proofs.Meeting.{has-effect}
use Rattle.masm_effects.proofs.Quiets.{acts, first-is}
use Rattle.masm_effects.proofs.Running.{Does, WindowShows, run-does}
use Rattle.masm_effects.proofs.Sized.{IsSized, sized-of}
use Rattle.masm_effects.proofs.Tests.{at-most, free-of, not-is}
use Rattle.masm_effects.proofs.Windows.{fits, last, trap, window}
use Rattle.std_u64.specs.declared.names.U64Procedure.{U64Procedure}
use Rattle.std_u64.specs.declared.names.U64Procedure.TheVariants as procedures
use Rattle.std_u64.specs.Lists.{operations}
use Rattle.std_u64.specs.Outcomes.{ends, is_out_of_range, is_u64, limbs, number, number_a, number_b, outcome, results, trap_on, wrapped_difference}
use Rattle.std_u64.proofs.Arithmetic.{Differences, Limbs, Sums, differences, equal-bits, high_difference, limbs-of, sums}
use Rattle.std_u64.proofs.Traps.{borrow-asserted, borrow-cell, borrow-negated, borrow_cell, carry-asserted, difference-traps, equal-traps, exchanged-wide, free-parts, sum-traps}

-- the cells on top of those that lie below both numbers
abbrev above : State → List ℕ → List ℕ
above s leaves = leaves ++ drop 4 (listed 24 0 s.core.stack)

-- the list of a procedure, run on the window of a state, comes to what the procedure does
record Comes (constants : List ℕ) (s : State) (procedure : U64Procedure) : Type 0 where
  room : fits constants s.core (operations procedure) (window s) ≡ true
  trap : trap constants s.core (operations procedure) (window s) ≡ trap_on procedure s
  fmp : (last constants s.core (operations procedure) (window s)).fmp ≡ s.core.fmp
  memory : (last constants s.core (operations procedure) (window s)).memory ≡ s.core.memory
  tape : (last constants s.core (operations procedure) (window s)).tape ≡ s.tape
  cells : trap_on procedure s ≡ None → (last constants s.core (operations procedure) (window s)).cells
      ≡ above s (results procedure (number_b s) (number_a s))

limbs-in : (s : State) (procedure : U64Procedure) → trap_on procedure s ≡ None → Limbs (top s 0) (top s 1) (top s 2) (top s 3)
unfolding trap_on
limbs-in s procedure free =
    limbs-of (top s 0) (top s 1) (top s 2) (top s 3) (free-parts _ (is_out_of_range procedure (number_b s) (number_a s)) free).0

is-in-range : (s : State) (procedure : U64Procedure) → trap_on procedure s ≡ None
    → is_out_of_range procedure (number_b s) (number_a s) ≡ false
unfolding trap_on
is-in-range s procedure free = (free-parts _ (is_out_of_range procedure (number_b s) (number_a s)) free).1

sums-in : (s : State) → Sums (top s 0) (top s 1) (top s 2) (top s 3)
sums-in s = sums (top s 0) (top s 1) (top s 2) (top s 3)

differences-in : (s : State) (procedure : U64Procedure) → trap_on procedure s ≡ None
    → Differences (top s 0) (top s 1) (top s 2) (top s 3)
differences-in s procedure free = differences (top s 0) (top s 1) (top s 2) (top s 3) (limbs-in s procedure free)

exchanged-in : (s : State) (procedure : U64Procedure) → trap_on procedure s ≡ None → Limbs (top s 2) (top s 3) (top s 0) (top s 1)
exchanged-in s procedure free =
    let small = limbs-in s procedure free in
    record { high_b = small.high_a; low_b = small.low_a; high_a = small.high_b; low_a = small.low_b }

two : (x y x' y' : ℕ) → x ≡ x' → y ≡ y' → x ∷ y ∷ [] ≡ x' ∷ y' ∷ []
two x y x' y' e f = cc

three : (x y z x' y' z' : ℕ) → x ≡ x' → y ≡ y' → z ≡ z' → x ∷ y ∷ z ∷ [] ≡ x' ∷ y' ∷ z' ∷ []
three x y z x' y' z' e f g = cc

same-sum : (total : ℕ) → not (is_u64 total) ≡ false → total % 2 ^ 64 ≡ total
same-sum total inside = let less = ltb-true total (2 ^ 64) (free-of (is_u64 total) inside) in omega arith

checked-sum : (b1 b0 a1 a0 : ℕ) → not (is_u64 (number a1 a0 + number b1 b0)) ≡ false
    → ((b0 + a0) / 2 ^ 32 + a1 + b1) % 2 ^ 32 ∷ (b0 + a0) % 2 ^ 32 ∷ [] ≡ limbs (number a1 a0 + number b1 b0)
checked-sum b1 b0 a1 a0 inside =
    two _ _ _ _ (sums b1 b0 a1 a0).high (sums b1 b0 a1 a0).low ∙ ap limbs (same-sum (number a1 a0 + number b1 b0) inside)

same-difference : (b a : ℕ) → a < 2 ^ 64 → nat_lt a b ≡ false → wrapped_difference b a ≡ a - b
same-difference b a small inside = let most = ltb-false a b inside in omega arith

number-small : (b1 b0 a1 a0 : ℕ) → Limbs b1 b0 a1 a0 → number a1 a0 < 2 ^ 64
number-small b1 b0 a1 a0 small =
    let high = small.high_a in
    let low = small.low_a in
    omega arith

checked-difference : (b1 b0 a1 a0 : ℕ) → Limbs b1 b0 a1 a0 → nat_lt (number a1 a0) (number b1 b0) ≡ false
    → high_difference b1 b0 a1 a0 ∷ difference a0 b0 ∷ [] ≡ limbs (number a1 a0 - number b1 b0)
checked-difference b1 b0 a1 a0 small inside =
    two _ _ _ _ (differences b1 b0 a1 a0 small).high (differences b1 b0 a1 a0 small).low
    ∙ ap limbs (same-difference (number b1 b0) (number a1 a0) (number-small b1 b0 a1 a0 small) inside)

negated : (b1 b0 a1 a0 : ℕ) → Limbs b1 b0 a1 a0
    → felt_sub 1 (borrow_cell b1 b0 a1 a0) ≡ bit_of (nat_le (number b1 b0) (number a1 a0))
negated b1 b0 a1 a0 small =
    ap (felt_sub 1) (borrow-cell b1 b0 a1 a0 small) ∙ (not-is (nat_lt (number a1 a0) (number b1 b0))
    ∙ ap bit_of (at-most (number b1 b0) (number a1 a0)))

overflowing_add : (constants : List ℕ) (s : State) → Comes constants s procedures.OverflowingAdd
unfolding operations expansion front movup movdn swap trap_on last trap fits left_cells computed trap_of
overflowing_add constants s = record {
  room = refl;
  trap = sum-traps (top s 0) (top s 1) (top s 2) (top s 3) _ _ (λ small. refl);
  fmp = refl;
  memory = refl;
  tape = refl;
  cells = λ free. ap (above s) (three _ _ _ _ _ _ (sums-in s).carry (sums-in s).high (sums-in s).low);
}

wrapping_add : (constants : List ℕ) (s : State) → Comes constants s procedures.WrappingAdd
unfolding operations expansion front movup movdn swap trap_on last trap fits left_cells computed trap_of
wrapping_add constants s = record {
  room = refl;
  trap = sum-traps (top s 0) (top s 1) (top s 2) (top s 3) _ _ (λ small. refl);
  fmp = refl;
  memory = refl;
  tape = refl;
  cells = λ free. ap (above s) (two _ _ _ _ (sums-in s).high (sums-in s).low);
}

checked_add : (constants : List ℕ) (s : State) → Comes constants s procedures.CheckedAdd
unfolding operations expansion front movup movdn swap trap_on last trap fits left_cells computed trap_of
checked_add constants s = record {
  room = refl;
  trap = sum-traps (top s 0) (top s 1) (top s 2) (top s 3) _ _ (λ small. carry-asserted (top s 0) (top s 1) (top s 2) (top s 3) _ (sums-in s).carry);
  fmp = refl;
  memory = refl;
  tape = refl;
  cells = λ free. ap (above s) (checked-sum (top s 0) (top s 1) (top s 2) (top s 3) (is-in-range s procedures.CheckedAdd free));
}

overflowing_sub : (constants : List ℕ) (s : State) → Comes constants s procedures.OverflowingSub
unfolding operations expansion front movup movdn swap trap_on last trap fits left_cells computed trap_of
overflowing_sub constants s = record {
  room = refl;
  trap = difference-traps (top s 0) (top s 1) (top s 2) (top s 3) _ _ (λ small. refl);
  fmp = refl;
  memory = refl;
  tape = refl;
  cells = λ free. ap (above s) (three _ _ _ _ _ _ (borrow-cell (top s 0) (top s 1) (top s 2) (top s 3) (limbs-in s procedures.OverflowingSub free))
      (differences-in s procedures.OverflowingSub free).high (differences-in s procedures.OverflowingSub free).low);
}

wrapping_sub : (constants : List ℕ) (s : State) → Comes constants s procedures.WrappingSub
unfolding operations expansion front movup movdn swap trap_on last trap fits left_cells computed trap_of
wrapping_sub constants s = record {
  room = refl;
  trap = difference-traps (top s 0) (top s 1) (top s 2) (top s 3) _ _ (λ small. refl);
  fmp = refl;
  memory = refl;
  tape = refl;
  cells = λ free. ap (above s) (two _ _ _ _ (differences-in s procedures.WrappingSub free).high (differences-in s procedures.WrappingSub free).low);
}

checked_sub : (constants : List ℕ) (s : State) → Comes constants s procedures.CheckedSub
unfolding operations expansion front movup movdn swap trap_on last trap fits left_cells computed trap_of
checked_sub constants s = record {
  room = refl;
  trap = difference-traps (top s 0) (top s 1) (top s 2) (top s 3) _ _ (λ small. borrow-asserted (top s 0) (top s 1) (top s 2) (top s 3) small);
  fmp = refl;
  memory = refl;
  tape = refl;
  cells = λ free. ap (above s) (checked-difference (top s 0) (top s 1) (top s 2) (top s 3) (limbs-in s procedures.CheckedSub free)
      (is-in-range s procedures.CheckedSub free));
}

lt : (constants : List ℕ) (s : State) → Comes constants s procedures.Lt
unfolding operations expansion front movup movdn swap trap_on last trap fits left_cells computed trap_of
lt constants s = record {
  room = refl;
  trap = difference-traps (top s 0) (top s 1) (top s 2) (top s 3) _ _ (λ small. refl);
  fmp = refl;
  memory = refl;
  tape = refl;
  cells = λ free. ap (above s) (first-is _ _ [] (borrow-cell (top s 0) (top s 1) (top s 2) (top s 3) (limbs-in s procedures.Lt free)));
}

gte : (constants : List ℕ) (s : State) → Comes constants s procedures.Gte
unfolding operations expansion front movup movdn swap trap_on last trap fits left_cells computed trap_of
gte constants s = record {
  room = refl;
  trap = difference-traps (top s 0) (top s 1) (top s 2) (top s 3) _ _ (λ small. borrow-negated (top s 0) (top s 1) (top s 2) (top s 3) small);
  fmp = refl;
  memory = refl;
  tape = refl;
  cells = λ free. ap (above s) (first-is _ _ [] (negated (top s 0) (top s 1) (top s 2) (top s 3) (limbs-in s procedures.Gte free)));
}

gt : (constants : List ℕ) (s : State) → Comes constants s procedures.Gt
unfolding operations expansion front movup movdn swap trap_on last trap fits left_cells computed trap_of
gt constants s = record {
  room = refl;
  trap = difference-traps (top s 2) (top s 3) (top s 0) (top s 1) _ None (λ small. refl) ∙ exchanged-wide (top s 0) (top s 1) (top s 2) (top s 3) None;
  fmp = refl;
  memory = refl;
  tape = refl;
  cells = λ free. ap (above s) (first-is _ _ [] (borrow-cell (top s 2) (top s 3) (top s 0) (top s 1) (exchanged-in s procedures.Gt free)));
}

lte : (constants : List ℕ) (s : State) → Comes constants s procedures.Lte
unfolding operations expansion front movup movdn swap trap_on last trap fits left_cells computed trap_of
lte constants s = record {
  room = refl;
  trap = difference-traps (top s 2) (top s 3) (top s 0) (top s 1) _ None (λ small. borrow-negated (top s 2) (top s 3) (top s 0) (top s 1) small)
      ∙ exchanged-wide (top s 0) (top s 1) (top s 2) (top s 3) None;
  fmp = refl;
  memory = refl;
  tape = refl;
  cells = λ free. ap (above s) (first-is _ _ [] (negated (top s 2) (top s 3) (top s 0) (top s 1) (exchanged-in s procedures.Lte free)));
}

eq : (constants : List ℕ) (s : State) → Comes constants s procedures.Eq
unfolding operations expansion front movup movdn swap trap_on last trap fits left_cells computed trap_of
eq constants s = record {
  room = refl;
  trap = equal-traps (top s 0) (top s 1) (top s 2) (top s 3);
  fmp = refl;
  memory = refl;
  tape = refl;
  cells = λ free. ap (above s) (first-is _ _ [] (equal-bits (top s 0) (top s 1) (top s 2) (top s 3) (limbs-in s procedures.Eq free)));
}

comes : (constants : List ℕ) (s : State) (procedure : U64Procedure) → Comes constants s procedure
comes constants s procedures.OverflowingAdd = overflowing_add constants s
comes constants s procedures.WrappingAdd = wrapping_add constants s
comes constants s procedures.CheckedAdd = checked_add constants s
comes constants s procedures.OverflowingSub = overflowing_sub constants s
comes constants s procedures.WrappingSub = wrapping_sub constants s
comes constants s procedures.CheckedSub = checked_sub constants s
comes constants s procedures.Lt = lt constants s
comes constants s procedures.Gte = gte constants s
comes constants s procedures.Gt = gt constants s
comes constants s procedures.Lte = lte constants s
comes constants s procedures.Eq = eq constants s

shows-start : (s : State) → 16 ≤ length s.core.stack → WindowShows s.core (drop 24 s.core.stack) (window s) s
shows-start s deep = record {
  clock = sym (add-zero s.core.clock);
  context = refl;
  fmp = refl;
  in_syscall = refl;
  digest = refl;
  nesting = refl;
  stack = alike-back _ _ (alike-listed 24 s.core.stack);
  depth = omega arith;
  memory = refl;
  tape = refl;
}

-- without a trap the list has the effect
goes : (constants : List ℕ) (s : State) (procedure : U64Procedure) → length constants ≡ number_of_constants → IsSized s.core
    → Comes constants s procedure → trap_on procedure s ≡ None
    → run constants (operations procedure) s
    ≡ Ok (affected (leaving false 4 (results procedure (number_b s) (number_a s))) (length (operations procedure)) s)
unfolding HasEffect
goes constants s procedure count sized does free =
    has-effect constants (operations procedure) s (leaving false 4 (results procedure (number_b s) (number_a s))) count sized
    (acts constants (operations procedure) s false 4 (results procedure (number_b s) (number_a s)) (window s) (lit≤ tt) does.room
    (ap is_some (does.trap ∙ free)) does.fmp does.memory does.tape (λ e. does.cells free))

-- with a trap it comes to it
stops : (constants : List ℕ) (s : State) (procedure : U64Procedure) (cause : Cause) → length constants ≡ number_of_constants
    → IsSized s.core → Comes constants s procedure → trap_on procedure s ≡ Some cause
    → run constants (operations procedure) s ≡ Err cause
stops constants s procedure cause count sized does traps =
    let P : Option Cause → Type 0 = λ o. Does o (run constants (operations procedure) s) s.core (drop 24 s.core.stack)
    (last constants s.core (operations procedure) (window s)) in
    subst P (does.trap ∙ traps)
    (run-does constants s.core (drop 24 s.core.stack) (operations procedure) (window s) s count sized.stack does.room sized
    (shows-start s sized.stack))

ends-so : (own : Option Cause) (r : Result State Cause) (t : State) → (own ≡ None → r ≡ Ok t)
    → ((cause : Cause) → own ≡ Some cause → r ≡ Err cause) → r ≡ ends own t
ends-so None r t goes stops = goes refl
ends-so (Some cause) r t goes stops = stops cause refl

pub outcomes : (constants : List ℕ) (procedure : U64Procedure) (s : State) → length constants ≡ number_of_constants → IsWellFormed s
    → run constants (operations procedure) s ≡ outcome procedure s
unfolding outcome
outcomes constants procedure s count well =
    ends-so (trap_on procedure s) (run constants (operations procedure) s) _
    (goes constants s procedure count (sized-of s.core well.core) (comes constants s procedure))
    (λ cause. stops constants s procedure cause count (sized-of s.core well.core) (comes constants s procedure))
