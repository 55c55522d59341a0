-- What the procedures do to a state, in terms of the numbers of 64 bits that lie on its stack.
use Rattle.std.specs.Prelude.{ℕ, ◌+◌, ◌-◌, ◌*◌, ◌/◌, ◌%◌, ◌^◌, Bool, false, ◌==◌, ◌&&◌, not, nat_lt, nat_le, if◌then◌else◌, List, [], ◌∷◌, length, Option, Some, None, Result, Ok, Err}
use Rattle.vm_field.specs.Machine.{State}
use Rattle.vm_ops.specs.declared.cause.Cause.{Cause}
use Rattle.vm_ops.specs.declared.cause.Cause.TheVariants as causes
use Rattle.vm_ops.specs.Values.{bit_of, is_u32}
use Rattle.masm_effects.specs.Effects.{leaving, top}
use Rattle.masm_effects.specs.HasEffect.{affected}
use Rattle.std_u64.specs.declared.names.U64Procedure.{U64Procedure}
use Rattle.std_u64.specs.declared.names.U64Procedure.TheVariants as procedures
use Rattle.std_u64.specs.Lists.{operations}

-- A number of 64 bits lies on the stack as two limbs below 2^32, the high one above the low one.
abbrev pub number : ℕ → ℕ → ℕ
number high low = high * 2 ^ 32 + low

abbrev pub limbs : ℕ → List ℕ
limbs n = n / 2 ^ 32 ∷ n % 2 ^ 32 ∷ []

-- b is on top of a
abbrev pub number_b : State → ℕ
number_b s = number (top s 0) (top s 1)

abbrev pub number_a : State → ℕ
number_a s = number (top s 2) (top s 3)

-- whether the four limbs are below 2^32
abbrev pub are_limbs : State → Bool
are_limbs s = is_u32 (top s 0) && is_u32 (top s 1) && is_u32 (top s 2) && is_u32 (top s 3)

abbrev pub is_u64 : ℕ → Bool
is_u64 n = nat_lt n (2 ^ 64)

-- whether the procedure tests its result and finds it out of 0 to 2^64 - 1
abbrev pub is_out_of_range : U64Procedure → ℕ → ℕ → Bool
is_out_of_range procedures.CheckedAdd b a = not (is_u64 (a + b))
is_out_of_range procedures.CheckedSub b a = nat_lt a b
is_out_of_range procedure b a = false

-- a - b modulo 2^64
abbrev pub wrapped_difference : ℕ → ℕ → ℕ
wrapped_difference b a = (a + (2 ^ 64 - b)) % 2 ^ 64

-- the cells that replace b and a
abbrev pub results : U64Procedure → ℕ → ℕ → List ℕ
results procedures.OverflowingAdd b a = (a + b) / 2 ^ 64 ∷ limbs ((a + b) % 2 ^ 64)
results procedures.WrappingAdd b a = limbs ((a + b) % 2 ^ 64)
results procedures.CheckedAdd b a = limbs (a + b)
results procedures.OverflowingSub b a = bit_of (nat_lt a b) ∷ limbs (wrapped_difference b a)
results procedures.WrappingSub b a = limbs (wrapped_difference b a)
results procedures.CheckedSub b a = limbs (a - b)
results procedures.Lt b a = bit_of (nat_lt a b) ∷ []
results procedures.Gte b a = bit_of (nat_le b a) ∷ []
results procedures.Gt b a = bit_of (nat_lt b a) ∷ []
results procedures.Lte b a = bit_of (nat_le a b) ∷ []
results procedures.Eq b a = bit_of (a == b) ∷ []

-- why the procedure traps, if it does
unfoldable pub trap_on : U64Procedure → State → Option Cause
trap_on procedure s =
    if not (are_limbs s) then Some causes.NotU32
    else (if is_out_of_range procedure (number_b s) (number_a s) then Some causes.AssertFailed else None)

-- the trap, or the state where there is none
abbrev pub ends : Option Cause → State → Result State Cause
ends None s = Ok s
ends (Some cause) s = Err cause

-- What the procedure comes to: its trap, or the state in which the results replace the two numbers. All else of the state
-- stays but for the clock, which counts the operations.
unfoldable pub outcome : U64Procedure → State → Result State Cause
outcome procedure s =
    ends (trap_on procedure s)
    (affected (leaving false 4 (results procedure (number_b s) (number_a s))) (length (operations procedure)) s)
