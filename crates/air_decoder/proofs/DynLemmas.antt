-- A row of another operation has no fault among entries 148 to 151.
use Rattle.std.proofs.Common.{◌≡◌, ◌≢◌, ℕ, List, None, sym}
use Rattle.vm_field.proofs.Algebra.{felt_mul-zero_first}
use Rattle.vm_ops.specs.Codes.{code_of}
use Rattle.vm_ops.specs.declared.op.Op.{Op}
use Rattle.vm_ops.specs.declared.op.Op.TheVariants as ops
use Rattle.air_kit.specs.DynValues.{dyn_values, entry_148}
use Rattle.air_kit.specs.Flags.{HasOp, flag}
use Rattle.air_kit.specs.Places.{Spot, first_fault_of}
use Rattle.air_kit.proofs.FlagLemmas.{flag_apart}
use Rattle.air_kit.proofs.ZeroLemmas.{no_fault, zeros_family}

pub not_dynamic : (x : List ℕ) (op : Op) → HasOp x op → code_of op ≢ 80 → flag x ops.Dyn ≡ 0
not_dynamic x op has other = flag_apart x op ops.Dyn has (λ same. other (sym same))

pub no_dyn_fault : (p : Spot) → flag p.cur ops.Dyn ≡ 0 → first_fault_of 148 (dyn_values p) ≡ None
unfolding dyn_values entry_148
no_dyn_fault p off =
    no_fault 148 (dyn_values p) (zeros_family 4 _ (λ j h. felt_mul-zero_first (flag p.cur ops.Dyn) _ off))
