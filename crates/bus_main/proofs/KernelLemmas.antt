-- What a row asks of the kernel, by its operation.
use Rattle.std.proofs.Common.{◌≡◌, ℕ, false, cond, List, [], ◌∷◌, Result, Ok, OnOk, refl, sym, ◌∙◌, subst}
use Rattle.buses.specs.Counts.{once}
use Rattle.bus_kit.specs.Adding.{Tallied, IsCounted}
use Rattle.bus_kit.proofs.AddingLemmas.{none_counted}
use Rattle.air_kit.specs.Flags.{is_op, op_of}
use Rattle.air_kit.specs.MainTuples.{front, kernel_asked}
use Rattle.vm_ops.specs.declared.op.Op.{Op}
use Rattle.vm_ops.specs.declared.op.Op.TheVariants as ops

module _ {E : Type 0} (n : ℕ) (a b : Tallied) (r : Result (Unit {0}) E) (x y : List ℕ) where
  abbrev KernelBy : Op → Type 0
  KernelBy op = OnOk r (IsCounted n a b (cond (is_op op ops.Syscall) (once (front x) ∷ []) []) [])

  kernel_by : (op : Op) → op ≡ op_of x → KernelBy op → OnOk r (IsCounted n a b (kernel_asked x y) [])
  unfolding kernel_asked
  kernel_by op is p = subst KernelBy is p

  pub kernel_called : (op : Op) (t : List ℕ) → op ≡ op_of x → op ≡ ops.Syscall → t ≡ front x
      → OnOk r (IsCounted n a b (once t ∷ []) []) → OnOk r (IsCounted n a b (kernel_asked x y) [])
  kernel_called op t is same tuple p = kernel_by ops.Syscall (sym same ∙ is) (rw (← tuple) p)

-- The same where an operation has no tuple.
module _ (n : ℕ) (a : Tallied) (x y : List ℕ) (op : Op) (is : op ≡ op_of x) where
  pub no_call : false ≡ is_op op ops.Syscall → IsCounted n a a (kernel_asked x y) []
  no_call e0 = kernel_by {E = Unit {0}} n a a (Ok tt) x y op is (rw (← e0) (none_counted n a))

-- an operation that is not this one
pub not_syscall : (op : Op) → (op ≡ ops.Syscall → ⊥) → false ≡ is_op op ops.Syscall
not_syscall ops.Syscall h = absurd (h refl)
not_syscall op h = refl
