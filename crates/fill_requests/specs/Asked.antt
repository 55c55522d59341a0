-- What an event of a kind asks of the hasher, where its span has these later batches.
use Rattle.std.specs.Prelude.{ℕ, List, [], ◌∷◌}
use Rattle.vm_ops.specs.Codes.{code_of}
use Rattle.vm_ops.specs.declared.op.Op.TheVariants as ops
use Rattle.air_kit.specs.declared.requests.Perm.{Perm}
use Rattle.machine_cycles.specs.declared.event.Event.{Event}
use Rattle.vm_ops.specs.declared.kind.Kind.TheVariants as kinds
use Rattle.vm_ops.specs.declared.kind.Kind.{Kind}
use Rattle.complete_rows.specs.RunRequests.{hash_perms, perms_by_op}

abbrev pub perms_as : Kind → List ℕ → Event → List (List ℕ) → List Perm
perms_as kinds.Ordinary constants e batches = perms_by_op e.op e.before
perms_as kinds.Join constants e batches = hash_perms constants (code_of ops.Join) (e.hash ∷ [])
perms_as kinds.Split constants e batches = hash_perms constants (code_of ops.Split) (e.hash ∷ [])
perms_as kinds.Loop constants e batches = hash_perms constants (code_of ops.Loop) (e.hash ∷ [])
perms_as kinds.Span constants e batches = hash_perms constants 0 (e.hash ∷ batches)
perms_as kinds.Call constants e batches = hash_perms constants (code_of ops.Call) (e.hash ∷ [])
perms_as kinds.Syscall constants e batches = hash_perms constants (code_of ops.Syscall) (e.hash ∷ [])
perms_as kinds.Dyn constants e batches = hash_perms constants (code_of ops.Dyn) (e.hash ∷ [])
perms_as kinds.End constants e batches = []
perms_as kinds.Repeat constants e batches = []
perms_as kinds.Respan constants e batches = []
perms_as kinds.Halt constants e batches = []
