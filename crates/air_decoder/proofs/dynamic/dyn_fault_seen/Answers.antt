use Rattle.std.proofs.Common.{◌≡◌, subst, sym}
use Rattle.vm_ops.specs.declared.op.Op.TheVariants as ops
use Rattle.air_kit.specs.Flags.{flag}
use Rattle.air_kit.specs.Rows.{spot_at}
use Rattle.air_decoder.proofs.DynLemmas.{no_dyn_fault}
use Rattle.air_decoder.proofs.dynamic.dyn_fault_seen.Goals as goal

pub returns-then-is_not_dynamic : goal.returns-then-is_not_dynamic
returns-then-is_not_dynamic g c =
    sym (no_dyn_fault (spot_at g.V.View.cells c.args.place.now)
    (subst (λ row. flag (g.V.View.cells row) ops.Dyn ≡ 0) c.requires (c.is_not_dynamic.ensures c.if-is_not_dynamic.true)))
