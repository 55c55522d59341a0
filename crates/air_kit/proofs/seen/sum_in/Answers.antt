use Rattle.std.proofs.Common.{◌≡◌, ◌-◌, arith, cond, drop, refl, ap, ◌∙◌}
use Rattle.vm_ops.specs.Codes.{every_op}
use Rattle.air_kit.specs.Flags.{flag, flags_of, sum_of}
use Rattle.air_kit.specs.Sets.{passes_of}
use Rattle.air_kit.proofs.DecodeLemmas.{no_code, sum_step}
use Rattle.air_kit.proofs.seen.sum_in.Goals as goal

pub loop-code-init : goal.loop-code-init
unfolding sum_of
loop-code-init g c = rw no_code refl

pub loop-code-preserved : goal.loop-code-preserved
loop-code-preserved g c =
    c.add-total.ensures
    ∙ sum_step (λ op. cond (passes_of c.args.set op) (flag (g.V.View.cells c.args.row.now) op) 0) (c.loop-code.code - 1) c.loop-code.code _ _
    (let h = c.loop-code-test.true in omega (arith, h))
    (let h = c.loop-code.auto.code in let k = c.loop-code-test.true in omega (arith, h, k)) c.flag_at.ensures
    c.loop-code.invariant

pub returns : goal.returns
unfolding flags_of
returns g c =
    let zero_is : c.loop-code.code ≡ 0 = let h = c.loop-code-test.false in omega (arith, h) in
    c.loop-code.invariant ∙ ap (λ k. sum_of (drop k every_op)
    (λ op. cond (passes_of c.args.set op) (flag (g.V.View.cells c.args.row.now) op) 0)) zero_is
