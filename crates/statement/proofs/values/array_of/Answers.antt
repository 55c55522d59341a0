use Rattle.std.proofs.Common.{◌<◌, arith}
use Rattle.std.proofs.lemmas.Grind.{common_steps}
use Rattle.std.proofs.lemmas.List.Elements.{All-more}
use Rattle.vm_field.specs.Field.{prime}
use Rattle.statement.proofs.values.array_of.Goals as goal

pub loop-x-preserved : goal.loop-x-preserved
loop-x-preserved c = record {
  values = grind (arith, common_steps);
  below =
      All-more (λ x. x < prime) c.args.elements.now c.loop-x.x-index c.x-item.result c.loop-x-test.true c.loop-x.invariant.below (omega arith);
}
