use Rattle.std.proofs.Common.{◌∙◌, ap}
use Rattle.vm_field.specs.Field.{felt_sub}
use Rattle.air_decoder.proofs.QuickLemmas.{rest_is}
use Rattle.air_decoder.proofs.quick.rest.Goals as goal

pub returns : goal.returns
returns g c =
    rest_is (g.V.View.cells c.args.x.now) c.args.op c.from_u32.result c.sub.result c.requires
    (c.from_u32.ensures ∙ (c.from.ensures ∙ c.opcode.ensures.is))
    (c.sub.ensures ∙ ap (λ a. felt_sub a c.from_u32.result) c.h0.ensures.is)
