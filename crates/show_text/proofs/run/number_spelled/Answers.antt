use Rattle.std.proofs.Common.{◌∙◌}
use Rattle.air_kit.proofs.DecodeLemmas.{spelled_by}
use Rattle.show_text.proofs.run.number_spelled.Goals as goal

pub returns : goal.returns
returns g c =
    spelled_by (g.V.View.cells c.args.row.now) _ _ _ _ _ _ _
    (c.digit-b0.ensures.is ∙ c.b0.ensures.is) (c.digit-b1.ensures.is ∙ c.b1.ensures.is) (c.digit-b2.ensures.is ∙ c.b2.ensures.is)
    (c.digit-b3.ensures.is ∙ c.b3.ensures.is) (c.digit-b4.ensures.is ∙ c.b4.ensures.is) (c.digit-b5.ensures.is ∙ c.b5.ensures.is)
    (c.digit-b6.ensures.is ∙ c.b6.ensures.is)
