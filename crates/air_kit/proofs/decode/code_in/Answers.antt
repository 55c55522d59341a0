-- The bits spell the number.
use Rattle.std.proofs.Common.{◌∙◌, lit<}
use Rattle.air_kit.proofs.DecodeLemmas.{spelled_by}
use Rattle.air_kit.proofs.decode.code_in.Goals as goal

pub bit-b0-requires : goal.bit-b0-requires
bit-b0-requires g c = rw c.b0.ensures.is (c.requires 0 (lit< tt))

pub bit-b1-requires : goal.bit-b1-requires
bit-b1-requires g c = rw c.b1.ensures.is (c.requires 1 (lit< tt))

pub bit-b2-requires : goal.bit-b2-requires
bit-b2-requires g c = rw c.b2.ensures.is (c.requires 2 (lit< tt))

pub bit-b3-requires : goal.bit-b3-requires
bit-b3-requires g c = rw c.b3.ensures.is (c.requires 3 (lit< tt))

pub bit-b4-requires : goal.bit-b4-requires
bit-b4-requires g c = rw c.b4.ensures.is (c.requires 4 (lit< tt))

pub bit-b5-requires : goal.bit-b5-requires
bit-b5-requires g c = rw c.b5.ensures.is (c.requires 5 (lit< tt))

pub bit-b6-requires : goal.bit-b6-requires
bit-b6-requires g c = rw c.b6.ensures.is (c.requires 6 (lit< tt))

pub returns : goal.returns
returns g c =
    spelled_by (g.V.View.cells c.args.row.now) _ _ _ _ _ _ _
    (c.bit-b0.ensures.is ∙ c.b0.ensures.is) (c.bit-b1.ensures.is ∙ c.b1.ensures.is) (c.bit-b2.ensures.is ∙ c.b2.ensures.is)
    (c.bit-b3.ensures.is ∙ c.b3.ensures.is) (c.bit-b4.ensures.is ∙ c.b4.ensures.is) (c.bit-b5.ensures.is ∙ c.b5.ensures.is)
    (c.bit-b6.ensures.is ∙ c.b6.ensures.is)
