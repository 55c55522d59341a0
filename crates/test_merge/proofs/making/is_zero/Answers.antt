use Rattle.std.proofs.Common.{sym, ◌∙◌}
use lib.Pointwise.{bytes_decides}
use Rattle.test_merge.proofs.making.is_zero.Goals as goal

pub returns : goal.returns
returns c = (
  λ is. sym c.digest_of.ensures ∙ sym c.elements.ensures ∙ (bytes_decides _ _).0 (sym c.eq.ensures ∙ is),
  λ same. c.eq.ensures ∙ (bytes_decides _ _).1 (c.elements.ensures ∙ c.digest_of.ensures ∙ same),
)
