use Rattle.std.proofs.Common.{sym, ◌∙◌}
use lib.Pointwise.{bytes_decides}
use Rattle.tree_merge.proofs.blocks.same_block.Goals as goal

pub returns : goal.returns
returns g c = record {
  is = (
    λ is. sym c.first_block.ensures ∙ (bytes_decides _ _).0 (sym c.eq.ensures ∙ is) ∙ c.first_block-2.ensures,
    λ same. c.eq.ensures ∙ (bytes_decides _ _).1 (c.first_block.ensures ∙ same ∙ sym c.first_block-2.ensures),
  );
}
