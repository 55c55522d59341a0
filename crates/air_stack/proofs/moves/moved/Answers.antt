use Rattle.std.proofs.Common.{◌∙◌}
use Rattle.air_stack.proofs.TermLemmas.{moved_at}
use Rattle.air_stack.proofs.moves.moved.Goals as goal

pub returns-then-j-sources : goal.returns-then-j-sources
returns-then-j-sources g c =
    c.s.ensures.is
    ∙ moved_at c.args.sources.now (g.V.View.cells c.args.x.now) c.args.j c.requires c.if-j-sources.true
