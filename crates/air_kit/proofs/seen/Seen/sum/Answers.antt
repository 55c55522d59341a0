use Rattle.std.proofs.Common.{cond, sym, ap, ◌∙◌}
use Rattle.air_kit.specs.Sets.{passes_of}
use Rattle.air_kit.proofs.DecodeLemmas.{sum_decoded}
use Rattle.air_kit.proofs.seen.Seen.sum.Goals as goal

pub returns-in-Some : goal.returns-in-Some
returns-in-Some g c =
    c.one_if.ensures ∙ ap (λ t. cond t 1 0) c.holds.ensures
    ∙ sym (sum_decoded (g.V.View.cells c.args.self.now.row.now) c.args.self.now.op c.in-Some.own (passes_of c.args.set)
    c.args.self.now.decoded c.in-Some.is)
