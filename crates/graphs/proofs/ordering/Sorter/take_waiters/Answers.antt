use Rattle.std.proofs.Common.{ap, ◌∙◌, set}
use Rattle.std.proofs.lemmas.List.{map-set}
use Rattle.graphs.specs.Graph.{rows_of}
use Rattle.graphs.proofs.ordering.Sorter.take_waiters.Goals as goal

pub returns-clause-rows : goal.returns-clause-rows
returns-clause-rows c =
    map-set (λ vec. vec.items) c.args.self.now.waiting.items c.args.place c.replace.new.dest
    ∙ ap (λ row. set (rows_of c.args.self.now.waiting.items) c.args.place row) (ap (λ vec. vec.items) c.replace.ensures.after ∙ c.new.ensures.items)
