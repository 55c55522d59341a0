-- The tuple was counted.
use Rattle.std.proofs.Common.{◌^◌, [], ◌∷◌, OnOk, subst, sym, ◌∙◌, arith}
use Rattle.bus_kit.specs.Adding.{IsCounted}
use Rattle.bus_kit.proofs.AddingLemmas.{added_given, none_given}
use Rattle.bus_kit.proofs.adding.give_times.Goals as goal

pub returns-then-count-eq0 : goal.returns-then-count-eq0
returns-then-count-eq0 g c =
    none_given (2 ^ 64) (g.T.Count.both c.args.tally.now) (record { tuple = c.args.tuple.now; count = c.args.count })
    (sym c.value-count.ensures.is ∙ c.if-count-eq0.true)

pub add-requires : goal.add-requires
add-requires g c = let room = c.requires.room c.args.tuple.now in let below = c.value-count.ensures.below in omega arith

pub returns : goal.returns
returns g c =
    let below = c.value-count.ensures.below in
    subst (λ n. OnOk c.add.result (IsCounted (2 ^ 64) (g.T.Count.both c.args.tally.now) (g.T.Count.both c.add.new.self) []
    (record { tuple = c.args.tuple.now; count = n } ∷ []))) c.value-count.ensures.is
    (added_given (2 ^ 64) (g.T.Count.both c.args.tally.now) (g.T.Count.both c.add.new.self)
    (record { tuple = c.args.tuple.now; count = c.value-count.result }) c.add.result (omega arith) c.add.ensures)
