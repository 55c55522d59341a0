-- A tuple of one element is that element's.
use Rattle.std.proofs.Common.{◌+◌, ◌<◌, ◌^◌, sym, subst}
use Rattle.bus_kit.specs.Counting.{on_side, IsAdded}
use Rattle.bus_kit.specs.Tallies.{values_tallied}
use Rattle.bus_kit.proofs.SingleLemmas.{single}
use Rattle.bus_kit.proofs.singles.ValueTallyCount1.add.Goals as goal

pub add_element-requires : goal.add_element-requires
add_element-requires c =
    let same = single c.args.tuple.now c.index-tuple-0.result c.told-tuple in
    subst (λ u. on_side c.args.side (values_tallied c.args.self.now u) + c.args.count < 2 ^ 128) (sym same) c.requires

pub returns : goal.returns
returns c =
    let same = single c.args.tuple.now c.index-tuple-0.result c.told-tuple in
    subst (λ u. IsAdded c.args.side u c.args.count (values_tallied c.args.self.now) (values_tallied c.add_element.new.self) c.add_element.result) same
    c.add_element.ensures
