-- The new map has the new counts at the tuple, and elsewhere what it had.
use Rattle.std.proofs.Common.{ap, ◌∙◌, unwrap_or, arith}
use Rattle.std.proofs.lemmas.Grind.{common_steps}
use Rattle.std.specs.HashMap.Entry.{map_with_value}
use Rattle.bus_kit.specs.Counting.{more_on}
use Rattle.bus_kit.specs.Widths.{tallied}
use Rattle.bus_kit.proofs.PairLemmas.{added_at}
use Rattle.bus_kit.proofs.WidthLemmas.{none_added}
use Rattle.bus_kit.proofs.counting.TallyCount.add.Goals as goal

-- a tuple of another width has none, as before
pub invariant_of-self-2 : goal.invariant_of-self-2
unfolding tallied
invariant_of-self-2 g c = record {
  few = c.args.self.now.few;
  wide = λ u apart.
      let had = ap (λ o. unwrap_or o (0, 0)) c.in_ok-entry.ensures.value in
      let is = c.added.ensures ∙ ap (more_on c.args.side c.args.count) (c.or_insert-both.ensures.value ∙ had) in
      let now =
      added_at c.args.self.now.both (map_with_value c.in_ok-entry.entry c.added.result) c.args.side c.args.tuple.now c.args.count
      c.added.result u ((c.in_ok-entry.ensures.update.0 c.added.result).0 u) is in
      let none = none_added c.args.side c.args.tuple.now u c.args.count g.row.N _ _ c.told-tuple apart (c.args.self.now.wide u apart) now in
      grind (arith, common_steps);
}

pub returns : goal.returns
unfolding tallied
returns g c = λ u.
    let had = ap (λ o. unwrap_or o (0, 0)) c.in_ok-entry.ensures.value in
    let is = c.added.ensures ∙ ap (more_on c.args.side c.args.count) (c.or_insert-both.ensures.value ∙ had) in
    let now =
    added_at c.args.self.now.both (map_with_value c.in_ok-entry.entry c.added.result) c.args.side c.args.tuple.now c.args.count
    c.added.result u ((c.in_ok-entry.ensures.update.0 c.added.result).0 u) is in
    grind (arith, common_steps)
