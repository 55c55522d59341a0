-- The new map has the new counts at the tuple, and elsewhere what it had.
use Rattle.std.proofs.Common.{ap, ◌∙◌, unwrap_or, arith}
use Rattle.std.proofs.lemmas.Grind.{common_steps}
use Rattle.std.specs.HashMap.Entry.{map_with_value}
use Rattle.bus_kit.specs.Counting.{summed}
use Rattle.bus_kit.specs.Widths.{tallied}
use Rattle.bus_kit.proofs.AbsorbLemmas.{absorbed_at}
use Rattle.bus_kit.proofs.WidthLemmas.{none_absorbed}
use Rattle.bus_kit.proofs.tally.Tally.absorb_tuple.Goals as goal

-- a tuple of another width has none, as before
pub invariant_of-self-2 : goal.invariant_of-self-2
unfolding tallied
invariant_of-self-2 g c = record {
  few = c.args.self.now.few;
  wide = λ u apart.
      let had = ap (λ o. unwrap_or o (0, 0)) c.in_ok-entry.ensures.value in
      let is = ap (λ k. summed k c.args.more) (c.or_insert-both.ensures.value ∙ had) in
      let new = summed c.or_insert-both.result.now c.args.more in
      let now =
      absorbed_at c.args.self.now.both (map_with_value c.in_ok-entry.entry new) c.args.tuple c.args.more
      new u ((c.in_ok-entry.ensures.update.0 new).0 u) is in
      let none = none_absorbed c.args.tuple u c.args.more g.row.N _ _ c.known_width.ensures apart (c.args.self.now.wide u apart) now in
      grind (arith, common_steps);
}

pub returns-clause-ok : goal.returns-clause-ok
unfolding tallied
returns-clause-ok g c = λ u.
    let had = ap (λ o. unwrap_or o (0, 0)) c.in_ok-entry.ensures.value in
    let is = ap (λ k. summed k c.args.more) (c.or_insert-both.ensures.value ∙ had) in
    let new = summed c.or_insert-both.result.now c.args.more in
    let now =
    absorbed_at c.args.self.now.both (map_with_value c.in_ok-entry.entry new) c.args.tuple c.args.more
    new u ((c.in_ok-entry.ensures.update.0 new).0 u) is in
    grind (arith, common_steps)
