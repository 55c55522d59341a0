use Rattle.std.proofs.Common.{false, sym, ◌∙◌}
use Rattle.std.proofs.lemmas.List.{get_or_read}
use Rattle.graphs.proofs.WalkLemmas.{AreMarks-visit, AddsPlaces-push}
use Rattle.graphs.proofs.reach.Walk.visit.Goals as goal

pub returns-clause-marks : goal.returns-clause-marks
returns-clause-marks c =
    rw c.in_ok-push.ensures.items (AreMarks-visit _ _ _ c.requires.marks c.requires.within
    (sym (get_or_read c.args.self.now.marks.items c.args.place _ c.requires.within c.index.ensures false) ∙ c.if-index.false))

pub returns-clause-adds : goal.returns-clause-adds
returns-clause-adds c = rw c.in_ok-push.ensures.items (AddsPlaces-push _ _)
