-- The least of the widths' answers.
use Rattle.std.proofs.Common.{ℕ, List, refl}
use Rattle.bus_kit.specs.Tallies.{at_width, steps_tallied}
use Rattle.bus_kit.specs.Widths.{tallied}
use Rattle.bus_kit.specs.declared.hasher.StepTally.{StepTally}
use Rattle.bus_kit.proofs.AnswerLemmas.{answer_last, answer_step}
use Rattle.bus_kit.proofs.hasher.StepTally.unequal.Goals as goal

-- the counts of the widths from one on
abbrev from_fourteen : StepTally → List ℕ → ℕ × ℕ
from_fourteen t = at_width 14 (tallied t.states) (λ _. (0, 0))

abbrev from_eleven : StepTally → List ℕ → ℕ × ℕ
from_eleven t = at_width 11 (tallied t.starts) (from_fourteen t)

abbrev from_ten : StepTally → List ℕ → ℕ × ℕ
from_ten t = at_width 10 (tallied t.batches) (from_eleven t)

pub returns : goal.returns
unfolding steps_tallied
returns c =
    let t = c.args.self.now in
    let states =
    answer_last 14 (tallied t.states) c.unequal-states.result (c.unequal-states.ensures.least, c.unequal-states.ensures.width) in
    let starts =
    answer_step 11 (tallied t.starts) (from_fourteen t) c.unequal.result c.unequal-states.result c.lesser-starts.result c.lesser-starts.ensures
    (c.unequal.ensures.least, c.unequal.ensures.width) states (λ u e. rw e refl) in
    let batches =
    answer_step 10 (tallied t.batches) (from_eleven t) c.unequal-2.result c.lesser-starts.result c.lesser-batches.result c.lesser-batches.ensures
    (c.unequal-2.ensures.least, c.unequal-2.ensures.width) starts (λ u e. rw e refl) in
    answer_step 6 (tallied t.ends) (from_ten t) c.unequal-3.result c.lesser-batches.result c.lesser.result c.lesser.ensures
    (c.unequal-3.ensures.least, c.unequal-3.ensures.width) batches (λ u e. rw e refl)
