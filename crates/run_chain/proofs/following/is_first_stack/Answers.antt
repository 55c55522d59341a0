use Rattle.std.proofs.Common.{◌∙◌, Some}
use Rattle.std.proofs.lemmas.Bool.Decides.{Decides-eqb}
use Rattle.std.proofs.lemmas.Slice.Eq.{strip_prefix_is}
use Rattle.run_chain.proofs.FollowLemmas.{apart, tested, uneven}
use Rattle.run_chain.proofs.following.is_first_stack.Goals as goal

pub returns-in_default : goal.returns-in_default
returns-in_default c = apart c.args.cells.now c.args.inputs.now c.in_default.ensures.cases

pub returns-then-below-saturating_sub : goal.returns-then-below-saturating_sub
returns-then-below-saturating_sub c =
    tested c.args.cells.now c.args.inputs.now c.in-Some.below.now
    (strip_prefix_is Decides-eqb c.args.cells.now c.args.inputs.now (Some c.in-Some.below) c.in-Some.ensures.cases)
    c.are_zeros.result (c.if-below-saturating_sub.true ∙ c.saturating_sub.ensures) c.are_zeros.ensures

pub returns-else-below-saturating_sub : goal.returns-else-below-saturating_sub
returns-else-below-saturating_sub c =
    uneven c.args.cells.now c.args.inputs.now c.in-Some.below.now
    (strip_prefix_is Decides-eqb c.args.cells.now c.args.inputs.now (Some c.in-Some.below) c.in-Some.ensures.cases)
    c.saturating_sub.result c.saturating_sub.ensures c.if-below-saturating_sub.false
