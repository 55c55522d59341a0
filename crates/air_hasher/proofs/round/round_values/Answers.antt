use Rattle.std.proofs.Common.{option_map, ap, ◌∙◌}
use Rattle.std.proofs.lemmas.Bool.{le-ltb, lt-ltb}
use Rattle.vm_field.specs.Permutation.{before_roots}
use Rattle.air_hasher.proofs.Rounds.{round_values-inside, round_values-outside, round_values-last}
use Rattle.air_hasher.proofs.round.round_values.Goals as goal

pub returns-then-k-lt7 : goal.returns-then-k-lt7
returns-then-k-lt7 g c =
    round_values-inside _ (g.V.View.cells c.args.x.now) (g.V.View.cells c.in-Some.y) c.before_roots.result _ _ _
    (lt-ltb c.args.k 7 c.if-k-lt7.true) (ap (option_map g.V.View.cells) c.in-Some.is)
    (c.before_roots.ensures.is ∙ ap (before_roots _) c.state.ensures) c.powers_less.ensures

pub returns-else-k-lt7 : goal.returns-else-k-lt7
returns-else-k-lt7 g c = round_values-outside _ _ _ _ (le-ltb c.args.k 7 c.if-k-lt7.false)

pub returns-in-None : goal.returns-in-None
returns-in-None g c = round_values-last _ _ _ _ (ap (option_map g.V.View.cells) c.in-None.is)
