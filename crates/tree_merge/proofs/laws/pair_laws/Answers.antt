use Rattle.tree_merge.proofs.PairLemmas.{differs-turned, differs-apart, differs-pair}
use Rattle.tree_merge.proofs.laws.pair_laws.Goals as goal

pub returns : goal.returns
returns c = record { turned = differs-turned; apart = differs-apart; pair = differs-pair }
