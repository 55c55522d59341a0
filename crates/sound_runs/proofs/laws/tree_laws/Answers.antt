use Rattle.sound_runs.proofs.TreeLemmas.{tree_digest_is, tree_good_is}
use Rattle.sound_runs.proofs.laws.tree_laws.Goals as goal

pub returns : goal.returns
returns c = record { digest = tree_digest_is; good = tree_good_is }
