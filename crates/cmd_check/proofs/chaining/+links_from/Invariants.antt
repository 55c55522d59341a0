use Rattle.cmd_check.proofs.Words.{length}
use Rattle.std.proofs.Common.{◌-◌}
use Rattle.cmd_check.proofs.chaining.+links_from.Given as goal

abbrev pub decreases-links_from : goal.decreases-links_from
decreases-links_from g l = length l.chain.now.links - l.before
