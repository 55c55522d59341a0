use Rattle.std.proofs.Common.{◌-◌, length}
use Rattle.cmd_run.proofs.linking.+links_from.Given as goal

abbrev pub decreases-links_from : goal.decreases-links_from
decreases-links_from g l = length l.links.now - l.before
