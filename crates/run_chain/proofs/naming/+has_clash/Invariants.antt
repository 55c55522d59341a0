use Rattle.std.proofs.Common.{length}
use Rattle.run_chain.proofs.naming.+has_clash.Given as goal

abbrev pub decreases-has_clash : goal.decreases-has_clash
decreases-has_clash l = length l.names.now
