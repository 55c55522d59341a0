use Rattle.cmd_kit.proofs.Completeness.{good_is_ok}
use Rattle.cmd_kit.proofs.Verdicts.{one_verdict}
use Rattle.cmd_kit.proofs.laws.good_files_are_served.Goals as goal

pub returns-clause-served : goal.returns-clause-served
returns-clause-served c = good_is_ok

pub returns-clause-accepted : goal.returns-clause-accepted
returns-clause-accepted c = one_verdict
