use Rattle.cmd_kit.proofs.RunsLeave.{runs_leave_links, runs_leave_whole_links}
use Rattle.cmd_kit.proofs.RunsTell.{runs_tell_the_link}
use Rattle.cmd_kit.proofs.laws.runs_leave_whole_links.Goals as goal

pub returns-clause-whole : goal.returns-clause-whole
returns-clause-whole c = runs_leave_whole_links

pub returns-clause-left : goal.returns-clause-left
returns-clause-left c = runs_leave_links

pub returns-clause-told : goal.returns-clause-told
returns-clause-told c = runs_tell_the_link
