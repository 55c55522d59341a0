use Rattle.cmd_check.proofs.CheckLemmas.{accepted_goes, refused_ends}
use Rattle.cmd_check.proofs.checking.judge.Goals as goal

pub returns-in-Ok : goal.returns-in-Ok
returns-in-Ok g c = accepted_goes _ _ _ _ _ _ c.in-Ok.ensures.ok (rw (c.in-Ok.ensures.trace, c.in-Ok.ensures.public) at c.accept.ensures)

pub returns-in-Err : goal.returns-in-Err
returns-in-Err g c = refused_ends _ _ _ c.in-Err.refused _ _ c.in-Err.ensures.err c.refuse.ensures.memory c.refuse.ensures.says
