use Rattle.cmd_kit.proofs.Words.{refl}
use Rattle.cmd_kit.specs.Outcomes.{printed, refused, given_up}
use Rattle.cmd_kit.proofs.printing.print.Goals as goal

pub returns-in-Ok : goal.returns-in-Ok
returns-in-Ok g c = rw c.in-Ends.is (printed c.in-Ends.answer (rw c.as_slice.ensures.items at c.in-Ok.ensures.step))

pub returns-in-Err-Failed : goal.returns-in-Err-Failed
returns-in-Err-Failed g c =
    rw c.in-Ends.is (refused c.in-Ends.answer (rw (c.in-Err-Failed.field-0-is, c.as_slice.ensures.items) at c.in-Err-Failed.ensures.step))

pub returns-in-Ends : goal.returns-in-Ends
returns-in-Ends g c = given_up _ (rw c.in-Err-Memory.field-0-is at c.in-Err-Memory.ensures.step)

pub returns : goal.returns
returns g c = given_up _ refl
