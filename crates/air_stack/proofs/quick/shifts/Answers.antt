use Rattle.std.proofs.Common.{sym, ◌∙◌, subst}
use Rattle.air_stack.specs.Quick.{Shifts}
use Rattle.air_stack.proofs.quick.shifts.Goals as goal

pub returns-in-Left : goal.returns-in-Left
returns-in-Left g c = λ is.
    subst (λ way. Shifts way (g.V.View.cells c.args.x.now) (g.V.View.cells c.args.y.now)) (sym (sym c.shift.ensures ∙ c.in-Left.is))
    (c.falls.ensures is)

pub returns-in-Stay : goal.returns-in-Stay
returns-in-Stay g c = λ is.
    subst (λ way. Shifts way (g.V.View.cells c.args.x.now) (g.V.View.cells c.args.y.now)) (sym (sym c.shift.ensures ∙ c.in-Stay.is))
    (c.stays.ensures is)

pub returns-in-Right : goal.returns-in-Right
returns-in-Right g c = λ is.
    subst (λ way. Shifts way (g.V.View.cells c.args.x.now) (g.V.View.cells c.args.y.now))
    (sym (sym c.shift.ensures ∙ c.in-Right.is)) (c.rises.ensures is)
