use Rattle.std.proofs.Common.{◌∙◌, ap, take, drop, append-nil}
use Rattle.vm_state.proofs.StackLemmas.{visible-is, hidden-is}
use Rattle.vm_state.proofs.stack.Stack.set_aside.Goals as goal

pub returns-clause-aside : goal.returns-clause-aside
returns-clause-aside c = rw c.replace.ensures.value (hidden-is _ _ c.self.invariant.0 ∙ ap (drop 16) c.self.view_is)

pub returns-clause-left : goal.returns-clause-left
returns-clause-left c =
    rw (c.replace.ensures.after, c.new-none.ensures.items)
    (append-nil _ ∙ visible-is _ _ c.self.invariant.0 ∙ ap (take 16) c.self.view_is)
