use Rattle.std.proofs.Common.{◌∙◌, ap, take, drop, reverse, append-nil}
use Rattle.vm_state.proofs.StackLemmas.{visible-is, hidden-is}
use Rattle.vm_state.proofs.stack.Stack.hide.Goals as goal

pub returns-clause-hidden : goal.returns-clause-hidden
returns-clause-hidden c = c.from_vec.ensures.items ∙ c.reverse.ensures.items ∙ ap reverse c.in_ok-hidden.ensures.tail
    ∙ hidden-is _ _ c.self.invariant.0 ∙ ap (drop 16) c.self.view_is

pub returns-clause-ok : goal.returns-clause-ok
returns-clause-ok c = rw c.in_ok-hidden.ensures.items (append-nil _ ∙ visible-is _ _ c.self.invariant.0 ∙ ap (take 16) c.self.view_is)
