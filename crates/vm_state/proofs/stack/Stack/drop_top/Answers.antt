use Rattle.vm_state.proofs.StackLemmas.{dropped-is, emptied}
use Rattle.vm_state.proofs.stack.Stack.drop_top.Goals as goal

pub returns : goal.returns
returns c = rw (← c.self.view_is, c.rotate_left.ensures.after, c.unwrap_or-incoming.ensures)
    (dropped-is _ _ _ c.pop.result c.self.invariant.0 c.pop.ensures.items
    (emptied c.pop.result _ _ c.self.inside.below.items c.pop.new.self.items _ c.pop.ensures.cases c.pop.ensures.rest))
