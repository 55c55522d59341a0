use Rattle.std.proofs.Common.{◌∙◌, ap, take}
use Rattle.vm_state.proofs.StackLemmas.{visible-is}
use Rattle.vm_state.proofs.stack.Stack.visible.Goals as goal

pub returns-clause-is : goal.returns-clause-is
returns-clause-is c = visible-is _ _ c.self.invariant.0 ∙ ap (take 16) c.self.view_is
