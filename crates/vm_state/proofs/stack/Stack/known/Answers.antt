use Rattle.std.proofs.Common.{subst}
use Rattle.vm_field.proofs.Elements.{elements-append, elements-reverse}
use Rattle.vm_field.specs.Field.{AreElements}
use Rattle.vm_state.proofs.stack.Stack.known.Goals as goal

pub returns : goal.returns
returns c = subst AreElements c.self.view_is (elements-append _ _ c.self.invariant.1 (elements-reverse _ c.self.invariant.2))
