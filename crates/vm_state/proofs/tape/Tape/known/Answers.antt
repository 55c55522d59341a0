use Rattle.std.proofs.Common.{subst}
use Rattle.vm_field.proofs.Elements.{elements-reverse}
use Rattle.vm_field.specs.Field.{AreElements}
use Rattle.vm_state.proofs.tape.Tape.known.Goals as goal

pub returns : goal.returns
returns c = subst AreElements c.self.view_is (elements-reverse _ c.self.invariant)
