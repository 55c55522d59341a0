use Rattle.std.proofs.Common.{◌<◌}
use Rattle.std.specs.List.{AllWithin}
use Rattle.vm_field.specs.Field.{prime}
use Rattle.vm_field.proofs.lists.known_elements.Given as goal

abbrev pub invariant-loop-element : goal.invariant-loop-element
invariant-loop-element l = AllWithin (λ e. e < prime) l.elements 0 l.element-index
