-- States of the permutation.
use Rattle.std.specs.Prelude.{◌≡◌, ℕ, List, length}
use Rattle.vm_field.specs.Field.{AreElements}

-- twelve elements
pub record IsState (x : List ℕ) : Type 0 where
  pub size : length x ≡ 12
  pub below : AreElements x
