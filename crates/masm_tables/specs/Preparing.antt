-- What is made once, for the first body that has a dynexec.
use Rattle.std.specs.Prelude.{◌≡◌, [], Option, Some, None}
use Rattle.std.specs.List.{Contains}
use Rattle.masm_tree.specs.declared.tree.Position.{Position}
use Rattle.masm_tree.specs.Trees.{Body}
use Rattle.masm_names.specs.Uses.{dynexecs_of}

-- Before and behind a body: it stays once it is made, and this is how it is made.
pub data Prepares {X : Type 0} (Is : X → Type 0) (b : Body) : Option X → Option X → Type 0 where
  had : (made : X) → Prepares Is b (Some made) (Some made)
  unasked : dynexecs_of b ≡ [] → Prepares Is b None None
  made : (at : Position) (new : X) → Contains (dynexecs_of b) at → Is new → Prepares Is b None (Some new)
