-- The uses of a body, one part behind the other.
use Rattle.std.proofs.Common.{◌≡◌, List, ◌++◌, map, refl, sym, ap, ◌∙◌, append_assoc}
use Rattle.std.proofs.lemmas.List.{map-append}
use Rattle.masm_tree.specs.declared.terminal.Leaf.TheVariants as leaves
use Rattle.masm_tree.specs.Trees.{Body, Empty, Leaf_then, If_then, While_then, Repeat_then, append}
use Rattle.masm_names.specs.Uses.{Use, uses_of}
pub use Rattle.masm_graph.proofs.Collecting.{views}

uses_of-append : (b c : Body) → uses_of (append b c) ≡ uses_of b ++ uses_of c
uses_of-append Empty c = refl
uses_of-append (Leaf_then at (leaves.Instr instr) rest) c = uses_of-append rest c
uses_of-append (Leaf_then at other rest) c = cc (uses_of-append rest c)
uses_of-append (If_then at first second rest) c =
    rw (uses_of-append rest c, ← append_assoc (uses_of second) (uses_of rest) (uses_of c)) (sym (append_assoc (uses_of first) _ (uses_of c)))
uses_of-append (While_then at turn rest) c = rw (uses_of-append rest c) (sym (append_assoc (uses_of turn) (uses_of rest) (uses_of c)))
uses_of-append (Repeat_then at times turn rest) c = rw (uses_of-append rest c) (sym (append_assoc (uses_of turn) (uses_of rest) (uses_of c)))

-- the same in any form
module _ {X : Type 0} (f : Use → X) where
  abbrev pub uses_as : Body → List X
  uses_as b = map f (uses_of b)

  pub uses_as-append : (b c : Body) → uses_as (append b c) ≡ uses_as b ++ uses_as c
  uses_as-append b c = ap (map f) (uses_of-append b c) ∙ map-append f (uses_of b) (uses_of c)
