-- The dynexecs of a body, one part behind the other.
use Rattle.std.proofs.Common.{◌≡◌, ◌∷◌, ◌++◌, refl, sym, ap, append_assoc}
use Rattle.masm_tree.specs.declared.terminal.Leaf.TheVariants as leaves
use Rattle.masm_tree.specs.Trees.{Body, Empty, Leaf_then, If_then, While_then, Repeat_then, append}
use Rattle.masm_names.specs.Uses.{dynexecs_of}
pub use Rattle.masm_graph.proofs.Collecting.{views}

pub dynexecs_of-append : (b c : Body) → dynexecs_of (append b c) ≡ dynexecs_of b ++ dynexecs_of c
dynexecs_of-append Empty c = refl
dynexecs_of-append (Leaf_then at leaves.DynExec rest) c = ap (λ ps. at ∷ ps) (dynexecs_of-append rest c)
dynexecs_of-append (Leaf_then at other rest) c = dynexecs_of-append rest c
dynexecs_of-append (If_then at first second rest) c =
    rw (dynexecs_of-append rest c, ← append_assoc (dynexecs_of second) (dynexecs_of rest) (dynexecs_of c))
    (sym (append_assoc (dynexecs_of first) _ (dynexecs_of c)))
dynexecs_of-append (While_then at turn rest) c =
    rw (dynexecs_of-append rest c) (sym (append_assoc (dynexecs_of turn) (dynexecs_of rest) (dynexecs_of c)))
dynexecs_of-append (Repeat_then at times turn rest) c =
    rw (dynexecs_of-append rest c) (sym (append_assoc (dynexecs_of turn) (dynexecs_of rest) (dynexecs_of c)))
