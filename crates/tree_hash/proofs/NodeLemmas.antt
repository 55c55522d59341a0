-- A dynamic block is seen as its list's nodes.
use Rattle.std.proofs.Common.{◌≡◌, ◌∷◌, ℕ, List, All, map, refl, sym, ap, subst, ◌∙◌}
use Rattle.std.proofs.lemmas.List.Elements.{All-nil, All-cons, All-head, All-tail}
use mathlib.Core.Former.{Count}
use Rattle.block_tree.specs.Trees as blocks
use Rattle.block_tree.specs.Trees.{input_of_dyn}
use Rattle.vm_field.specs.Sponge.{digest_of_input}
use Rattle.tree_hash.specs.Nodes.{AreFirst, IsHashed, IsRowHashed, digest_in, node_tree, row_digests, row_targets, targets_of}
use Rattle.tree_hash.specs.declared.places.Places.{Places}
use Rattle.tree_hash.specs.declared.node.Node.{Node, Row_of-Node, end_of-Node, more_of-Node, items-the_row-Node, items_hidden-the_row-Node-0}
use Rattle.tree_hash.specs.declared.node.Node.TheVariants.{Dyn, Dyn'}
use Rattle.std.specs.declared.vec.Vec.{Vec}

row-items : (n : Count) (row : Row_of-Node n) → row_targets row ≡ targets_of (items-the_row-Node n row)
row-items n end_of-Node = refl
row-items n (more_of-Node first more) = ap (blocks.target (node_tree first)) (row-items _ more)

row-digests : (n : Count) (row : Row_of-Node n) → row_digests row ≡ map digest_in (items-the_row-Node n row)
row-digests n end_of-Node = refl
row-digests n (more_of-Node first more) = ap (λ ds. digest_in first ∷ ds) (row-digests _ more)

hashed-to : (constants : List ℕ) (n : Count) (row : Row_of-Node n) → IsRowHashed constants row → All (IsHashed constants) (items-the_row-Node n row)
hashed-to constants n end_of-Node h = All-nil (IsHashed constants)
hashed-to constants n (more_of-Node first more) h = All-cons (IsHashed constants) first _ h.0 (hashed-to constants _ more h.1)

hashed-from : (constants : List ℕ) (n : Count) (row : Row_of-Node n) → All (IsHashed constants) (items-the_row-Node n row) → IsRowHashed constants row
hashed-from constants n end_of-Node h = tt
hashed-from constants n (more_of-Node first more) h =
    (All-head (IsHashed constants) first _ h, hashed-from constants _ more (All-tail (IsHashed constants) first _ h))

-- the row of a dynamic block, which is not inferred
abbrev row_of : Node → (n : Count) × Row_of-Node n
row_of (Dyn' digest places shape row) = (_, row)
row_of _ = (_, end_of-Node)

pub node-Dyn : (digest : List ℕ) (places : Places) (nodes : Vec Node _) → node_tree (Dyn digest places nodes) ≡ blocks.Dyn (targets_of nodes.items)
node-Dyn digest places nodes =
    let row = row_of (Dyn digest places nodes) in
    ap blocks.Dyn (row-items row.0 row.1 ∙ ap targets_of (items_hidden-the_row-Node-0 nodes))

pub hashed-dynamic : (constants digest : List ℕ) (places : Places) (nodes : Vec Node _)
    → digest ≡ digest_of_input constants input_of_dyn → AreFirst places (map digest_in nodes.items) → All (IsHashed constants) nodes.items
    → IsHashed constants (Dyn digest places nodes)
hashed-dynamic constants digest places nodes e first h =
    let row = row_of (Dyn digest places nodes) in
    let digests : row_digests row.1 ≡ map digest_in nodes.items
    = row-digests row.0 row.1 ∙ ap (map digest_in) (items_hidden-the_row-Node-0 nodes) in (
      e,
      subst (AreFirst places) (sym digests) first,
      hashed-from constants row.0 row.1 (subst (All (IsHashed constants)) (sym (items_hidden-the_row-Node-0 nodes)) h),
    )

pub hashed-targets : (constants digest : List ℕ) (places : Places) (nodes : Vec Node _) → IsHashed constants (Dyn digest places nodes)
    → (digest ≡ digest_of_input constants input_of_dyn) × AreFirst places (map digest_in nodes.items) × All (IsHashed constants) nodes.items
hashed-targets constants digest places nodes h =
    let row = row_of (Dyn digest places nodes) in
    let digests : row_digests row.1 ≡ map digest_in nodes.items
    = row-digests row.0 row.1 ∙ ap (map digest_in) (items_hidden-the_row-Node-0 nodes) in
    (h.0, subst (AreFirst places) digests h.1, subst (All (IsHashed constants)) (items_hidden-the_row-Node-0 nodes) (hashed-to constants row.0 row.1 h.2))

pub ruleset views = (node-Dyn)
