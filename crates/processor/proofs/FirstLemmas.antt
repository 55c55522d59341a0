-- The first target of a digest among nodes, by the first place of the digest.
use Rattle.std.proofs.Common.{◌<◌, ◌≤◌, arith, get_or, is_some, length, nat_lt, IfSome, ◌≡◌, ◌∷◌, [], ◌+◌, nat_eq, Bool, true, false, cond, List, ℕ, Option, Some, None, All, map, slice_get, sym, refl, ap, ◌∙◌, add-one, Bor}
use Rattle.std.proofs.lemmas.List.Elements.{All-head, All-tail}
use Rattle.std.proofs.lemmas.Bool.Decides.{nat_tests}
use Rattle.std.proofs.lemmas.Option.{slice_get_past, slice_get_read}
use Rattle.std.specs.Option.{option_map}
use lib.Pointwise.{pointwise}
use Rattle.block_tree.specs.Trees.{first_target, tree_digest}
use Rattle.tree_hash.specs.Nodes.{IsHashed, digest_in, node_tree, targets_of}
use Rattle.tree_hash.specs.Places.{first_place}
use Rattle.tree_hash.specs.declared.node.Node.{Node}
use Rattle.tree_hash.specs.declared.node.Node.TheVariants.{Opaque, Span, Join', Split', Loop', Call', Syscall', Dyn'}

own-digest : (constants : List ℕ) (node : Node) → IsHashed constants node → digest_in node ≡ tree_digest constants (node_tree node)
own-digest constants (Opaque digest) h = refl
own-digest constants (Span digest batches) h = h
own-digest constants (Join' digest p first q second) h = h.0
own-digest constants (Split' digest p on_one q on_zero) h = h.0
own-digest constants (Loop' digest p body) h = h.0
own-digest constants (Call' digest p callee) h = h.0
own-digest constants (Syscall' digest p callee) h = h.0
own-digest constants (Dyn' digest places shape row) h = h.0

abbrev node_at : List Node → Option ℕ → Option Node
node_at nodes None = None
node_at nodes (Some place) = slice_get nodes place

one-behind : (node : Node) (more : List Node) (o : Option ℕ) → node_at (node ∷ more) (option_map (λ i. i + 1) o) ≡ node_at more o
one-behind node more None = refl
one-behind node more (Some i) = rw add-one refl

choice : (is : Bool) (node : Node) (more : List Node) (o : Option ℕ)
    → cond is (Some (node_tree node)) (option_map node_tree (node_at more o))
    ≡ option_map node_tree (node_at (node ∷ more) (cond is (Some 0) (option_map (λ i. i + 1) o)))
choice true node more o = refl
choice false node more o = ap (option_map node_tree) (sym (one-behind node more o))

-- among hashed nodes the first target of a digest stands at the digest's first place
first-at : (constants digest : List ℕ) (nodes : List Node) → All (IsHashed constants) nodes
    → first_target constants digest (targets_of nodes) ≡ option_map node_tree (node_at nodes (first_place (map digest_in nodes) digest))
first-at constants digest [] h = refl
first-at constants digest (node ∷ more) h =
    ap (λ d. cond (pointwise nat_eq d digest) (Some (node_tree node)) (first_target constants digest (targets_of more)))
    (sym (own-digest constants node (All-head (IsHashed constants) node more h)))
    ∙ (ap (cond (pointwise nat_eq (digest_in node) digest) (Some (node_tree node)))
    (first-at constants digest more (All-tail (IsHashed constants) node more h))
    ∙ choice (pointwise nat_eq (digest_in node) digest) node more (first_place (map digest_in more) digest))

pub first-none : (constants digest : List ℕ) (nodes : List Node) → All (IsHashed constants) nodes
    → first_place (map digest_in nodes) digest ≡ None → first_target constants digest (targets_of nodes) ≡ None
first-none constants digest nodes h none =
    first-at constants digest nodes h ∙ ap (λ o. option_map node_tree (node_at nodes o)) none

-- what `get` gives is what stands there
read-there : (i : ℕ) (xs : List Node) (lent : Option (Bor Node)) → is_some lent ≡ nat_lt i (length xs) → IfSome lent (λ x. x.now ≡ get_or xs i x.now)
    → option_map (λ n. n.now) lent ≡ slice_get xs i
read-there i xs None e h = sym (slice_get_past xs i (past e))
  where
    past : {n : ℕ} → false ≡ nat_lt i n → n ≤ i
    past q = grind (arith, nat_tests)
read-there i xs (Some x) e h = sym (slice_get_read xs (length xs) i x.now refl (within e) h)
  where
    within : {n : ℕ} → true ≡ nat_lt i n → i < n
    within q = grind (arith, nat_tests)

lent-node : (lent : Option (Bor Node)) (found : Option Node) → option_map (λ n. n.now) lent ≡ found
    → option_map (λ n. node_tree n.now) lent ≡ option_map node_tree found
lent-node None found is = ap (option_map node_tree) is
lent-node (Some n) found is = ap (option_map node_tree) is

-- where the digest has a place, the node there
pub first-some : (constants digest : List ℕ) (nodes : List Node) (place : ℕ) (lent : Option (Bor Node)) → All (IsHashed constants) nodes
    → first_place (map digest_in nodes) digest ≡ Some place → is_some lent ≡ nat_lt place (length nodes)
    → IfSome lent (λ x. x.now ≡ get_or nodes place x.now)
    → option_map (λ n. node_tree n.now) lent ≡ first_target constants digest (targets_of nodes)
first-some constants digest nodes place lent h found some here =
    lent-node lent (slice_get nodes place) (read-there place nodes lent some here)
    ∙ sym (first-at constants digest nodes h ∙ ap (λ o. option_map node_tree (node_at nodes o)) found)
