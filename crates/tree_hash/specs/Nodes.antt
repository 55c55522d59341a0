-- Trees that hold their digests, and their batches as they are read.
use Rattle.std.specs.Prelude.{◌≡◌, ℕ, List, [], ◌∷◌, map}
use Rattle.block_tree.specs.Trees as blocks
use Rattle.block_tree.specs.Trees.{tree_digest}
use Rattle.tree_hash.specs.declared.batch.ReadBatch.{ReadBatch}
use Rattle.tree_hash.specs.declared.node.Node.{Node, Row_of-Node, end_of-Node, more_of-Node}
use Rattle.tree_hash.specs.Places.{first_place, place_at}
use Rattle.tree_hash.specs.declared.places.Places.{Places}
use Rattle.tree_hash.specs.declared.node.Node.TheVariants.{Opaque, Span, Join', Split', Loop', Call', Syscall', Dyn'}

-- the batches alone
abbrev pub elements_of : List ReadBatch → List (List ℕ)
elements_of batches = map (λ (b : ReadBatch). b.elements) batches

abbrev pub digest_in : Node → List ℕ
digest_in (Opaque digest) = digest
digest_in (Span digest batches) = digest
digest_in (Join' digest p first q second) = digest
digest_in (Split' digest p on_one q on_zero) = digest
digest_in (Loop' digest p body) = digest
digest_in (Call' digest p callee) = digest
digest_in (Syscall' digest p callee) = digest
digest_in (Dyn' digest places shape row) = digest

-- the tree without its digests and readings
abbrev mutual
  pub node_tree : Node → blocks.Tree
  node_tree (Opaque digest) = blocks.Opaque digest
  node_tree (Span digest batches) = blocks.Span (elements_of batches.items)
  node_tree (Join' digest p first q second) = blocks.Join (node_tree first) (node_tree second)
  node_tree (Split' digest p on_one q on_zero) = blocks.Split (node_tree on_one) (node_tree on_zero)
  node_tree (Loop' digest p body) = blocks.Loop (node_tree body)
  node_tree (Call' digest p callee) = blocks.Call (node_tree callee)
  node_tree (Syscall' digest p callee) = blocks.Syscall (node_tree callee)
  node_tree (Dyn' digest places shape row) = blocks.Dyn (row_targets row)

  pub row_targets : {n : _} → Row_of-Node n → blocks.Targets
  row_targets end_of-Node = blocks.no_target
  row_targets (more_of-Node first more) = blocks.target (node_tree first) (row_targets more)

-- nodes without their digests and readings, as targets
abbrev pub targets_of : List Node → blocks.Targets
targets_of nodes = blocks.targets_from (map node_tree nodes)

-- the digests that stand in front of nodes
abbrev pub row_digests : {n : _} → Row_of-Node n → List (List ℕ)
row_digests end_of-Node = []
row_digests (more_of-Node first more) = digest_in first ∷ row_digests more

-- they are looked up in this list of digests
abbrev pub AreFirst : Places → List (List ℕ) → Type 0
AreFirst places digests = (digest : List ℕ) → place_at places digest ≡ first_place digests digest

-- each block stands beside its own digest, and targets are found by theirs
abbrev mutual
  pub IsHashed : List ℕ → Node → Type 0
  IsHashed constants (Opaque digest) = Unit {0}
  IsHashed constants (Span digest batches) = digest ≡ tree_digest constants (blocks.Span (elements_of batches.items))
  IsHashed constants (Join' digest p first q second) =
      (digest ≡ tree_digest constants (blocks.Join (node_tree first) (node_tree second))) × IsHashed constants first × IsHashed constants second
  IsHashed constants (Split' digest p on_one q on_zero) =
      (digest ≡ tree_digest constants (blocks.Split (node_tree on_one) (node_tree on_zero))) × IsHashed constants on_one × IsHashed constants on_zero
  IsHashed constants (Loop' digest p body) =
      (digest ≡ tree_digest constants (blocks.Loop (node_tree body))) × IsHashed constants body
  IsHashed constants (Call' digest p callee) =
      (digest ≡ tree_digest constants (blocks.Call (node_tree callee))) × IsHashed constants callee
  IsHashed constants (Syscall' digest p callee) =
      (digest ≡ tree_digest constants (blocks.Syscall (node_tree callee))) × IsHashed constants callee
  IsHashed constants (Dyn' digest places shape row) =
      (digest ≡ tree_digest constants (blocks.Dyn (row_targets row))) × AreFirst places (row_digests row) × IsRowHashed constants row

  pub IsRowHashed : List ℕ → {n : _} → Row_of-Node n → Type 0
  IsRowHashed constants end_of-Node = Unit {0}
  IsRowHashed constants (more_of-Node first more) = IsHashed constants first × IsRowHashed constants more
