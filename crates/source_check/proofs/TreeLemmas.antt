-- Nodes of a tree, and what is made of them.
use Rattle.std.proofs.Common.{◌≡◌, ℕ, ◌+◌, ◌≤◌, List, [], ◌∷◌, ◌++◌, map, All, sym, ap, ◌∙◌, arith, append_assoc}
use Rattle.std.proofs.lemmas.List.Elements.{All-nil, All-cons, All-weaker}
use Rattle.vm_field.specs.Machine.{zero_word}
use Rattle.block_tree.specs.Trees as blocks
use Rattle.block_tree.specs.Trees.{Tree, Targets, IsWhole, AreWhole, tree_height, targets_height}
use Rattle.tree_hash.specs.Nodes.{node_tree, targets_of}
use Rattle.tree_hash.specs.declared.node.Node.{Node}
use Rattle.tree_merge.specs.Placed as places
use Rattle.tree_merge.specs.Placed.{PlacedTree, Entry, placed_from}
use Rattle.source_check.specs.Numbering.{numbered, numbered_in}
use Rattle.source_check.specs.SourceNodes.{inputs_of, inputs_in, shown_block}

abbrev pub IsWholeNode : Node → Type 0
IsWholeNode node = IsWhole (node_tree node)

pub each-whole : (nodes : List Node) → AreWhole (targets_of nodes) → All IsWholeNode nodes
each-whole [] w = All-nil IsWholeNode
each-whole (node ∷ nodes) w = All-cons IsWholeNode node nodes w.0 (each-whole nodes w.1)

abbrev pub IsLower : ℕ → Node → Type 0
IsLower most node = tree_height (node_tree node) ≤ most

-- each is no higher than the highest
pub each-lower : (nodes : List Node) → All (IsLower (targets_height (targets_of nodes))) nodes
each-lower [] = All-nil (IsLower 0)
each-lower (node ∷ nodes) =
    All-cons (IsLower (targets_height (targets_of (node ∷ nodes)))) node nodes (omega arith)
    (All-weaker (IsLower (targets_height (targets_of nodes))) (IsLower (targets_height (targets_of (node ∷ nodes))))
    (λ other lower. omega (arith, lower)) nodes (each-lower nodes))

module _ (constants : List ℕ) (tree : Tree) (ts us : Targets) (seen : tree ≡ blocks.Dyn ts) (same : us ≡ ts) where
  pub dyn-numbered : (rows before at pushed : ℕ) (x : PlacedTree) (es : List Entry) → x ≡ places.Dyn at (placed_from es) → at ≡ rows + before + 1
      → pushed ≡ before + 1 → es ≡ numbered_in constants (rows + pushed + 1) [] us → x ≡ numbered constants (rows + before + 1) tree
  dyn-numbered rows before at pushed x es is at_is pushed_is made =
      let next : rows + pushed + 1 ≡ rows + before + 1 + 1 = omega (arith, pushed_is) in
      is ∙ ap (λ fs. places.Dyn at (placed_from fs))
      (made ∙ ap (λ n. numbered_in constants n [] us) next ∙ ap (numbered_in constants (rows + before + 1 + 1) []) same)
      ∙ ap (λ n. places.Dyn n (placed_from (numbered_in constants (rows + before + 1 + 1) [] ts))) at_is
      ∙ sym (ap (numbered constants (rows + before + 1)) seen)

  pub dyn-blocks : (old mid new : List (List ℕ)) → mid ≡ old ++ (zero_word ++ zero_word) ∷ []
      → new ≡ mid ++ map shown_block (inputs_in constants us) → new ≡ old ++ map shown_block (inputs_of constants tree)
  dyn-blocks old mid new pushed made =
      made ∙ ap (λ bs. bs ++ map shown_block (inputs_in constants us)) pushed
      ∙ append_assoc old ((zero_word ++ zero_word) ∷ []) (map shown_block (inputs_in constants us))
      ∙ ap (λ vs. old ++ ((zero_word ++ zero_word) ∷ map shown_block (inputs_in constants vs))) same
      ∙ sym (ap (λ t. old ++ map shown_block (inputs_of constants t)) seen)
