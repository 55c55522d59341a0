-- The program that walks a path, and what it starts with.
use Rattle.std.specs.Prelude.{ℕ, zero, suc, List, [], ◌∷◌, ◌++◌, reverse, take, drop}
use Rattle.vm_ops.specs.declared.item.Item.{Item}
use Rattle.op_pack.specs.Packing.{packed}
use Rattle.block_tree.specs.Trees.{Tree, Span}
use Rattle.masm_instr.specs.declared.name.Name.TheVariants as names
use Rattle.masm_expand.specs.Expansion.{expansion}

-- One level: the sibling comes above the node, its bit puts both in their order, and their digest takes their place.
-- `padw adv_loadw adv_push.1 cswapw hmerge`
unfoldable pub level_items : List Item
level_items =
    expansion names.Padw [] 0 ++ expansion names.AdvLoadw [] 0 ++ expansion names.AdvPush (1 ∷ []) 0
    ++ expansion names.Cswapw [] 0 ++ expansion names.Hmerge [] 0

-- so many levels
abbrev pub levels : ℕ → List Item
levels zero = []
levels (suc n) = level_items ++ levels n

-- the last node is compared with the root: `assert_eqw`
unfoldable pub last_items : List Item
last_items = expansion names.AssertEqw [] 0

-- `begin repeat.depth padw adv_loadw adv_push.1 cswapw hmerge end assert_eqw end`
abbrev pub walk_items : ℕ → List Item
walk_items depth = levels depth ++ last_items

abbrev pub walk_tree : ℕ → Tree
walk_tree depth = Span (packed (walk_items depth))

-- the leaf lies on top and the root below it, each with its last element on top
abbrev pub start_cells : List ℕ → List ℕ → List ℕ
start_cells leaf root = reverse leaf ++ reverse root

abbrev pub leaf_on : List ℕ → List ℕ
leaf_on stack = reverse (take 4 stack)

abbrev pub root_on : List ℕ → List ℕ
root_on stack = reverse (take 4 (drop 4 stack))
