-- How many blocks the tree of an assembled program has.
use Rattle.cmd_check.proofs.Words.{◌≡◌, ℕ, ◌+◌, List, [], length, Option, Ok, refl, sym, subst, arith, constants_of, tree_of, Program, Public, Trace}
use Rattle.cmd_check.proofs.Words.{HasFewBlocks}
use Rattle.std.proofs.Common.{◌≢◌, ◌*◌, ◌^◌, ◌<◌, ◌≤◌, max, sum, ◌∷◌, ◌++◌}
use Rattle.std.proofs.Math.Nat.{add-mul, le-max_left, le-max_right, mul-add, mul-le-mul, mul-le-mul_left, mul-one}
use Rattle.std.proofs.lemmas.List.{length-append}
use Rattle.std.proofs.lemmas.List.Sums.{sum_by-cons}
use Rattle.vm_field.specs.Sponge.{HashInput}
use Rattle.vm_ops.specs.declared.item.Item.{Item}
use Rattle.op_pack.specs.Packing.{packed}
use Rattle.block_tree.specs.Trees.{AreWhole, IsWhole, Targets, Tree, targets_from, targets_height, tree_height}
use Rattle.masm_flat.specs.Blocks.{Block, Blocks, Span, Join, Split, Loop, Call, Syscall, Dyn, no_block, block_before, seen_as, seen_all, as_tree, as_operations}
use Rattle.masm_link.specs.Assembling.{Assembles}
use Rattle.masm_link.specs.Libraries.{LibraryProcedure}
use Rattle.masm_link.specs.Laws.{AssembledTrees, IsWithinLimits}
use Rattle.air_kit.specs.Traces.{HasCounts}
use Rattle.air_kit.specs.declared.trace.TableName.TheVariants as table
use Rattle.source_check.specs.Numbering.{blocks_in}
use Rattle.source_check.specs.SourceNodes.{inputs_in, inputs_of}

-- ---- products
-- one block above others
above : (blocks operations height : ℕ) → 1 ≤ operations → blocks ≤ operations * height → 1 + blocks ≤ operations * (1 + height)
above blocks operations height some few = omega (arith, mul-add operations 1 height, mul-one operations)

-- a dynamic block above its targets, of which there may be none
above_targets : (blocks operations height : ℕ) → blocks ≤ operations * height → 1 + blocks ≤ (1 + operations) * (1 + height)
above_targets blocks operations height few = above blocks (1 + operations) height (omega arith) (omega (arith, add-mul 1 operations height))

module _ {A : Type 0} (xs ys : List A) (m n g h : ℕ) (first : length xs ≤ m * g) (second : length ys ≤ n * h) where
  -- blocks beside others
  beside : length (xs ++ ys) ≤ (m + n) * max g h
  beside =
      omega (arith, length-append xs ys, add-mul m n (max g h), mul-le-mul_left m (le-max_left g h), mul-le-mul_left n (le-max_right g h))

  -- and one above both
  above_two : 1 ≤ m → 1 + length (xs ++ ys) ≤ (m + n) * (1 + max g h)
  above_two some = above (length (xs ++ ys)) (m + n) (max g h) (omega arith) beside

-- ---- operations
-- a span of no operations has no batch
some_items : (items : List Item) → packed items ≢ [] → 1 ≤ length items
unfolding packed
some_items [] whole = absurd (whole refl)
some_items (item ∷ items) whole = omega arith

some_operations : (b : Block) → IsWhole (seen_as as_tree b) → 1 ≤ seen_as as_operations b
some_operations (Span items) w = some_items items w.0
some_operations (Join a b) w = omega (arith, some_operations a w.0)
some_operations (Split a b) w = omega (arith, some_operations a w.0)
some_operations (Loop a) w = some_operations a w
some_operations (Call a) w = some_operations a w
some_operations (Syscall a) w = some_operations a w
some_operations (Dyn targets) w = omega arith

sum-cons : (n : ℕ) (ns : List ℕ) → n + sum ns ≡ sum (n ∷ ns)
sum-cons n ns = sym (sum_by-cons (λ m. m) n ns)

-- ---- blocks
module _ (constants : List ℕ) where
  abbrev blocks : Block → List (Option HashInput)
  blocks b = inputs_of constants (seen_as as_tree b)

  abbrev operations : Block → ℕ
  operations b = seen_as as_operations b

  abbrev height : Block → ℕ
  height b = tree_height (seen_as as_tree b)

  abbrev targets : Blocks → Targets
  targets bs = targets_from (seen_all as_tree bs)

  -- Each block has its operations below it, and each operation no more blocks above it than the tree is high.
  mutual
    few_blocks : (b : Block) → IsWhole (seen_as as_tree b) → length (blocks b) ≤ operations b * height b
    few_blocks (Span items) w = omega (arith, some_items items w.0, mul-one (length items))
    few_blocks (Join a b) w =
        omega (
          arith,
          above_two (blocks a) (blocks b) (operations a) (operations b) (height a) (height b) (few_blocks a w.0) (few_blocks b w.1)
              (some_operations a w.0),
        )
    few_blocks (Split a b) w =
        omega (
          arith,
          above_two (blocks a) (blocks b) (operations a) (operations b) (height a) (height b) (few_blocks a w.0) (few_blocks b w.1)
              (some_operations a w.0),
        )
    few_blocks (Loop a) w = omega (arith, above (length (blocks a)) (operations a) (height a) (some_operations a w) (few_blocks a w))
    few_blocks (Call a) w = omega (arith, above (length (blocks a)) (operations a) (height a) (some_operations a w) (few_blocks a w))
    few_blocks (Syscall a) w = omega (arith, above (length (blocks a)) (operations a) (height a) (some_operations a w) (few_blocks a w))
    few_blocks (Dyn bs) w =
        omega (
          arith,
          above_targets (length (inputs_in constants (targets bs))) (sum (seen_all as_operations bs)) (targets_height (targets bs))
              (few_below bs w),
        )

    few_below : (bs : Blocks) → AreWhole (targets bs)
        → length (inputs_in constants (targets bs)) ≤ sum (seen_all as_operations bs) * targets_height (targets bs)
    few_below no_block w = omega arith
    few_below (block_before first more) w =
        subst (λ n. length (inputs_in constants (targets (block_before first more))) ≤ n * targets_height (targets (block_before first more)))
        (sum-cons (operations first) (seen_all as_operations more))
        (beside (blocks first) (inputs_in constants (targets more)) (operations first) (sum (seen_all as_operations more)) (height first)
        (targets_height (targets more)) (few_blocks first w.0) (few_below more w.1))

  few_within : (tree : Tree) (block : Block) → IsWithinLimits tree block → IsWhole tree → HasFewBlocks constants tree
  few_within tree block within whole =
      let few = few_blocks block (subst IsWhole within.is whole) in
      let low : height block ≤ 1024 = subst (λ t. tree_height t ≤ 1024) within.is within.height in
      let most : operations block * height block ≤ 524288 * 1024 = mul-le-mul within.operations low in
      subst (HasFewBlocks constants) (sym within.is) (omega (arith, few, most))

-- an assembled program has so few blocks
pub few_assembled : (constants : List ℕ) (library : List LibraryProcedure) (text : List ℕ) (kernel : Option (List ℕ)) (program : Program)
    → AssembledTrees → Assembles constants library text kernel (Ok program) → HasFewBlocks constants (tree_of program.tree)
few_assembled constants library text kernel program trees is =
    let found = trees constants library text kernel program is in few_within constants (tree_of program.tree) found.0 found.1 program.whole

-- behind the rows of a trace there is an address for each of so few blocks
pub has_room : (p q : Public) (t : Trace) (tree : Tree) → p ≡ q → HasCounts t → HasFewBlocks (constants_of q.params) tree
    → length t.hasher + blocks_in (constants_of p.params) tree < 2 ^ 32
has_room p q t tree same counts few =
    let there : blocks_in (constants_of p.params) tree ≤ 2 ^ 29 = subst (λ r. HasFewBlocks (constants_of r.params) tree) (sym same) few in
    let rows : length t.hasher ≤ 2 ^ 22 = (counts table.Hasher).most in
    omega arith
