-- The block that a list of operations and blocks is (docs/ASSEMBLY.md, "Blocks"): neighbouring operations form spans, and the
-- blocks are joined two by two. It is said once for whatever a block is seen as: the block itself, its tree, its height.
use Rattle.std.specs.Prelude.{ℕ, zero, suc, ◌+◌, max, List, [], ◌∷◌, ◌++◌, length, map, sum}
use Rattle.vm_ops.specs.declared.item.Item.{Item}
use Rattle.vm_ops.specs.declared.op.Op.TheVariants.{Noop}
use Rattle.vm_ops.specs.Items.{plain_item}
use Rattle.op_pack.specs.Packing.{packed}
use Rattle.block_tree.specs.Trees as trees

-- what a body is flattened to: operations and blocks
pub data Piece (A : Type 0) : Type 0 where
  Operation : (item : Item) → Piece A
  Whole : (block : A) → Piece A

module _ {A : Type 0} (span : List Item → A) (join : A → A → A) where
  -- a span of these operations, where there are any, and the blocks behind it
  abbrev pub span_before : List Item → List A → List A
  span_before [] blocks = blocks
  span_before (item ∷ items) blocks = span (item ∷ items) ∷ blocks

  -- The blocks of a list, in which neighbouring operations form one span; these operations stand before it.
  abbrev pub blocks_behind : List Item → List (Piece A) → List A
  blocks_behind items [] = span_before items []
  blocks_behind items (Operation item ∷ pieces) = blocks_behind (items ++ item ∷ []) pieces
  blocks_behind items (Whole block ∷ pieces) = span_before items (block ∷ blocks_behind [] pieces)

  -- first with second, third with fourth; an odd last one is carried up
  abbrev pub paired : List A → List A
  paired [] = []
  paired (a ∷ []) = a ∷ []
  paired (a ∷ b ∷ blocks) = join a b ∷ paired blocks

  -- Blocks that are joined level by level, at most so many levels. No block at all is a span of one NOOP.
  abbrev pub joined : ℕ → List A → A
  joined n [] = span (plain_item Noop ∷ [])
  joined n (a ∷ []) = a
  joined zero (a ∷ b ∷ blocks) = a
  joined (suc n) (a ∷ b ∷ blocks) = joined n (paired (a ∷ b ∷ blocks))

  -- Each level has fewer blocks than the one below it, so there are no more levels than blocks.
  unfoldable pub all_joined : List A → A
  all_joined blocks = joined (length blocks) blocks

  -- what a list comes to
  unfoldable pub whole_of : List (Piece A) → A
  whole_of pieces = all_joined (blocks_behind [] pieces)

mutual
  -- a block of a source, whose operations are not packed yet
  pub data Block : Type 0 where
    Span : (items : List Item) → Block  -- one operation or more
    Join : (first second : Block) → Block
    Split : (on_one on_zero : Block) → Block
    Loop : (body : Block) → Block
    Call : (callee : Block) → Block
    Syscall : (callee : Block) → Block
    Dyn : (targets : Blocks) → Block

  -- a list of blocks
  pub data Blocks : Type 0 where
    no_block : Blocks
    block_before : (first : Block) (more : Blocks) → Blocks

-- the blocks of a list
abbrev pub blocks_from : List Block → Blocks
blocks_from [] = no_block
blocks_from (block ∷ blocks) = block_before block (blocks_from blocks)

-- how blocks are seen: what each kind of block is
pub record View (A : Type 0) : Type 0 where
  pub span : List Item → A
  pub join : A → A → A
  pub split : A → A → A
  pub loop : A → A
  pub call : A → A
  pub syscall : A → A
  pub dyn : List A → A

abbrev mutual
  pub seen_as : {A : Type 0} → View A → Block → A
  seen_as v (Span items) = v.span items
  seen_as v (Join first second) = v.join (seen_as v first) (seen_as v second)
  seen_as v (Split on_one on_zero) = v.split (seen_as v on_one) (seen_as v on_zero)
  seen_as v (Loop body) = v.loop (seen_as v body)
  seen_as v (Call callee) = v.call (seen_as v callee)
  seen_as v (Syscall callee) = v.syscall (seen_as v callee)
  seen_as v (Dyn targets) = v.dyn (seen_all v targets)

  pub seen_all : {A : Type 0} → View A → Blocks → List A
  seen_all v no_block = []
  seen_all v (block_before first more) = seen_as v first ∷ seen_all v more

-- what a list of pieces is
abbrev pub whole : {A : Type 0} → View A → List (Piece A) → A
whole v pieces = whole_of v.span v.join pieces

abbrev pub as_block : View Block
as_block = record {
  span = Span;
  join = Join;
  split = Split;
  loop = Loop;
  call = Call;
  syscall = Syscall;
  dyn = λ targets. Dyn (blocks_from targets);
}

-- the block of a list of pieces
abbrev pub block_of : List (Piece Block) → Block
block_of pieces = whole as_block pieces

-- trees, whose spans hold the operations in batches
abbrev pub as_tree : View trees.Tree
as_tree = record {
  span = λ items. trees.Span (packed items);
  join = trees.Join;
  split = trees.Split;
  loop = trees.Loop;
  call = trees.Call;
  syscall = trees.Syscall;
  dyn = λ targets. trees.Dyn (trees.targets_from targets);
}

-- how many operations there are, before packing adds any; a dynamic block is one besides those of all its targets
abbrev pub as_operations : View ℕ
as_operations = record {
  span = length;
  join = λ a b. a + b;
  split = λ a b. a + b;
  loop = λ a. a;
  call = λ a. a;
  syscall = λ a. a;
  dyn = λ targets. 1 + sum targets;
}

-- the greatest of numbers, 0 where there is none
abbrev pub greatest : List ℕ → ℕ
greatest [] = 0
greatest (n ∷ ns) = max n (greatest ns)

-- how many blocks stand on the longest path
abbrev pub as_height : View ℕ
as_height = record {
  span = λ items. 1;
  join = λ a b. 1 + max a b;
  split = λ a b. 1 + max a b;
  loop = λ a. 1 + a;
  call = λ a. 1 + a;
  syscall = λ a. 1 + a;
  dyn = λ targets. 1 + greatest targets;
}

-- a list whose blocks are seen as something else
abbrev pub seen_piece : {A B : Type 0} → (A → B) → Piece A → Piece B
seen_piece f (Operation item) = Operation item
seen_piece f (Whole block) = Whole (f block)

abbrev pub seen_pieces : {A B : Type 0} → (A → B) → List (Piece A) → List (Piece B)
seen_pieces f pieces = map (seen_piece f) pieces
