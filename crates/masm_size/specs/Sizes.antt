-- The sizes of lists (docs/ASSEMBLY.md, "What is refused"): how many operations there are, up to a limit, and how high the
-- blocks stand, with no block built.
use Rattle.std.specs.Prelude.{ℕ, zero, suc, ◌+◌, ◌-◌, ◌*◌, ◌/◌, ◌%◌, min, max, Bool, true, false, not, ◌&&◌, ◌||◌, nat_eq, nat_lt, nat_le, if◌then◌else◌, List, [], ◌∷◌, ◌++◌, length, map, sum, Option, Some, None}
use Rattle.vm_field.specs.Limits.{most_nesting, most_operations}
use Rattle.vm_ops.specs.declared.item.Item.{Item}
use Rattle.masm_expand.specs.Expansion.{expansion}
use Rattle.masm_tree.specs.declared.terminal.Leaf.TheVariants as leaves
use Rattle.masm_tree.specs.Trees.{Body, Empty, Leaf_then, If_then, While_then, Repeat_then}
use Rattle.masm_flat.specs.declared.extent.Extent.{Extent}
use Rattle.masm_size.specs.declared.shape.Outline.{Outline}
use Rattle.masm_size.specs.declared.shape.Part.{Part}
use Rattle.masm_size.specs.declared.shape.Rise.{Rise}
use Rattle.masm_size.specs.declared.shape.Size as code
use Rattle.masm_flat.specs.Blocks.{View, Piece, Operation, Whole, all_joined, greatest}

abbrev pub extent : ℕ → ℕ → Extent
extent operations height = record { operations = min operations (most_operations + 1); height = min height (most_nesting + 1) }

-- how many operations a block has, and how many blocks stand on its longest path
abbrev pub as_extent : View Extent
as_extent = record {
  span = λ items. extent (length items) 1;
  join = λ a b. extent (a.operations + b.operations) (1 + max a.height b.height);
  split = λ a b. extent (a.operations + b.operations) (1 + max a.height b.height);
  loop = λ a. extent a.operations (1 + a.height);
  call = λ a. extent a.operations (1 + a.height);
  syscall = λ a. extent a.operations (1 + a.height);
  dyn = λ targets. extent (1 + sum (map (λ a. a.operations) targets)) (1 + greatest (map (λ a. a.height) targets));
}

-- a part of a list: a run of operations, or a block with its height
pub data Shape : Type 0 where
  Run : Shape
  High : (height : ℕ) → Shape

-- two runs that meet are one
abbrev pub put : Shape → List Shape → List Shape
put Run (Run ∷ xs) = Run ∷ xs
put x xs = x ∷ xs

abbrev pub shape_of : Piece Extent → Shape
shape_of (Operation item) = Run
shape_of (Whole e) = High e.height

-- the parts of a list, in which neighbouring operations are one run
abbrev pub shapes_of : List (Piece Extent) → List Shape
shapes_of [] = []
shapes_of (piece ∷ pieces) = put (shape_of piece) (shapes_of pieces)

abbrev pub total : List (Piece Extent) → ℕ
total [] = 0
total (Operation item ∷ pieces) = 1 + total pieces
total (Whole e ∷ pieces) = e.operations + total pieces

abbrev pub height_of : Shape → ℕ
height_of Run = 1
height_of (High height) = height

abbrev pub starts_in_run : List Shape → Bool
starts_in_run [] = false
starts_in_run (Run ∷ xs) = true
starts_in_run (High height ∷ xs) = false

abbrev pub ends_in_run : List Shape → Bool
ends_in_run [] = false
ends_in_run (Run ∷ []) = true
ends_in_run (High height ∷ []) = false
ends_in_run (x ∷ y ∷ xs) = ends_in_run (y ∷ xs)

abbrev pub one_if : Bool → ℕ
one_if true = 1
one_if false = 0

-- numbers up to a ceiling that none of a tree within the limits has
abbrev pub capped : ℕ → ℕ
capped n = min n 4294967295

-- the parts that are higher than all before them, behind so many parts below this height
abbrev pub rises_from : (index below : ℕ) → List ℕ → List Rise
rises_from index below [] = []
rises_from index below (h ∷ hs) =
    if nat_le below h then (record { index = capped index; height = h }) ∷ rises_from (suc index) (suc h) hs else rises_from (suc index) below hs

-- What counts of the parts of a list: how many there are before a run that stands last, whether a run stands first and
-- last, and the parts that are higher than all before them. No other part can make the blocks higher once they are joined,
-- since none stands deeper than those before it.
pub record ShapeRow : Type 0 where
  pub whole : ℕ
  pub starts : Bool
  pub ends : Bool
  pub rises : List Rise

abbrev pub row_of : List Shape → ShapeRow
row_of xs = record {
  whole = capped (length xs - one_if (ends_in_run xs));
  starts = starts_in_run xs;
  ends = ends_in_run xs;
  rises = rises_from 0 0 (map height_of xs);
}

abbrev pub no_row : ShapeRow
no_row = record { whole = 0; starts = false; ends = false; rises = [] }

pub record Size : Type 0 where
  pub operations : ℕ
  pub row : ShapeRow

-- lists in memory
abbrev pub row_view : Outline → List Rise → ShapeRow
row_view outline rises = record { whole = outline.whole; starts = outline.starts_in_run; ends = outline.ends_in_run; rises = rises }

abbrev pub size_view : code.Size → Size
size_view size = record { operations = size.operations; row = row_view size.outline size.rises.items }

abbrev pub part_view : Part → Size
part_view part = record { operations = part.operations; row = row_view part.outline part.rises.now }

-- above the limit no parts are kept
abbrev pub limited : ℕ → ShapeRow → Size
limited operations row =
    if nat_le operations most_operations then record { operations = operations; row = row } else record { operations = most_operations + 1; row = no_row }

-- the size of a list
abbrev pub size_of : List (Piece Extent) → Size
size_of pieces = limited (total pieces) (row_of (shapes_of pieces))

abbrev pub nothing : Size
nothing = record { operations = 0; row = no_row }

abbrev pub one_run : ShapeRow
one_run = record { whole = 0; starts = true; ends = true; rises = record { index = 0; height = 1 } ∷ [] }

abbrev pub one_block : ℕ → ShapeRow
one_block height = record { whole = 1; starts = false; ends = false; rises = record { index = 0; height = height } ∷ [] }

-- the size of so many operations
abbrev pub run_of : ℕ → Size
run_of zero = nothing
run_of (suc n) = limited (suc n) one_run

-- above the last of these
abbrev pub top_of : ℕ → List Rise → ℕ
top_of below [] = below
top_of below (rise ∷ rises) = top_of (suc rise.height) rises

abbrev pub top_after : Option Rise → ℕ
top_after None = 0
top_after (Some rise) = suc rise.height

-- those of some parts that are as high as this, behind so many others
abbrev pub rises_behind : (offset below : ℕ) → List Rise → List Rise
rises_behind offset below [] = []
rises_behind offset below (rise ∷ rises) =
    if nat_le below rise.height then (record { index = capped (offset + rise.index); height = rise.height }) ∷ rises_behind offset below rises
    else rises_behind offset below rises

-- how many parts stand before those of a list that stands behind another; two runs that meet are one part
abbrev pub offset_of : ShapeRow → Bool → ℕ
offset_of before starts = capped (before.whole + one_if (before.ends && not starts))

abbrev pub starts_with : ShapeRow → Bool → List Rise → Bool
starts_with before starts [] = starts
starts_with before starts (rise ∷ rises) = before.starts

abbrev pub row_behind : ShapeRow → ShapeRow → List Rise → ShapeRow
row_behind before more [] = before
row_behind before more (rise ∷ rises) = record {
  whole = capped (offset_of before more.starts + more.whole);
  starts = starts_with before more.starts before.rises;
  ends = more.ends;
  rises = before.rises ++ rises_behind (offset_of before more.starts) (top_of 0 before.rises) (rise ∷ rises);
}

-- the parts of two lists, one behind the other
unfoldable pub row_both : ShapeRow → ShapeRow → ShapeRow
row_both before more = row_behind before more more.rises

unfoldable pub both : Size → Size → Size
both a b = limited (a.operations + b.operations) (row_both a.row b.row)

-- the parts of a list and of so many more behind it
unfoldable pub row_times : ℕ → ShapeRow → ShapeRow
row_times more row = record row { whole = capped (row.whole + more * offset_of row row.starts) }

-- a list so many times
abbrev pub times_size : ℕ → Size → Size
times_size zero s = nothing
times_size (suc n) s = limited (suc n * s.operations) (row_times n s.row)

abbrev pub join_heights : ℕ → ℕ → ℕ
join_heights a b = min (1 + max a b) (most_nesting + 1)

abbrev pub one_high : List Item → ℕ
one_high items = 1

-- the height of the blocks of these heights, joined
abbrev pub height_joined : List ℕ → ℕ
height_joined heights = all_joined one_high join_heights heights

-- One of so many blocks, at this place: whether it is joined with another one on the next level.
abbrev pub is_joined : (count index : ℕ) → Bool
is_joined count index = nat_lt (index + 1) count || nat_eq (count % 2) 0

abbrev pub height_next : (count index height : ℕ) → ℕ
height_next count index height = if is_joined count index then min (1 + height) (most_nesting + 1) else height

-- how high a block of this height comes to stand among so many, on at most so many levels
abbrev pub height_within : (levels count index height : ℕ) → ℕ
height_within zero count index height = height
height_within (suc levels) count index height =
    if nat_lt 1 count then height_within levels (count / 2 + count % 2) (index / 2) (height_next count index height) else height

unfoldable pub height_among : (count index height : ℕ) → ℕ
height_among count index height = height_within count count index height

-- the greatest of these heights
abbrev pub highest : ℕ → List Rise → ℕ
highest count [] = 0
highest count (rise ∷ rises) = max (height_among count rise.index rise.height) (highest count rises)

-- no block at all is a span of one NOOP
abbrev pub row_height : ShapeRow → List Rise → ℕ
row_height row [] = 1
row_height row (rise ∷ rises) = highest (capped (row.whole + one_if row.ends)) (rise ∷ rises)

-- the extent of the block of a list
abbrev pub extent_of : Size → Extent
extent_of s = record { operations = max 1 s.operations; height = row_height s.row s.row.rises }

-- the size of one block
abbrev pub block_size : Extent → Size
block_size e = limited e.operations (one_block e.height)

-- a procref is one operation for each element of a digest
abbrev pub digest_operations : ℕ
digest_operations = 4

-- What is known of procedures by their names: the sizes of the source's, the extents of the kernel's; and the extent of a
-- dynexec's block.
pub record Known_sizes : Type 0 where
  pub size : List ℕ → Size
  pub exported : List ℕ → Extent
  pub dispatch : Extent

-- the size of what stands before a body, and then the body, in a procedure of so many locals
abbrev pub size_onto : Known_sizes → ℕ → Body → Size → Size
size_onto known locals Empty before = before
size_onto known locals (Leaf_then at (leaves.Instr i) rest) before =
    size_onto known locals rest (both before (run_of (length (expansion i.name i.numbers locals))))
size_onto known locals (Leaf_then at (leaves.Exec name) rest) before = size_onto known locals rest (both before (known.size name))
size_onto known locals (Leaf_then at (leaves.Call name) rest) before =
    size_onto known locals rest (both before (block_size (as_extent.call (extent_of (known.size name)))))
size_onto known locals (Leaf_then at (leaves.Syscall name) rest) before =
    size_onto known locals rest (both before (block_size (as_extent.syscall (known.exported name))))
size_onto known locals (Leaf_then at (leaves.ProcRef name) rest) before = size_onto known locals rest (both before (run_of digest_operations))
size_onto known locals (Leaf_then at leaves.DynExec rest) before = size_onto known locals rest (both before (block_size known.dispatch))
size_onto known locals (If_then at first second rest) before =
    size_onto known locals rest (both before (block_size
    (as_extent.split (extent_of (size_onto known locals first nothing)) (extent_of (size_onto known locals second nothing)))))
size_onto known locals (While_then at turn rest) before =
    size_onto known locals rest (both before (block_size (as_extent.loop (extent_of (size_onto known locals turn nothing)))))
size_onto known locals (Repeat_then at n turn rest) before =
    size_onto known locals rest (both before (times_size n (size_onto known locals turn nothing)))

-- the size of the list of a procedure with so many locals; the frame pointer moves up and down by two operations each
abbrev pub procedure_size : Known_sizes → ℕ → Body → Size
procedure_size known zero body = size_onto known zero body nothing
procedure_size known (suc n) body = both (size_onto known (suc n) body (both nothing (run_of 2))) (run_of 2)
