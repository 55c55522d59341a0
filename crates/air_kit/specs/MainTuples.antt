-- What a row of the main table gives and asks on each bus, by its operation, its cells and those of the row after it.
use Rattle.std.specs.Prelude.{ℕ, zero, suc, ◌-◌, Bool, ◌==◌, ◌&&◌, ◌||◌, if◌then◌else◌, List, [], ◌∷◌, ◌++◌}
use Rattle.vm_field.specs.Limits.{most_nesting}
use Rattle.vm_field.specs.Signs.{◌⊞◌, ◌⊟◌, ◌⊠◌}
use Rattle.vm_ops.specs.Codes.{code_of, is_ordinary_op, is_start_op, kind_of}
use Rattle.vm_ops.specs.declared.kind.Kind.{Kind}
use Rattle.vm_ops.specs.declared.kind.Kind.TheVariants as kinds
use Rattle.vm_ops.specs.declared.op.Op.{Op}
use Rattle.vm_ops.specs.declared.op.Op.TheVariants as ops
use Rattle.vm_table.specs.MainColumns.{clk, fmp, ctx, sys, f, addr, h, sp, gc, c, s, depth, key, ha, lv, w, t}
use Rattle.buses.specs.Counts.{Counted, once}
use Rattle.buses.specs.declared.bus.Bus.{Bus}
use Rattle.buses.specs.declared.bus.Bus.TheVariants as bus
use Rattle.air_kit.specs.Flags.{is_op, is_left, is_right, op_of}
use Rattle.air_kit.specs.SpanValues.{rest_flag}

-- Blocks: a start gives its block, its parent, its kind, and, where it calls, what the END brings back.
abbrev pub no_frame : List ℕ
no_frame = 0 ∷ 0 ∷ 0 ∷ 0 ∷ 0 ∷ 0 ∷ 0 ∷ 0 ∷ 0 ∷ []

abbrev pub frame_cells : List ℕ → List ℕ
frame_cells x = ctx x ∷ fmp x ∷ sys x ∷ depth x ∷ key x ∷ f x 0 ∷ f x 1 ∷ f x 2 ∷ f x 3 ∷ []

-- the kind of a block that starts, as the tuples number it; 0 where none starts
abbrev pub start_number : Kind → List ℕ → ℕ
start_number kinds.Ordinary x = 0
start_number kinds.Join x = 0
start_number kinds.Split x = 0
start_number kinds.Loop x = s x 0
start_number kinds.Span x = 2
start_number kinds.Call x = 3
start_number kinds.Syscall x = 4
start_number kinds.Dyn x = 0
start_number kinds.End x = 0
start_number kinds.Repeat x = 0
start_number kinds.Respan x = 0
start_number kinds.Halt x = 0

abbrev pub kind_of_start : Op → List ℕ → ℕ
kind_of_start op x = start_number (kind_of op) x

abbrev pub is_call_op : Op → Bool
is_call_op op = is_op op ops.Call || is_op op ops.Syscall

unfoldable pub blocks_given : List ℕ → List ℕ → List Counted
blocks_given x y =
    if is_start_op (op_of x)
    then once (addr y ∷ addr x ∷ kind_of_start (op_of x) x ∷ (if is_call_op (op_of x) then frame_cells x else no_frame)) ∷ []
    else []

-- the kind of a block that ends, by the END's flags
abbrev pub kind_of_end : List ℕ → ℕ
kind_of_end x = h x 4 ⊞ 2 ⊠ h x 5 ⊞ 3 ⊠ h x 6 ⊞ 4 ⊠ h x 7

unfoldable pub blocks_asked : List ℕ → List ℕ → List Counted
blocks_asked x y =
    if is_op (op_of x) ops.End
    then once (addr x ∷ addr y ∷ kind_of_end x ∷ (if h x 6 ⊞ h x 7 == 1 then frame_cells y else no_frame)) ∷ []
    else []

-- Children: the block, the child's digest, and whether another child starts behind it.
abbrev pub front : List ℕ → List ℕ
front x = h x 0 ∷ h x 1 ∷ h x 2 ∷ h x 3 ∷ []

abbrev pub back : List ℕ → List ℕ
back x = h x 4 ∷ h x 5 ∷ h x 6 ∷ h x 7 ∷ []

abbrev pub child : ℕ → List ℕ → ℕ → Counted
child parent digest more = once (parent ∷ digest ++ more ∷ [])

-- the digest on top of the stack, its last element on top
abbrev pub called_digest : List ℕ → List ℕ
called_digest x = s x 3 ∷ s x 2 ∷ s x 1 ∷ s x 0 ∷ []

-- those that a row of a kind gives
abbrev pub children_by : Kind → List ℕ → List ℕ → List Counted
children_by kinds.Ordinary x y = []
children_by kinds.Join x y = child (addr y) (front x) 1 ∷ child (addr y) (back x) 0 ∷ []
children_by kinds.Split x y = child (addr y) (if s x 0 == 1 then front x else back x) 0 ∷ []
children_by kinds.Loop x y = if s x 0 == 1 then child (addr y) (front x) 0 ∷ [] else []
children_by kinds.Span x y = []
children_by kinds.Call x y = child (addr y) (front x) 0 ∷ []
children_by kinds.Syscall x y = child (addr y) (front x) 0 ∷ []
children_by kinds.Dyn x y = child (addr y) (called_digest x) 0 ∷ []
children_by kinds.End x y = []
children_by kinds.Repeat x y = child (addr x) (front x) 0 ∷ []
children_by kinds.Respan x y = []
children_by kinds.Halt x y = []

unfoldable pub children_of : Op → List ℕ → List ℕ → List Counted
children_of op x y = children_by (kind_of op) x y

unfoldable pub children_given : List ℕ → List ℕ → List Counted
children_given x y = children_of (op_of x) x y

unfoldable pub children_asked : List ℕ → List ℕ → List Counted
children_asked x y =
    if is_op (op_of x) ops.End then child (addr y) (front x) (if is_start_op (op_of y) then 1 else 0) ∷ [] else []

-- Loops: a loop and the digest of its body, as often as the loop's witness says.
unfoldable pub loops_given : List ℕ → List ℕ → List Counted
loops_given x y = if is_op (op_of x) ops.Loop then record { tuple = addr y ∷ front x; count = w x 0 } ∷ [] else []

unfoldable pub loops_asked : List ℕ → List ℕ → List Counted
loops_asked x y = if is_op (op_of x) ops.Repeat then once (addr x ∷ front x) ∷ [] else []

-- Groups: the batch, how many positions are left with this one, and the element.
-- the positions in use
unfoldable pub positions : List ℕ → ℕ
positions x = 1 ⊞ 7 ⊠ c x 0 ⊞ 3 ⊠ c x 1 ⊞ c x 2

-- so many positions from position q on
unfoldable pub groups_from : List ℕ → List ℕ → ℕ → ℕ → List Counted
groups_from x y q zero = []
groups_from x y q (suc n) = once (ha y ∷ suc n ∷ h x q ∷ []) ∷ groups_from x y (suc q) n

abbrev pub is_batch_op : Op → Bool
is_batch_op op = is_op op ops.Span || is_op op ops.Respan

unfoldable pub groups_given : List ℕ → List ℕ → List Counted
groups_given x y = if is_batch_op (op_of x) then groups_from x y 1 (positions x - 1) else []

-- a group ends where nothing is left of it and the span goes on
abbrev pub opens_group : List ℕ → List ℕ → Bool
opens_group x y = is_ordinary_op (op_of x) && (rest_flag x == 0) && (sp y == 1)

unfoldable pub groups_asked : List ℕ → List ℕ → List Counted
groups_asked x y =
    if is_op (op_of x) ops.Push then once (ha x ∷ gc x ∷ s y 0 ∷ []) ∷ []
    else if opens_group x y then once (ha x ∷ gc x ∷ h y 0 ∷ []) ∷ [] else []

-- Overflow: the clock of the row that pushed a cell below the sixteenth, the cell, and the key of the one below it.
unfoldable pub overflow_given : List ℕ → List ℕ → List Counted
overflow_given x y = if is_right (op_of x) then once (clk x ∷ s x 15 ∷ key x ∷ []) ∷ [] else []

-- the stack has one cell fewer behind the row
abbrev pub row_shifts_left : List ℕ → Bool
row_shifts_left x = is_left (op_of x) || (is_op (op_of x) ops.End && (h x 4 == 1))

unfoldable pub overflow_asked : List ℕ → List ℕ → List Counted
overflow_asked x y =
    if row_shifts_left x then (if depth x == 16 then [] else once (key x ∷ s y 15 ∷ key y ∷ []) ∷ []) else []

-- Hasher: the tag of the step, its address, and the elements.
abbrev pub eight : List ℕ → List ℕ
eight x = h x 0 ∷ h x 1 ∷ h x 2 ∷ h x 3 ∷ h x 4 ∷ h x 5 ∷ h x 6 ∷ h x 7 ∷ []

-- the state that HPERM permutes, element 0 first
abbrev pub twelve : List ℕ → List ℕ
twelve x =
    s x 11 ∷ s x 10 ∷ s x 9 ∷ s x 8 ∷ s x 7 ∷ s x 6 ∷ s x 5 ∷ s x 4 ∷ s x 3 ∷ s x 2 ∷ s x 1 ∷ s x 0 ∷ []

-- the domain of a block's hash: its code, and 0 for a span
abbrev pub domain_of : Op → ℕ
domain_of op = if is_op op ops.Span then 0 else code_of op

-- where the hash ends: at the last batch of a span, or at the block's only permutation
abbrev pub hash_end : List ℕ → ℕ
hash_end x = (if h x 5 == 1 then ha x else addr x) ⊞ 7

unfoldable pub hasher_asked : List ℕ → List ℕ → List Counted
hasher_asked x y =
    if is_start_op (op_of x) then once (1 ∷ addr y ∷ domain_of (op_of x) ∷ eight x) ∷ []
    else if is_op (op_of x) ops.Respan then once (2 ∷ (ha x ⊞ 8) ∷ eight x) ∷ []
    else if is_op (op_of x) ops.End then once (3 ∷ hash_end x ∷ front x) ∷ []
    else if is_op (op_of x) ops.HPerm then once (4 ∷ w x 0 ∷ twelve x) ∷ once (5 ∷ (w x 0 ⊞ 7) ∷ twelve y) ∷ []
    else []

-- Bitwise: 0 for the and, 1 for the exclusive or, the operands, the result.
unfoldable pub bitwise_asked : List ℕ → List ℕ → List Counted
bitwise_asked x y =
    if is_op (op_of x) ops.U32And then once (0 ∷ s x 0 ∷ s x 1 ∷ s y 0 ∷ []) ∷ []
    else if is_op (op_of x) ops.U32Xor then once (1 ∷ s x 0 ∷ s x 1 ∷ s y 0 ∷ []) ∷ [] else []

-- Memory: the kind of access, the context, the address, the clock, and the word behind it.
abbrev pub access : ℕ → List ℕ → List ℕ → List Counted
access kind x word = once (kind ∷ ctx x ∷ s x 0 ∷ clk x ∷ word) ∷ []

unfoldable pub accesses_of : Op → List ℕ → List ℕ → List Counted
accesses_of ops.MLoad x y = access 0 x (s y 0 ∷ t x 0 ∷ t x 1 ∷ t x 2 ∷ [])
accesses_of ops.MLoadW x y = access 0 x (s y 3 ∷ s y 2 ∷ s y 1 ∷ s y 0 ∷ [])
accesses_of ops.MStore x y = access 2 x (s x 1 ∷ t x 0 ∷ t x 1 ∷ t x 2 ∷ [])
accesses_of ops.MStoreW x y = access 1 x (s x 4 ∷ s x 3 ∷ s x 2 ∷ s x 1 ∷ [])
accesses_of op x y = []

unfoldable pub memory_asked : List ℕ → List ℕ → List Counted
memory_asked x y = accesses_of (op_of x) x y

-- Range: limbs of 16 bits, and how many more blocks may be nested in one that starts.
-- how many limbs an operation has
abbrev pub count_of_limbs : Op → ℕ
count_of_limbs ops.U32Split = 4
count_of_limbs ops.U32Assert2 = 4
count_of_limbs ops.U32Sub = 6
count_of_limbs ops.U32Add = 7
count_of_limbs ops.U32Mul = 8
count_of_limbs ops.U32Add3 = 9
count_of_limbs ops.U32MAdd = 10
count_of_limbs ops.U32Div = 10
count_of_limbs op = 0

-- so many limbs from limb j on
unfoldable pub limbs_from : List ℕ → ℕ → ℕ → List Counted
limbs_from x j zero = []
limbs_from x j (suc n) = once (t x j ∷ []) ∷ limbs_from x (suc j) n

unfoldable pub range_asked : List ℕ → List ℕ → List Counted
range_asked x y =
    if is_start_op (op_of x) then once ((most_nesting ⊟ lv y) ∷ []) ∷ [] else limbs_from x 0 (count_of_limbs (op_of x))

-- Kernel: the digest that a syscall calls.
unfoldable pub kernel_asked : List ℕ → List ℕ → List Counted
kernel_asked x y = if is_op (op_of x) ops.Syscall then once (front x) ∷ [] else []

-- what a row of the main table gives
abbrev pub main_given : Bus → List ℕ → List ℕ → List Counted
main_given bus.Blocks x y = blocks_given x y
main_given bus.Children x y = children_given x y
main_given bus.Loops x y = loops_given x y
main_given bus.Groups x y = groups_given x y
main_given bus.Overflow x y = overflow_given x y
main_given bus.Hasher x y = []
main_given bus.Bitwise x y = []
main_given bus.Memory x y = []
main_given bus.Range x y = []
main_given bus.Kernel x y = []

-- what it asks
abbrev pub main_asked : Bus → List ℕ → List ℕ → List Counted
main_asked bus.Blocks x y = blocks_asked x y
main_asked bus.Children x y = children_asked x y
main_asked bus.Loops x y = loops_asked x y
main_asked bus.Groups x y = groups_asked x y
main_asked bus.Overflow x y = overflow_asked x y
main_asked bus.Hasher x y = hasher_asked x y
main_asked bus.Bitwise x y = bitwise_asked x y
main_asked bus.Memory x y = memory_asked x y
main_asked bus.Range x y = range_asked x y
main_asked bus.Kernel x y = kernel_asked x y
