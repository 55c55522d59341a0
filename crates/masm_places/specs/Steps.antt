-- What a cycle does to what is still to come of a run. A cycle is known by its operation, with what PUSH pushes, and by the cell on top
-- of the stack before it, which decides at `if.true` and `while.true`.
use Rattle.std.specs.Prelude.{ℕ, ◌+◌, ◌-◌, ◌==◌, ◌&&◌, ◌||◌, Bool, true, false, not, nat_lt, if◌then◌else◌, ◌∷◌, Option, Some, None, slice_get}
use Rattle.vm_field.specs.Limits.{most_nesting}
use Rattle.vm_ops.specs.Codes.{code_of, kind_of}
use Rattle.vm_ops.specs.declared.item.Item.{Item}
use Rattle.vm_ops.specs.declared.kind.Kind.{Kind}
use Rattle.vm_ops.specs.declared.kind.Kind.TheVariants as kinds
use Rattle.vm_ops.specs.declared.op.Op.{Op}
use Rattle.vm_ops.specs.declared.op.Op.TheVariants as ops
use Rattle.masm_tree.specs.declared.terminal.Leaf.{Leaf}
use Rattle.masm_tree.specs.declared.terminal.Leaf.TheVariants as leaves
use Rattle.masm_tree.specs.Trees.{Body, Empty, Leaf_then, If_then, While_then, Repeat_then}
use Rattle.masm_places.specs.declared.level.Part.{Part}
use Rattle.masm_places.specs.declared.level.Part.TheVariants as parts
use Rattle.masm_places.specs.Texts.{Texts, Found, found, found_in_kernel}
use Rattle.masm_places.specs.Pending.{Level, Walk, taken, begun, within, turned, faced, entry_items}
use Rattle.masm_places.specs.Silent.{lost, innermost, outer, is_busy, settled}

-- the statement that comes next is told, where it was not taken up
abbrev pub reached_at : Walk → Option Level → Walk
reached_at w None = w
reached_at w (Some l) = record w { levels = faced l ∷ outer w }

abbrev pub reached : Walk → Walk
reached w = if is_busy w then w else reached_at w (innermost w)

-- a join or a span starts
abbrev pub opened : Walk → Walk
opened w = if nat_lt w.nested most_nesting then record w { nested = w.nested + 1 } else lost w

-- the operation that starts the block of a statement, if it is one
abbrev pub leaf_op : Leaf → Option Op
leaf_op (leaves.Instr i) = None
leaf_op (leaves.Exec name) = None
leaf_op (leaves.Call name) = Some ops.Call
leaf_op (leaves.Syscall name) = Some ops.Syscall
leaf_op (leaves.ProcRef name) = None
leaf_op leaves.DynExec = Some ops.Dyn

abbrev pub block_op : Body → Option Op
block_op Empty = None
block_op (Leaf_then at leaf rest) = leaf_op leaf
block_op (If_then at first second rest) = Some ops.Split
block_op (While_then at turn rest) = Some ops.Loop
block_op (Repeat_then at n turn rest) = None

abbrev pub is_op : Option Op → Op → Bool
is_op None op = false
is_op (Some wanted) op = code_of wanted == code_of op

-- a part of the statement that was taken up begins, in a block of its own
abbrev pub inside : Walk → Level → Part → Body → Body → Walk
inside w l part first again = record w { levels = within l part l.at first again w.nested ∷ l ∷ outer w; nested = 0 }

-- a procedure begins in a block of its own
abbrev pub calls : Walk → Level → Option Found → Walk
calls w l None = lost w
calls w l (Some f) = record {
  levels = begun parts.Call f w.nested ∷ l ∷ outer w;
  items = entry_items f.procedure.locals;
  done = 0;
  literals = 0;
  nested = 0;
}

-- the body that the top cell chooses
abbrev pub chosen : ℕ → Body → Body → Body
chosen top on_one on_zero = if top == 1 then on_one else on_zero

-- the block of a leaf starts, with the level at which it was taken up
abbrev pub enters_leaf : Texts → Walk → Level → Leaf → Walk
enters_leaf texts w l (leaves.Instr i) = lost w
enters_leaf texts w l (leaves.Exec name) = lost w
enters_leaf texts w l (leaves.Call name) = calls w l (found texts l.origin name)
enters_leaf texts w l (leaves.Syscall name) = calls w l (found_in_kernel texts name)
enters_leaf texts w l (leaves.ProcRef name) = lost w
enters_leaf texts w l leaves.DynExec = inside w l parts.Dynamic Empty Empty

-- that of the statement that is left first at a level
abbrev pub enters : Texts → ℕ → Walk → Level → Body → Walk
enters texts top w l Empty = lost w
enters texts top w l (Leaf_then at leaf rest) = enters_leaf texts w (taken l at rest) leaf
enters texts top w l (If_then at one other rest) = inside w (taken l at rest) parts.Branch (chosen top one other) Empty
enters texts top w l (While_then at turn rest) = inside w (taken l at rest) parts.Turn (chosen top turn Empty) turn
enters texts top w l (Repeat_then at n turn rest) = lost w

-- where the operation is the one that starts such a block
abbrev pub enters_by : Texts → Op → ℕ → Walk → Level → Walk
enters_by texts op top w l = if is_op (block_op l.left) op then enters texts top w l l.left else lost w

abbrev pub entered_at : Texts → Op → ℕ → Walk → Option Level → Walk
entered_at texts op top w None = w
entered_at texts op top w (Some l) = enters_by texts op top w l

abbrev pub entered : Texts → Op → ℕ → Walk → Walk
entered texts op top w = if is_busy w then lost w else entered_at texts op top w (innermost w)

-- whether no statement is left
abbrev pub is_empty : Body → Bool
is_empty Empty = true
is_empty (Leaf_then at leaf rest) = false
is_empty (If_then at first second rest) = false
is_empty (While_then at turn rest) = false
is_empty (Repeat_then at n turn rest) = false

-- whether a level has a block of its own
abbrev pub has_block : Part → Bool
has_block parts.Exec = false
has_block (parts.Repeat n) = false
has_block parts.Call = true
has_block parts.Branch = true
has_block parts.Turn = true
has_block parts.Dynamic = true

abbrev pub is_turn : Part → Bool
is_turn parts.Exec = false
is_turn (parts.Repeat n) = false
is_turn parts.Call = false
is_turn parts.Branch = false
is_turn parts.Turn = true
is_turn parts.Dynamic = false

abbrev pub is_dynamic : Part → Bool
is_dynamic parts.Exec = false
is_dynamic (parts.Repeat n) = false
is_dynamic parts.Call = false
is_dynamic parts.Branch = false
is_dynamic parts.Turn = false
is_dynamic parts.Dynamic = true

-- the block of a level ends
abbrev pub leaves_by : Walk → Level → Walk
leaves_by w l =
    if is_empty l.left && (not l.owes && has_block l.part) then record w { levels = outer w; nested = l.outside } else lost w

abbrev pub left_at : Walk → Option Level → Walk
left_at w None = w
left_at w (Some l) = leaves_by w l

abbrev pub left : Walk → Walk
left w = if is_busy w then lost w else left_at w (innermost w)

-- a block ends: a join or a span where one is open
abbrev pub closed : Texts → Walk → Walk
closed texts w = if nat_lt 0 w.nested then record w { nested = w.nested - 1 } else left (settled texts w)

-- a turn of a loop begins behind another one
abbrev pub turns_by : Walk → Level → Walk
turns_by w l = if is_empty l.left && is_turn l.part then record w { levels = turned l l.part ∷ outer w } else lost w

abbrev pub repeated_at : Walk → Option Level → Walk
repeated_at w None = w
repeated_at w (Some l) = turns_by w l

abbrev pub repeated : Walk → Walk
repeated w = if is_busy w then lost w else repeated_at w (innermost w)

-- two immediates are the same, and two operations with theirs
abbrev pub same_immediate : Option ℕ → Option ℕ → Bool
same_immediate None None = true
same_immediate None (Some b) = false
same_immediate (Some a) None = false
same_immediate (Some a) (Some b) = a == b

abbrev pub same_item : Item → Item → Bool
same_item a b = (code_of a.op == code_of b.op) && same_immediate a.imm b.imm

abbrev pub is_item : Option Item → Item → Bool
is_item None item = false
is_item (Some wanted) item = same_item wanted item

-- whether an operation puts a number on the stack
abbrev pub is_literal : Item → Bool
is_literal item = (code_of item.op == code_of ops.Pad) || (code_of item.op == code_of ops.Push)

-- an operation of an instruction comes
abbrev pub comes : Item → Walk → Walk
comes item w = if is_item (slice_get w.items w.done) item then record w { done = w.done + 1 } else lost w

abbrev pub acted : Item → Walk → Walk
acted item w =
    if nat_lt 0 w.literals then (if is_literal item then record w { literals = w.literals - 1 } else lost w)
    else comes item w

-- NOOP fills a span, and is no instruction's
abbrev pub is_noop : Op → Bool
is_noop op = code_of op == code_of ops.Noop

-- Inside a dynamic block it is not known which procedure runs. The levels stay until the block ends.
abbrev pub unseen_left : Walk → Level → Walk
unseen_left w l = if is_busy w then lost w else record w { levels = outer w; nested = l.outside }

abbrev pub unseen_end : Walk → Level → Walk
unseen_end w l =
    if nat_lt 0 w.nested then record w { nested = w.nested - 1 } else unseen_left w l

abbrev pub unseen : Walk → Level → Kind → Walk
unseen w l kinds.Ordinary = w
unseen w l kinds.Join = opened w
unseen w l kinds.Split = opened w
unseen w l kinds.Loop = opened w
unseen w l kinds.Span = opened w
unseen w l kinds.Call = opened w
unseen w l kinds.Syscall = opened w
unseen w l kinds.Dyn = opened w
unseen w l kinds.End = unseen_end w l
unseen w l kinds.Repeat = w
unseen w l kinds.Respan = w
unseen w l kinds.Halt = w

-- and elsewhere it is
abbrev pub seen : Texts → Item → ℕ → Walk → Kind → Walk
seen texts item top w kinds.Ordinary = if is_noop item.op then w else acted item (settled texts w)
seen texts item top w kinds.Join = opened (reached (settled texts w))
seen texts item top w kinds.Split = entered texts item.op top (settled texts w)
seen texts item top w kinds.Loop = entered texts item.op top (settled texts w)
seen texts item top w kinds.Span = opened (reached (settled texts w))
seen texts item top w kinds.Call = entered texts item.op top (settled texts w)
seen texts item top w kinds.Syscall = entered texts item.op top (settled texts w)
seen texts item top w kinds.Dyn = entered texts item.op top (settled texts w)
seen texts item top w kinds.End = closed texts w
seen texts item top w kinds.Repeat = repeated (settled texts w)
seen texts item top w kinds.Respan = settled texts w
seen texts item top w kinds.Halt = w

abbrev pub stepped_at : Texts → Item → ℕ → Walk → Option Level → Walk
stepped_at texts item top w None = w
stepped_at texts item top w (Some l) =
    if is_dynamic l.part then unseen w l (kind_of item.op) else seen texts item top w (kind_of item.op)

-- a cycle of this operation, with this cell on top
unfoldable pub stepped : Texts → Item → ℕ → Walk → Walk
stepped texts item top w = stepped_at texts item top w (innermost w)
