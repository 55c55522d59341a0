-- Statements that take no cycle: what is passed on the way to the next statement that takes one.
use Rattle.std.specs.Prelude.{ℕ, zero, suc, ◌||◌, Bool, not, nat_lt, if◌then◌else◌, List, [], ◌∷◌, length, drop, slice_get, Option, Some, None, unwrap_or}
use Rattle.std.specs.Option.{option_map}
use Rattle.vm_ops.specs.declared.item.Item.{Item}
use Rattle.masm_instr.specs.Instructions.{Instruction, first, names_local}
use Rattle.masm_expand.specs.Expansion.{expansion}
use Rattle.masm_tree.specs.declared.terminal.Leaf.{Leaf}
use Rattle.masm_tree.specs.declared.terminal.Leaf.TheVariants as leaves
use Rattle.masm_tree.specs.Trees.{Body, Empty, Leaf_then, If_then, While_then, Repeat_then}
use Rattle.masm_places.specs.declared.level.Part.{Part}
use Rattle.masm_places.specs.declared.level.Part.TheVariants as parts
use Rattle.masm_places.specs.Texts.{Texts, Found, found}
use Rattle.masm_places.specs.Pending.{Level, Walk, taken, begun, within, turned, entry_items, exited, exit_items}

-- where nothing is known any more there is no level
abbrev pub lost : Walk → Walk
lost w = record w { levels = [] }

-- the level that the run is in, and those around it
abbrev pub innermost : Walk → Option Level
innermost w = slice_get w.levels 0

abbrev pub outer : Walk → List Level
outer w = drop 1 w.levels

-- whether operations of the instruction that was taken up last are still to come
abbrev pub is_busy : Walk → Bool
is_busy w = nat_lt w.done (length w.items) || nat_lt 0 w.literals

-- operations, of which none came, at these levels
abbrev pub with_items : Walk → List Level → List Item → Walk
with_items w levels items = record w { levels = levels; items = items; done = 0; literals = 0 }

-- a local that the instruction names is one of so many
abbrev pub has_local : Instruction → ℕ → Bool
has_local i locals = not (names_local i.name) || nat_lt (first i.numbers) locals

-- an instruction is taken up
abbrev pub takes_up : Walk → Level → Instruction → Walk
takes_up w l i =
    if has_local i l.procedure.locals then with_items w (l ∷ outer w) (expansion i.name i.numbers l.procedure.locals) else lost w

-- The digest of a procref is not known here: four operations that put a number on the stack.
abbrev pub with_digest : Walk → Level → Walk
with_digest w l = record w { levels = l ∷ outer w; items = []; done = 0; literals = 4 }

-- a procedure begins in place
abbrev pub executes : Walk → Level → Option Found → Walk
executes w l None = lost w
executes w l (Some f) = with_items w (begun parts.Exec f 0 ∷ l ∷ outer w) (entry_items f.procedure.locals)

-- a repeat is taken up
abbrev pub repeats : Walk → Level → ℕ → Body → Walk
repeats w l n turn = record w { levels = within l (parts.Repeat n) l.at Empty turn 0 ∷ l ∷ outer w }

-- a level without statements is left, or has a further turn, or waits for the cycle that ends it
abbrev pub ended : Walk → Level → Part → Option Walk
ended w l parts.Exec = Some (record w { levels = outer w })
ended w l (parts.Repeat zero) = Some (record w { levels = outer w })
ended w l (parts.Repeat (suc n)) = Some (record w { levels = turned l (parts.Repeat n) ∷ outer w })
ended w l parts.Call = None
ended w l parts.Branch = None
ended w l parts.Turn = None
ended w l parts.Dynamic = None

-- behind the last statement the frame pointer goes down first, if it has to
abbrev pub passed_end : Walk → Level → Option Walk
passed_end w l = if l.owes then Some (with_items w (exited l ∷ outer w) (exit_items l.procedure.locals)) else ended w l l.part

-- a leaf, with the level at which it was taken up
abbrev pub passed_leaf : Texts → Walk → Level → Leaf → Option Walk
passed_leaf texts w l (leaves.Instr i) = Some (takes_up w l i)
passed_leaf texts w l (leaves.Exec name) = Some (executes w l (found texts l.origin name))
passed_leaf texts w l (leaves.ProcRef name) = Some (with_digest w l)
passed_leaf texts w l (leaves.Call name) = None
passed_leaf texts w l (leaves.Syscall name) = None
passed_leaf texts w l leaves.DynExec = None

-- what is left at the innermost level
abbrev pub passed : Texts → Walk → Level → Body → Option Walk
passed texts w l Empty = passed_end w l
passed texts w l (Leaf_then at leaf rest) = passed_leaf texts w (taken l at rest) leaf
passed texts w l (If_then at one other rest) = None
passed texts w l (While_then at turn rest) = None
passed texts w l (Repeat_then at n turn rest) = Some (repeats w (taken l at rest) n turn)

abbrev pub passed_at : Texts → Walk → Option Level → Option Walk
passed_at texts w None = None
passed_at texts w (Some l) = passed texts w l l.left

-- one such step; none where the next cycle is awaited
abbrev pub silent : Texts → Walk → Option Walk
silent texts w = if is_busy w then None else passed_at texts w (innermost w)

-- at most so many of them; where more are left, nothing is known any more
unfoldable pub settled_in : ℕ → Texts → Walk → Walk
settled_in zero texts w = lost w
settled_in (suc n) texts w = unwrap_or (option_map (settled_in n texts) (silent texts w)) w

abbrev pub most_silent_steps : ℕ
most_silent_steps = 1048576

-- up to the statement that takes the next cycle
unfoldable pub settled : Texts → Walk → Walk
settled texts w = settled_in most_silent_steps texts w
