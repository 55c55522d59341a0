-- The lines of cycles (docs/SHOW.md, "trace").
use Rattle.std.specs.Prelude.{ℕ, Bool, true, false, if◌then◌else◌, List, [], ◌∷◌, ◌++◌, length, slice_index, codes, decimal, Option, Some, None}
use Rattle.decimal_text.specs.Decimals.{element_text}
use Rattle.vm_field.specs.Machine.{State}
use Rattle.vm_ops.specs.Codes.{text_of_op}
use Rattle.vm_ops.specs.declared.item.Item.{Item}
use Rattle.machine_cycles.specs.declared.event.Event.{Event}
use Rattle.masm_tree.specs.declared.tree.Position.{Position}
use Rattle.masm_places.specs.declared.level.Part.{Part}
use Rattle.masm_places.specs.declared.level.Part.TheVariants as parts
use Rattle.masm_places.specs.declared.origin.Origin.{Origin}
use Rattle.masm_places.specs.declared.origin.Origin.TheVariants as origins
use Rattle.masm_places.specs.Texts.{Texts}
use Rattle.masm_places.specs.Pending.{Level, Walk}
use Rattle.masm_places.specs.Steps.{stepped}
use Rattle.masm_places.specs.Told.{told}
use Rattle.masm_places.specs.Walks.{begin}

-- a place in a source or a kernel; the library has no lines
abbrev pub position_text : Position → List ℕ
position_text at = decimal at.line ++ codes ":" ++ decimal at.column

abbrev pub place_text : Origin → Position → List ℕ
place_text origins.Program at = position_text at
place_text origins.Library at = codes "library"
place_text origins.Kernel at = codes "kernel " ++ position_text at

-- where a run is at a level; what a dynexec runs is not known
abbrev pub at_text : Level → Part → List ℕ
at_text l parts.Exec = place_text l.origin l.at
at_text l parts.Call = place_text l.origin l.at
at_text l parts.Branch = place_text l.origin l.at
at_text l parts.Turn = place_text l.origin l.at
at_text l (parts.Repeat n) = place_text l.origin l.at
at_text l parts.Dynamic = codes "?"

-- the procedure that a level begins, where it begins one
abbrev pub in_text : Level → Part → List ℕ
in_text l parts.Exec = codes " in " ++ l.procedure.name
in_text l parts.Call = codes " in " ++ l.procedure.name
in_text l parts.Branch = []
in_text l parts.Turn = []
in_text l (parts.Repeat n) = []
in_text l parts.Dynamic = codes " in dynexec"

abbrev pub begins_procedure : Part → Bool
begins_procedure parts.Exec = true
begins_procedure parts.Call = true
begins_procedure parts.Branch = false
begins_procedure parts.Turn = false
begins_procedure (parts.Repeat n) = false
begins_procedure parts.Dynamic = true

-- the place at a level, where it is asked for, and its procedure
abbrev pub level_text : Bool → Level → List ℕ
level_text placed l = (if placed then codes " at " ++ at_text l l.part else []) ++ in_text l l.part

-- The place at the innermost level, and outwards each procedure with the place where it was used; levels inside of one procedure have one
-- place, that of the innermost.
abbrev pub levels_text : Bool → List Level → List ℕ
levels_text placed [] = []
levels_text placed (l ∷ outer) = level_text placed l ++ levels_text (begins_procedure l.part) outer

-- where nothing is known there is no level
abbrev pub told_text : List Level → List ℕ
told_text [] = codes " at ?"
told_text (l ∷ outer) = levels_text true (l ∷ outer)

-- an operation, and what PUSH pushes
abbrev pub immediate_text : Option ℕ → List ℕ
immediate_text None = []
immediate_text (Some value) = element_text value

abbrev pub operation_text : Item → List ℕ
operation_text item = text_of_op item.op ++ immediate_text item.imm

-- the depth of a stack, and its four top cells
abbrev pub stack_text : ℕ → List ℕ → List ℕ
stack_text depth cells =
    codes " depth" ++ element_text depth ++ codes " stack" ++ element_text (slice_index cells 0) ++ element_text (slice_index cells 1)
    ++ element_text (slice_index cells 2) ++ element_text (slice_index cells 3)

-- the operation of a cycle
abbrev pub item_of : Event → Item
item_of e = record { op = e.op; imm = e.imm }

-- its clock and its operation
abbrev pub moment_text : Event → List ℕ
moment_text e = codes "clk " ++ decimal e.before.clock ++ codes " " ++ operation_text (item_of e)

-- a cycle, with the walk behind it
abbrev pub cycle_line : Walk → Event → List ℕ
cycle_line w e = moment_text e ++ stack_text e.before.depth e.before.cells ++ told_text (told e.op w) ++ codes "\n"

-- a walk goes on by a cycle
abbrev pub gone : Texts → Walk → Event → Walk
gone texts w e = stepped texts (item_of e) (slice_index e.before.cells 0) w

-- cycle by cycle
abbrev pub lines_from : Texts → Walk → List Event → List ℕ
lines_from texts w [] = []
lines_from texts w (e ∷ events) = cycle_line (gone texts w e) e ++ lines_from texts (gone texts w e) events

-- the cycles of a run from its start
abbrev pub cycles_text : Texts → List Event → List ℕ
cycles_text texts events = lines_from texts (begin texts) events

-- the state in which a run stands
abbrev pub stand_line : State → List ℕ
stand_line s = codes "stands clk " ++ decimal s.core.clock ++ stack_text (length s.core.stack) s.core.stack ++ codes "\n"
