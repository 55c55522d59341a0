-- No place is made up: what is told of an operation is an instruction that stands there, and the operations that are told for one
-- instruction are a part of its expansion, in order.
use Rattle.std.specs.Prelude.{◌≡◌, ℕ, ◌+◌, true, false, List, Some, slice_get, ◌⊎◌}
use Rattle.vm_ops.specs.Codes.{kind_of}
use Rattle.vm_ops.specs.declared.item.Item.{Item}
use Rattle.vm_ops.specs.declared.kind.Kind.TheVariants as kinds
use Rattle.masm_instr.specs.Instructions.{Instruction}
use Rattle.masm_expand.specs.Expansion.{expansion}
use Rattle.masm_tree.specs.declared.terminal.Leaf.{Leaf}
use Rattle.masm_tree.specs.declared.terminal.Leaf.TheVariants as leaves
use Rattle.masm_tree.specs.declared.tree.Position.{Position}
use Rattle.masm_tree.specs.Trees.{Body, Leaf_then, If_then, While_then, Repeat_then, Procedure, position_of}
use Rattle.masm_places.specs.declared.origin.Origin.{Origin}
use Rattle.masm_places.specs.declared.origin.Origin.TheVariants as origins
use Rattle.masm_places.specs.Origins.{origin_at}
use Rattle.masm_places.specs.Texts.{Texts}
use Rattle.masm_places.specs.Pending.{Level, Walk, entry_items, exit_items}
use Rattle.masm_places.specs.Silent.{innermost}
use Rattle.masm_places.specs.Steps.{is_dynamic, is_literal, is_noop, stepped}
use Rattle.masm_places.specs.Walks.{Seen, walked}

-- a leaf stands in a body, at its place
pub data HasLeaf (at : Position) (leaf : Leaf) : Body → Type 0 where
  here : (rest : Body) → HasLeaf at leaf (Leaf_then at leaf rest)
  behind : (a : Position) (l : Leaf) (rest : Body) → HasLeaf at leaf rest → HasLeaf at leaf (Leaf_then a l rest)
  in_first : (a : Position) (one other rest : Body) → HasLeaf at leaf one → HasLeaf at leaf (If_then a one other rest)
  in_second : (a : Position) (one other rest : Body) → HasLeaf at leaf other → HasLeaf at leaf (If_then a one other rest)
  behind_if : (a : Position) (one other rest : Body) → HasLeaf at leaf rest → HasLeaf at leaf (If_then a one other rest)
  in_loop : (a : Position) (turn rest : Body) → HasLeaf at leaf turn → HasLeaf at leaf (While_then a turn rest)
  behind_loop : (a : Position) (turn rest : Body) → HasLeaf at leaf rest → HasLeaf at leaf (While_then a turn rest)
  in_repeat : (a : Position) (n : ℕ) (turn rest : Body) → HasLeaf at leaf turn → HasLeaf at leaf (Repeat_then a n turn rest)
  behind_repeat : (a : Position) (n : ℕ) (turn rest : Body) → HasLeaf at leaf rest → HasLeaf at leaf (Repeat_then a n turn rest)

-- a procedure of the sources, and where it stands
pub data Stands (texts : Texts) : Origin → Procedure → Type 0 where
  in_program : (place : ℕ) (p : Procedure) → slice_get texts.program place ≡ Some p → Stands texts (origin_at texts.own place) p
  in_main : (p : Procedure) → texts.main ≡ Some p → Stands texts origins.Program p
  in_kernel : (place : ℕ) (p : Procedure) → slice_get texts.kernel place ≡ Some p → Stands texts origins.Kernel p

-- the operations of what stands at a place of a procedure: of an instruction, or of the procedure's own header
pub data OperationsAt (p : Procedure) : Position → List Item → Type 0 where
  instruction : (at : Position) (i : Instruction) → HasLeaf at (leaves.Instr i) p.body
      → OperationsAt p at (expansion i.name i.numbers p.locals)
  entry : OperationsAt p (position_of p) (entry_items p.locals)
  exit : OperationsAt p (position_of p) (exit_items p.locals)

-- a procref stands at a place of a procedure
pub record ReferenceAt (p : Procedure) (at : Position) : Type 0 where
  pub name : List ℕ
  pub stands : HasLeaf at (leaves.ProcRef name) p.body

-- Of the operations of what stands there this is the one behind those that came before, which were of the same list at the same place, or
-- it is the first of its list.
pub record IsNext (before after : Walk) (l : Level) (item : Item) : Type 0 where
  pub of : OperationsAt l.procedure l.at after.items
  pub number : ℕ
  pub done : after.done ≡ number + 1
  pub is : slice_get after.items number ≡ Some item
  pub order : (number ≡ 0)
      ⊎ ((number ≡ before.done) × (after.items ≡ before.items) × (after.levels ≡ before.levels))

-- an operation is told to belong to what stands at a place
pub record IsHonest (texts : Texts) (before after : Walk) (item : Item) (l : Level) : Type 0 where
  pub stands : Stands texts l.origin l.procedure
  pub part : IsNext before after l item ⊎ (ReferenceAt l.procedure l.at × (is_literal item ≡ true))

-- whatever the cycles were, also those of no run
abbrev pub PlacesAreHonest : Type 0
PlacesAreHonest =
    (texts : Texts) (cycles : List Seen) (item : Item) (top : ℕ) (l : Level) → kind_of item.op ≡ kinds.Ordinary → is_noop item.op ≡ false
    → innermost (stepped texts item top (walked texts cycles)) ≡ Some l → is_dynamic l.part ≡ false
    → IsHonest texts (walked texts cycles) (stepped texts item top (walked texts cycles)) item l
