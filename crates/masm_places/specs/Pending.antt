-- What is still to come of a run: at each level the statements that are left there, the innermost level first; and of the instruction
-- that was taken up last its operations, with how many of them came.
use Rattle.std.specs.Prelude.{ℕ, zero, suc, ◌-◌, Bool, false, nat_lt, List, [], ◌∷◌, map, reverse}
use Rattle.vm_field.specs.Field.{prime}
use Rattle.vm_ops.specs.declared.item.Item.{Item}
use Rattle.vm_ops.specs.declared.op.Op.TheVariants.{FmpUpdate}
use Rattle.vm_ops.specs.Items.{plain_item}
use Rattle.masm_expand.specs.Expansion.{lit}
use Rattle.masm_tree.specs.declared.tree.Position.{Position}
use Rattle.masm_tree.specs.Trees.{Body, Empty, Leaf_then, If_then, While_then, Repeat_then, Procedure, position_of}
use Rattle.masm_tree.specs.Views.{procedure_of, body_of}
use Rattle.masm_places.specs.declared.level.Level as code
use Rattle.masm_places.specs.declared.levels.Levels as levels
use Rattle.masm_places.specs.declared.walk.Walk as walk
use Rattle.masm_places.specs.declared.level.Part.{Part}
use Rattle.masm_places.specs.declared.origin.Origin.{Origin}
use Rattle.masm_places.specs.Texts.{Found}

pub record Level : Type 0 where
  pub procedure : Procedure  -- the one in whose body it is
  pub origin : Origin  -- where that stands
  pub part : Part  -- what of the body it is, which decides how it ends
  pub home : Position  -- of the token that begins it
  pub at : Position  -- of the statement that was taken up last in it, and before the first one its home
  pub left : Body  -- the statements that were not taken up yet
  pub again : Body  -- what a further turn runs
  pub owes : Bool  -- whether the frame pointer has to go down behind it
  pub outside : ℕ  -- how many joins and spans are open around its block

abbrev pub level_of : code.Level → Level
level_of l = record {
  procedure = procedure_of l.proc.now;
  origin = l.origin;
  part = l.part;
  home = l.home;
  at = l.at;
  left = body_of l.left.now;
  again = body_of l.again.now;
  owes = l.owes;
  outside = l.outside;
}

-- levels in memory, where the innermost is last
abbrev pub levels_of : List code.Level → List Level
levels_of items = reverse (map level_of items)

abbrev pub levels_in : levels.Levels → List Level
levels_in levels = levels_of levels.items.items

-- Where nothing is known any more there is no level.
pub record Walk : Type 0 where
  pub levels : List Level  -- the innermost first
  pub items : List Item  -- the operations of the instruction that was taken up last
  pub done : ℕ  -- how many of them came
  pub literals : ℕ  -- how many operations of a procref are to come
  pub nested : ℕ  -- how many joins and spans are open in the innermost block of a level

abbrev pub walk_of : walk.Walk → Walk
walk_of w = record { levels = levels_in w.levels; items = w.items; done = w.done; literals = w.literals; nested = w.nested }

-- a statement is taken up
abbrev pub taken : Level → Position → Body → Level
taken l at rest = record l { at = at; left = rest }

-- a procedure begins
abbrev pub begun : Part → Found → ℕ → Level
begun part f outside = record {
  procedure = f.procedure;
  origin = f.origin;
  part = part;
  home = position_of f.procedure;
  at = position_of f.procedure;
  left = f.procedure.body;
  again = Empty;
  owes = nat_lt 0 f.procedure.locals;
  outside = outside;
}

-- a part of the body that a level is of, of a statement that was taken up there
abbrev pub within : Level → Part → Position → Body → Body → ℕ → Level
within l part at left again outside = record {
  procedure = l.procedure;
  origin = l.origin;
  part = part;
  home = at;
  at = at;
  left = left;
  again = again;
  owes = false;
  outside = outside;
}

-- the next turn
abbrev pub turned : Level → Part → Level
turned l part = record l { part = part; at = l.home; left = l.again }

-- the frame pointer goes down behind the body
abbrev pub exited : Level → Level
exited l = record l { at = l.home; owes = false }

-- the place of the statement that is left first, and another one where none is left
abbrev pub first_at : Position → Body → Position
first_at at Empty = at
first_at at (Leaf_then a leaf rest) = a
first_at at (If_then a one other rest) = a
first_at at (While_then a turn rest) = a
first_at at (Repeat_then a n turn rest) = a

-- a level tells the place of the statement that comes next
abbrev pub faced : Level → Level
faced l = record l { at = first_at l.at l.left }

-- the operations before the body of a procedure with so many locals, and those behind it
abbrev pub entry_items : ℕ → List Item
entry_items zero = []
entry_items (suc n) = lit (suc n) ∷ plain_item FmpUpdate ∷ []

abbrev pub exit_items : ℕ → List Item
exit_items zero = []
exit_items (suc n) = lit (prime - suc n) ∷ plain_item FmpUpdate ∷ []
