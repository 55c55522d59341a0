-- How the tasks that are still to be done, the decoder and the machine's state agree at each place of a run.
use Rattle.std.specs.Prelude.{◌≡◌, ◌+◌, ◌-◌, ◌<◌, ◌≤◌, List, [], ◌∷◌, length, drop, Some}
use Rattle.vm_field.specs.Field.{prime, AreElements}
use Rattle.vm_field.specs.Machine.{Core}
use Rattle.vm_ops.specs.declared.item.Item.{Item}
use Rattle.op_pack.specs.Reading.{read_on}
use Rattle.block_tree.specs.Steps.{Task, Block, Within, Turned, Closing, Returning, Leaving}
use Rattle.complete_rows.specs.Decoder.{Open, Decoder, hidden_of}
use Rattle.complete_rows.specs.Groups.{Unread, nothing_unread}

-- the operations that are left of a batch are what is read of what is not taken
abbrev pub ReadsOn : List Item → Unread → Type 0
ReadsOn [] u = u ≡ nothing_unread
ReadsOn (item ∷ items) u = (read_on u.positions (9 - u.place) u.number ≡ Some (item ∷ items)) × (u.place ≤ 8)

-- so it is where a span is the first task; else nothing is unread
abbrev pub ReadsTask : Task → Unread → Type 0
ReadsTask (Block tree) u = u ≡ nothing_unread
ReadsTask (Within items later digest) u = ReadsOn items u
ReadsTask (Turned body) u = u ≡ nothing_unread
ReadsTask (Closing digest) u = u ≡ nothing_unread
ReadsTask (Returning digest frame) u = u ≡ nothing_unread
ReadsTask (Leaving digest frame) u = u ≡ nothing_unread

-- no span is open
abbrev pub IsOutsideSpan : Task → Type 0
IsOutsideSpan (Block tree) = Unit {0}
IsOutsideSpan (Within items later digest) = ⊥
IsOutsideSpan (Turned body) = Unit {0}
IsOutsideSpan (Closing digest) = Unit {0}
IsOutsideSpan (Returning digest frame) = Unit {0}
IsOutsideSpan (Leaving digest frame) = Unit {0}

abbrev pub AreOutside : List Task → Type 0
AreOutside [] = Unit {0}
AreOutside (task ∷ todo) = IsOutsideSpan task × AreOutside todo

abbrev pub ReadsFirst : List Task → Unread → Type 0
ReadsFirst [] u = u ≡ nothing_unread
ReadsFirst (task ∷ todo) u = ReadsTask task u × AreOutside todo

-- The blocks that are open are those that the tasks end, in their order. A call's block has a key for each cell that the call hides.
abbrev pub Framed : List Task → List Open → Type 0
Framed [] blocks = blocks ≡ []
Framed (Block tree ∷ todo) blocks = Framed todo blocks
Framed (Within items later digest ∷ todo) blocks = (0 < length blocks) × Framed todo (drop 1 blocks)
Framed (Turned body ∷ todo) blocks = (0 < length blocks) × Framed todo (drop 1 blocks)
Framed (Closing digest ∷ todo) blocks = (0 < length blocks) × Framed todo (drop 1 blocks)
Framed (Returning digest frame ∷ todo) blocks =
    (0 < length blocks) × (length (hidden_of blocks) ≡ length frame.hidden) × Framed todo (drop 1 blocks)
Framed (Leaving digest frame ∷ todo) blocks =
    (0 < length blocks) × (length (hidden_of blocks) ≡ length frame.hidden) × Framed todo (drop 1 blocks)

-- elements, at most seven positions, and one of nine places or one behind
pub record IsLowUnread (u : Unread) : Type 0 where
  pub number : u.number < prime
  pub place : u.place ≤ 9
  pub positions : AreElements u.positions
  pub few : length u.positions ≤ 7

pub record Agrees (todo : List Task) (d : Decoder) (c : Core) : Type 0 where
  pub framed : Framed todo d.blocks
  pub reads : ReadsFirst todo d.unread
  pub low : IsLowUnread d.unread
  pub nesting : c.nesting ≡ length d.blocks
  pub keyed : length d.keys + 16 ≡ length c.stack
