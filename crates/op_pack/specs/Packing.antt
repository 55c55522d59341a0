-- How operations are placed into batches (docs/MACHINE.md, "Batches").
use Rattle.std.specs.Prelude.{ℕ, zero, suc, ◌+◌, ◌-◌, ◌*◌, ◌≢◌, Bool, ◌&&◌, nat_lt, nat_le, if◌then◌else◌, List, [], ◌∷◌, ◌++◌, length, replicate, unwrap_or, All}
use Rattle.vm_ops.specs.declared.item.Item.{Item}
use Rattle.vm_ops.specs.Codes.{code_of}
use Rattle.vm_ops.specs.Items.{IsPackableItem}
use Rattle.op_pack.specs.Reading.{push_code}

-- How a batch goes on from a place on: what is still to come of the current group's number, the positions from the next free
-- one on, and the operations that open the next batch.
pub record Placed : Type 0 where
  pub number : ℕ
  pub positions : List ℕ
  pub rest : List Item

-- some operations, all of which can be packed
pub record IsPackable (items : List Item) : Type 0 where
  pub some : items ≢ []
  pub each : All IsPackableItem items

abbrev pub has_immediate : Item → Bool
has_immediate item = nat_le push_code (code_of item.op)

-- how many positions an operation's immediate takes
abbrev pub positions_of : Item → ℕ
positions_of item = if has_immediate item then 1 else 0

abbrev pub with_immediate : Item → List ℕ → List ℕ
with_immediate item positions = if has_immediate item then unwrap_or item.imm 0 ∷ positions else positions

-- the operation stands next in the current group, and its immediate at the next free position
abbrev pub put : Item → Placed → Placed
put item p = record { number = code_of item.op + 128 * p.number; positions = with_immediate item p.positions; rest = p.rest }

-- a group opens at the next free position
abbrev pub new_group : Placed → Placed
new_group p = record { number = 0; positions = p.number ∷ p.positions; rest = p.rest }

-- the batch is full
abbrev pub full : List Item → Placed
full items = record { number = 0; positions = []; rest = items }

-- Room in the current group: for one operation, and for a PUSH for one more behind it, and a free position.
abbrev pub fits : ℕ → ℕ → Item → Bool
fits room free item = if has_immediate item then nat_lt 1 room && nat_lt 0 free else nat_lt 0 room

-- room for a new group, and for a PUSH for its immediate
abbrev pub opens : ℕ → Item → Bool
opens free item = nat_lt (positions_of item) free

-- Places operations one after another: the room of the current group, the free positions, the operations.
abbrev pub placed : ℕ → ℕ → List Item → Placed
placed room free [] = full []
placed room free (item ∷ items) =
    if fits room free item then put item (placed (room - 1) (free - positions_of item) items)
    else if opens free item then new_group (put item (placed 8 (free - 1 - positions_of item) items))
    else full (item ∷ items)

-- positions that are not taken hold 0
abbrev pub zeros_behind : ℕ → List ℕ → List ℕ
zeros_behind free positions = positions ++ replicate (free - length positions) 0

-- the eight elements of a batch
abbrev pub batch_of : Placed → List ℕ
batch_of p = p.number ∷ zeros_behind 7 p.positions

-- the first batch of some operations: nine to a group, and seven positions behind the first
unfoldable pub first_placed : List Item → Placed
first_placed items = placed 9 7 items

-- so many batches at most
abbrev pub batches_within : ℕ → List Item → List (List ℕ)
batches_within zero items = []
batches_within (suc n) [] = []
batches_within (suc n) (item ∷ items) = batch_of (first_placed (item ∷ items)) ∷ batches_within n (first_placed (item ∷ items)).rest

-- The batches of some operations. Each batch places one operation at least.
unfoldable pub packed : List Item → List (List ℕ)
packed items = batches_within (length items) items
