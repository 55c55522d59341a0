-- A batch is read digit by digit.
use Rattle.std.specs.Prelude.{◌≡◌, ℕ, ◌+◌, ◌*◌, ◌<◌, ◌==◌, if◌then◌else◌, List, [], ◌∷◌, ◌++◌, length, Option, Some, None, option_map}
use Rattle.op_pack.specs.declared.reading.Next.{Next}
use Rattle.op_pack.specs.declared.reading.Next.TheVariants.{Goes, Ends, NoReading}
use Rattle.op_pack.specs.declared.reading.Unread.{Unread}
use Rattle.op_pack.specs.Reading.{before, read_on}
use Rattle.vm_ops.specs.Items.{push_item, IsOrdinaryItem}
use Rattle.vm_ops.specs.declared.item.Item.{Item}

-- what is still to be read
abbrev pub left_of : Unread → Option (List Item)
left_of unread = read_on unread.positions.now unread.room unread.number

-- falls with each operation
abbrev pub size_of : Unread → ℕ
size_of unread = 10 * length unread.positions.now + unread.room

-- the next group, where there is one
abbrev pub next_group : List ℕ → Option (List Item)
next_group [] = Some []
next_group (position ∷ later) = read_on later 9 position

-- what follows an operation that is no PUSH
abbrev pub go_on : List ℕ → ℕ → ℕ → Option (List Item)
go_on positions room number = if number == 0 then next_group positions else read_on positions room number

-- a PUSH and what follows it
abbrev pub pushed_on : List ℕ → ℕ → ℕ → Option (List Item)
pushed_on [] room number = None
pushed_on (position ∷ later) room number = before (push_item position) (read_on later room number)

-- The next operation of a reading, and what follows it: the reading is the operation in front of that.
abbrev pub IsNext : Option (List Item) → ℕ → Next → Type 0
IsNext reading size (Goes item later) = (reading ≡ before item (left_of later)) × (size_of later < size)
IsNext reading size (Ends item) = reading ≡ Some (item ∷ [])
IsNext reading size NoReading = reading ≡ None

-- an operation that is read is an ordinary item
abbrev pub IsOrdinaryNext : Next → Type 0
IsOrdinaryNext (Goes item later) = IsOrdinaryItem item
IsOrdinaryNext (Ends item) = IsOrdinaryItem item
IsOrdinaryNext NoReading = Unit {0}

-- what was read, in front of what is still to be read
abbrev pub after_items : List Item → Option (List Item) → Option (List Item)
after_items items rest = option_map (λ later. items ++ later) rest
