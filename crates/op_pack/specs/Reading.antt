-- How a batch of eight elements is read as operations (docs/MACHINE.md, "Batches").
-- A group's number holds operations as digits to the base 128, lowest first. What is still to be read of a batch is: the
-- positions behind the current group that are not taken, how many operations the group may still have, and the rest of its
-- number.
use Rattle.std.specs.Prelude.{◌≡◌, ℕ, zero, suc, ◌/◌, ◌%◌, Bool, ◌==◌, nat_lt, if◌then◌else◌, List, [], ◌∷◌, length, take, drop, slice_index, Option, Some, None, option_map, unwrap_or}
use Rattle.std.specs.List.{list_all}
use Rattle.vm_field.specs.Field.{AreElements}
use Rattle.vm_ops.specs.declared.op.Op.TheVariants.{Noop}
use Rattle.vm_ops.specs.declared.item.Item.{Item}
use Rattle.vm_ops.specs.Codes.{op_at}
use Rattle.vm_ops.specs.Items.{plain_item, push_item}

-- eight elements
pub record IsBatch (batch : List ℕ) : Type 0 where
  pub size : length batch ≡ 8
  pub below : AreElements batch

abbrev pub are_zero : List ℕ → Bool
are_zero xs = list_all (λ x. x == 0) xs

-- the least of 1, 2, 4, 8 that covers the last position that is not 0; 1 for eight zeros
abbrev pub positions_in_use : List ℕ → ℕ
positions_in_use batch =
    if are_zero (drop 1 batch) then 1 else if are_zero (drop 2 batch) then 2 else if are_zero (drop 4 batch) then 4 else 8

-- PUSH has the greatest code that a batch may hold
abbrev pub push_code : ℕ
push_code = 69

-- the operation of a digit below that of PUSH
abbrev pub plain_digit : ℕ → Item
plain_digit digit = plain_item (unwrap_or (op_at digit) Noop)

abbrev pub before : Item → Option (List Item) → Option (List Item)
before item rest = option_map (λ items. item ∷ items) rest

-- With no position left: the batch ends where the number is used up, and a PUSH finds no immediate.
abbrev pub read_last : ℕ → ℕ → Option (List Item)
read_last zero number = None
read_last (suc room) number =
    if nat_lt (number % 128) push_code
    then before (plain_digit (number % 128)) (if number / 128 == 0 then Some [] else read_last room (number / 128))
    else None

-- With a position left: it is the next group where the number is used up, and the immediate of a PUSH. Behind a PUSH the
-- group goes on with what is left of its number, so that a NOOP follows one that stands last.
abbrev pub read_more : ℕ → (ℕ → ℕ → Option (List Item)) → ℕ → ℕ → Option (List Item)
read_more position later zero number = None
read_more position later (suc room) number =
    if nat_lt (number % 128) push_code
    then before (plain_digit (number % 128)) (if number / 128 == 0 then later 9 position else read_more position later room (number / 128))
    else if number % 128 == push_code then before (push_item position) (later room (number / 128)) else None

-- The operations that are still to be read: positions, operations that the group may still have, rest of its number. A group
-- has at most nine. There are none where a digit is no ordinary operation, a group is too long, or a PUSH has no immediate.
unfoldable pub read_on : List ℕ → ℕ → ℕ → Option (List Item)
read_on [] = read_last
read_on (position ∷ later) = read_more position (read_on later)

-- the operations of a batch, if it has a reading
unfoldable pub reading : List ℕ → Option (List Item)
reading batch = read_on (drop 1 (take (positions_in_use batch) batch)) 9 (slice_index batch 0)
