-- What is left of a batch: the number that is left of the group, the place in it, and the positions that no group and no immediate
-- has taken yet.
use Rattle.std.specs.Prelude.{ℕ, zero, suc, ◌+◌, ◌/◌, Bool, true, false, List, [], take, drop, slice_index}
use Rattle.op_pack.specs.Reading.{positions_in_use}

pub record Unread : Type 0 where
  pub number : ℕ
  pub place : ℕ
  pub positions : List ℕ

-- outside of spans
abbrev pub nothing_unread : Unread
nothing_unread = record { number = 0; place = 0; positions = [] }

-- a batch that is begun
abbrev pub batch_begun : List ℕ → Unread
batch_begun batch = record { number = slice_index batch 0; place = 0; positions = drop 1 (take (positions_in_use batch) batch) }

-- An operation was taken; the number is what its group has left. A PUSH takes a position and goes on in its group. Another operation
-- with which nothing is left opens the next position as a group.
abbrev pub group_after : Bool → ℕ → ℕ → List ℕ → Unread
group_after true number place positions = record { number = number; place = place + 1; positions = drop 1 positions }
group_after false zero place positions = record { number = slice_index positions 0; place = 0; positions = drop 1 positions }
group_after false (suc number) place positions = record { number = suc number; place = place + 1; positions = positions }

-- each operation is a digit to the base 128
abbrev pub taken_from : Bool → Unread → Unread
taken_from is_push u = group_after is_push (u.number / 128) u.place u.positions
