-- How great the numbers are that the rows of a run show, and those that they ask of the small tables.
use Rattle.std.specs.Prelude.{ℕ, ◌^◌, ◌<◌, ◌≤◌, List, length, All}
use Rattle.vm_field.specs.Limits.{most_cycles}
use Rattle.air_kit.specs.declared.requests.Access.{Access}
use Rattle.air_kit.specs.declared.requests.BitOp.{BitOp}
use Rattle.machine_cycles.specs.declared.event.Event.{Event}
use Rattle.machine_cycles.specs.declared.event.Visible.{Visible}
use Rattle.complete_rows.specs.RunRequests.{accesses_of, bits_of, ranges_of}

-- the operands of a bitwise operation have 32 bits
pub record HasU32Operands (op : BitOp) : Type 0 where
  pub a : op.a < 2 ^ 32
  pub b : op.b < 2 ^ 32

-- the address of an access has 32 bits
abbrev pub HasU32Address : Access → Type 0
HasU32Address a = a.addr < 2 ^ 32

-- a number of 16 bits
abbrev pub IsU16 : ℕ → Type 0
IsU16 n = n < 2 ^ 16

-- Of events that end in a state: there are no more of them than the longest run has, each depth of the stack has 32 bits, and what
-- they ask has as many bits as the small tables take.
pub record HasSmallNumbers (last : Visible) (events : List Event) : Type 0 where
  pub few : length events ≤ most_cycles
  pub depths : All (λ e. e.before.depth < 2 ^ 32) events
  pub depth : last.depth < 2 ^ 32
  pub ranges : All IsU16 (ranges_of last events)
  pub bits : All HasU32Operands (bits_of events)
  pub accesses : All HasU32Address (accesses_of events)
