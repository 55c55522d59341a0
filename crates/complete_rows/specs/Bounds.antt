-- How far addresses, keys and counts go at each place of a run.
use Rattle.std.specs.Prelude.{ℕ, ◌+◌, ◌*◌, ◌<◌, ◌≤◌, List, length, All}
use Rattle.vm_field.specs.Limits.{most_cycles, most_inputs, most_nesting}
use Rattle.vm_field.specs.Field.{prime, AreElements}
use Rattle.vm_field.specs.Machine.{Core}
use Rattle.machine_cycles.specs.declared.event.Event.{Event}
use Rattle.complete_rows.specs.Decoder.{Open, Decoder}
use Rattle.complete_rows.specs.Turns.{respans}

pub record IsLowBlock (block : Open) : Type 0 where
  pub address : block.address < prime
  pub hidden : AreElements block.hidden

-- A permutation takes eight addresses. There are no more of them than cycles, with those of the batches that are still to come.
pub record IsBounded (d : Decoder) (clock : ℕ) (events : List Event) : Type 0 where
  pub next : d.next ≤ 1 + 8 * (clock + length (respans events))
  pub ha : d.ha ≤ 1 + 8 * clock
  pub blocks : All IsLowBlock d.blocks
  pub keys : AreElements d.keys
  pub whole : clock + length events ≤ most_cycles

-- a state of a run from the start
pub record IsSmallCore (c : Core) : Type 0 where
  pub nesting : c.nesting ≤ most_nesting
  pub depth : length c.stack ≤ most_inputs + c.clock
  pub context : c.context ≤ c.clock
