-- What a row of the main table gives and asks in its place, and which rows can be read.
use Rattle.std.specs.Prelude.{◌≡◌, ℕ, ◌≤◌, ◌==◌, true, if◌then◌else◌, List, ◌++◌}
use Rattle.buses.specs.Counts.{OfRow, with_next}
use Rattle.buses.specs.declared.bus.Bus.{Bus}
use Rattle.air_kit.specs.Flags.{op_of, HasBits}
use Rattle.air_kit.specs.MainTuples.{is_batch_op, positions, main_asked, main_given}
use Rattle.air_kit.specs.Acceptance.{statement_given}
use Rattle.air_kit.specs.Places.{Claim}
use Rattle.bus_kit.specs.ByBus.{both_by}
use Rattle.bus_kit.specs.declared.tallies.Tallies.{Tallies}
use Rattle.bus_blocks.specs.Space.{HasSpace}

-- the row's operation can be read, and a batch has at most eight positions in use
pub record IsReadable (x : List ℕ) : Type 0 where
  pub bits : HasBits x
  pub batch : is_batch_op (op_of x) ≡ true → positions x ≤ 8

-- what a row asks: nothing in the last one
abbrev pub main_asked_at : Bus → OfRow
main_asked_at bus = with_next (main_asked bus)

-- what it gives, with the statement's digest at the first row
abbrev pub main_given_at : Claim → Bus → OfRow
main_given_at c bus i x next =
    if i == 0 then statement_given bus c ++ with_next (main_given bus) i x next else with_next (main_given bus) i x next

-- on each bus each count may grow by 2^65
abbrev pub HaveSpace : Tallies → Type 0
HaveSpace t = (bus : Bus) → HasSpace (both_by t bus)
