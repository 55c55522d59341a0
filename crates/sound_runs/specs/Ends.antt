-- The states of the first row and of the last one.
use Rattle.std.specs.Prelude.{◌≡◌, ℕ, ◌-◌, List, length}
use Rattle.vm_field.specs.Limits.{number_of_constants}
use Rattle.vm_field.specs.Machine.{Stands, start}
use Rattle.air_kit.specs.DeepCells.{deep_at_start}
use Rattle.air_kit.specs.Places.{Claim}
use Rattle.air_kit.specs.RowStates.{state_at, tape_of}
use Rattle.air_kit.specs.Traces.{claim_of}
use Rattle.air_kit.specs.declared.trace.Public.{Public}
use Rattle.air_kit.specs.declared.trace.Trace.{Trace}
use Rattle.rpo_hash.specs.Constants.{constants_of}
use Rattle.sound_buses.specs.BusFacts.{Granted, HasTables}

-- The first row shows the state at the start, with the inputs and the trace's tape; the last one shows the end, with the outputs, after
-- as many cycles as rows have one behind them.
pub record EndFacts (k : Claim) (rows : List (List ℕ)) : Type 0 where
  pub starts : state_at (deep_at_start k) rows 0 ≡ start k.inputs (tape_of rows)
  pub stands : Stands (state_at (deep_at_start k) rows (length rows - 1)) k.outputs
  pub clock : (state_at (deep_at_start k) rows (length rows - 1)).core.clock ≡ length rows - 1

abbrev pub GrantedEnds : Type 0
GrantedEnds = (p : Public) (t : Trace) → length (constants_of p.params) ≡ number_of_constants → HasTables t → Granted p t
    → EndFacts (claim_of p t) t.main
