-- Each row of a trace shows its cycle, and the state of the next row is the one behind it.
use Rattle.std.specs.Prelude.{◌≡◌, ◌-◌, length}
use Rattle.vm_field.specs.Limits.{number_of_constants}
use Rattle.rpo_hash.specs.Constants.{constants_of}
use Rattle.air_kit.specs.DeepCells.{deep_at_start}
use Rattle.air_kit.specs.RowStates.{state_at}
use Rattle.air_kit.specs.Traces.{claim_of}
use Rattle.air_kit.specs.declared.trace.Public.{Public}
use Rattle.air_kit.specs.declared.trace.Trace.{Trace}
use Rattle.sound_buses.specs.BusFacts.{Granted, HasTables}
use Rattle.sound_runs.specs.Running.{ShowRun}

-- a limit of as many cycles as rows have one behind them is enough
abbrev pub GrantedCycles : Type 0
GrantedCycles = (p : Public) (t : Trace) → length (constants_of p.params) ≡ number_of_constants → HasTables t → Granted p t
    → ShowRun (constants_of p.params) p.statement.kernel (length t.main - 1) t.main (state_at (deep_at_start (claim_of p t)) t.main)
