-- What the buses of an accepted trace say of the rows of its main table, beside what the entries say.
use Rattle.std.specs.Prelude.{◌≡◌, ◌≤◌, length}
use Rattle.vm_field.specs.Limits.{number_of_constants}
use Rattle.vm_table.specs.Layout.{IsTable}
use Rattle.rpo_hash.specs.Constants.{constants_of}
use Rattle.air_kit.specs.DeepCells.{deep_at_start}
use Rattle.air_kit.specs.Traces.{HasCounts, claim_of, most_rows}
use Rattle.air_kit.specs.declared.trace.TableName.TheVariants as table
use Rattle.air_kit.specs.Acceptance.{IsAccepted}
use Rattle.air_kit.specs.declared.trace.Public.{Public}
use Rattle.air_kit.specs.declared.trace.Trace.{Trace}
use Rattle.facts_main.specs.MainRows.{ShowsRows}
use Rattle.sound_buses.specs.Blocks.{BlockFacts}
use Rattle.sound_buses.specs.Children.{ChildFacts}
use Rattle.sound_buses.specs.Batches.{GroupFacts}
use Rattle.sound_buses.specs.Overflow.{OverflowFacts}
use Rattle.sound_buses.specs.Lookups.{HashFacts, BitFacts, MemoryFacts, RangeFacts, KernelFacts}

-- the tables of a trace are tables of elements, of so many rows as they may have
pub record HasTables (t : Trace) : Type 0 where
  pub counts : HasCounts t
  pub main : IsTable 65 t.main
  pub range : IsTable 2 t.range
  pub hasher : IsTable 15 t.hasher
  pub bitwise : IsTable 12 t.bitwise
  pub memory : IsTable 14 t.memory
  pub kernel : IsTable 5 t.kernel
  pub left : IsTable 1 t.left

-- what rows show, and what the buses grant them
pub record Granted (p : Public) (t : Trace) : Type 0 where
  pub rows : ShowsRows (claim_of p t) t.main
  pub few : length t.main ≤ most_rows table.Main
  pub blocks : BlockFacts t.main
  pub children : ChildFacts t.main p.statement.digest
  pub groups : GroupFacts t.main
  pub overflow : OverflowFacts (deep_at_start (claim_of p t)) t.main t.left p.statement.outputs
  pub hashes : HashFacts (constants_of p.params) t.main t.hasher
  pub bits : BitFacts t.main
  pub memory : MemoryFacts t.main
  pub ranges : RangeFacts t.main
  pub kernel : KernelFacts p.statement.kernel t.main

-- an accepted trace grants all this
abbrev pub AcceptedGrants : Type 0
AcceptedGrants = (p : Public) (t : Trace) → length (constants_of p.params) ≡ number_of_constants → HasTables t → IsAccepted p t → Granted p t
