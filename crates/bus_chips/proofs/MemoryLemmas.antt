-- A row of memory gives one tuple and asks four values; on the other buses it has nothing.
use Rattle.std.proofs.Common.{ℕ, ◌^◌, List, [], Option, Result, Ok, Err, OnOk, lit≤}
use Rattle.air_kit.specs.ChipTuples.{chip_asked, chip_given, memory_given, memory_ranges}
use Rattle.air_kit.specs.Places.{Claim}
use Rattle.air_kit.specs.declared.trace.TableName.TheVariants as table
use Rattle.buses.specs.declared.bus.Bus.{Bus}
use Rattle.buses.specs.declared.bus.Bus.TheVariants as bus
use Rattle.bus_kit.specs.Adding.{IsCounted}
use Rattle.bus_kit.specs.ByBus.{AreCounted, both_by}
use Rattle.bus_kit.specs.Tallies.{steps_tallied, values_tallied}
use Rattle.bus_kit.specs.Widths.{tallied}
use Rattle.bus_kit.specs.declared.tallies.Tallies.{Tallies}
use Rattle.bus_kit.specs.declared.tally.Tally.{Tally}
use Rattle.bus_kit.specs.declared.values.ValueTally.{ValueTally}
use Rattle.bus_kit.proofs.AddingLemmas.{counted_within, none_counted}

memory_bus : (c : Claim) (i : ℕ) (x : List ℕ) (next : Option (List ℕ)) (t : Tallies) (accesses : Tally 8) (values : ValueTally)
    → IsCounted 1 (tallied t.memory) (tallied accesses) [] (memory_given x) → IsCounted 16 (values_tallied t.range) (values_tallied values) (memory_ranges x) [] → (b : Bus)
    → IsCounted (2 ^ 66) (both_by t b) (both_by (record t { memory = accesses; range = values }) b)
    (chip_asked c b table.Memory i x next) (chip_given b table.Memory i x next)
memory_bus c i x next t accesses values given asked bus.Blocks = none_counted (2 ^ 66) (tallied t.blocks)
memory_bus c i x next t accesses values given asked bus.Children = none_counted (2 ^ 66) (tallied t.children)
memory_bus c i x next t accesses values given asked bus.Loops = none_counted (2 ^ 66) (tallied t.loops)
memory_bus c i x next t accesses values given asked bus.Groups = none_counted (2 ^ 66) (tallied t.groups)
memory_bus c i x next t accesses values given asked bus.Overflow = none_counted (2 ^ 66) (tallied t.overflow)
memory_bus c i x next t accesses values given asked bus.Hasher = none_counted (2 ^ 66) (steps_tallied t.hasher)
memory_bus c i x next t accesses values given asked bus.Bitwise = none_counted (2 ^ 66) (tallied t.bitwise)
memory_bus c i x next t accesses values given asked bus.Memory = counted_within 1 (2 ^ 66) (tallied t.memory) (tallied accesses) [] (memory_given x) given (lit≤ tt)
memory_bus c i x next t accesses values given asked bus.Range = counted_within 16 (2 ^ 66) (values_tallied t.range) (values_tallied values) (memory_ranges x) [] asked (lit≤ tt)
memory_bus c i x next t accesses values given asked bus.Kernel = none_counted (2 ^ 66) (tallied t.kernel)

pub memory_counted : {E : Type 0} (c : Claim) (i : ℕ) (x : List ℕ) (next : Option (List ℕ)) (t : Tallies) (accesses : Tally 8) (values : ValueTally)
    (r : Result (Unit {0}) E)
    → IsCounted 1 (tallied t.memory) (tallied accesses) [] (memory_given x) → OnOk r (IsCounted 16 (values_tallied t.range) (values_tallied values) (memory_ranges x) [])
    → OnOk r (AreCounted (2 ^ 66) t (record t { memory = accesses; range = values })
    (λ b. chip_asked c b table.Memory i x next) (λ b. chip_given b table.Memory i x next))
memory_counted c i x next t accesses values (Ok v) given asked = memory_bus c i x next t accesses values given asked
memory_counted c i x next t accesses values (Err e) given asked = tt
