-- How often a tuple is asked and given on each bus.
use Rattle.std.specs.Prelude.{ℕ, List}
use Rattle.buses.specs.declared.bus.Bus.{Bus}
use Rattle.buses.specs.declared.bus.Bus.TheVariants as bus
use Rattle.buses.specs.Counts.{Counted}
use Rattle.bus_kit.specs.Adding.{Tallied, CanCount, IsCounted}
use Rattle.bus_kit.specs.Tallies.{steps_tallied, values_tallied}
use Rattle.bus_kit.specs.Widths.{tallied}
use Rattle.bus_kit.specs.declared.tallies.Tallies.{Tallies}

-- both counts of each tuple on a bus
abbrev pub both_by : Tallies → Bus → Tallied
both_by t bus.Blocks = tallied t.blocks
both_by t bus.Children = tallied t.children
both_by t bus.Loops = tallied t.loops
both_by t bus.Groups = tallied t.groups
both_by t bus.Overflow = tallied t.overflow
both_by t bus.Hasher = steps_tallied t.hasher
both_by t bus.Bitwise = tallied t.bitwise
both_by t bus.Memory = tallied t.memory
both_by t bus.Range = values_tallied t.range
both_by t bus.Kernel = tallied t.kernel

-- how often a tuple was asked on a bus
abbrev pub asked_by : Tallies → Bus → List ℕ → ℕ
asked_by t bus u = (both_by t bus u).0

-- how often it was given
abbrev pub given_by : Tallies → Bus → List ℕ → ℕ
given_by t bus u = (both_by t bus u).1

-- each count on each bus is below 2^127
abbrev pub HaveRoom : Tallies → Type 0
HaveRoom t = (bus : Bus) → CanCount (both_by t bus)

-- On each bus the tuples of one list were asked and those of another given, and no count grew by more than n.
abbrev pub AreCounted : ℕ → Tallies → Tallies → (Bus → List Counted) → (Bus → List Counted) → Type 0
AreCounted n old new asked given = (bus : Bus) → IsCounted n (both_by old bus) (both_by new bus) (asked bus) (given bus)
