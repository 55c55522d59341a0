-- What is answered of the buses, and of a trace as a whole.
use Rattle.std.specs.Prelude.{ℕ, ◌<◌, List, Option, Some, None}
use Rattle.air_kit.specs.Acceptance.{AreZero, IsAccepted, IsBusRefusal, IsFirstFault}
use Rattle.air_kit.specs.Traces.{claim_of}
use Rattle.air_kit.specs.declared.trace.Public.{Public}
use Rattle.air_kit.specs.declared.trace.Trace.{Trace}
use Rattle.buses.specs.Counts.{AreAlike, IsLeastApart}
use Rattle.buses.specs.Names.{bus_number}
use Rattle.buses.specs.declared.bus.Bus.{Bus}
use Rattle.checker.specs.declared.refusal.Apart.{Apart}
use Rattle.checker.specs.declared.refusal.Refused.{Refused}
use Rattle.checker.specs.declared.refusal.Refused.TheVariants as refused

-- how often tuples are asked, or given, on each bus
abbrev pub OnBuses : Type 0
OnBuses = Bus → List ℕ → ℕ

-- on each bus of a lesser number each tuple is asked as often as it is given
abbrev pub BusesAreAlikeBelow : OnBuses → OnBuses → ℕ → Type 0
BusesAreAlikeBelow asked given n = (bus : Bus) → bus_number bus < n → AreAlike (asked bus) (given bus)

-- the first bus with counts that are apart, and there the least tuple
pub record IsFirstApart (asked given : OnBuses) (a : Apart) : Type 0 where
  pub earlier : BusesAreAlikeBelow asked given (bus_number a.bus)
  pub least : IsLeastApart (asked a.bus) (given a.bus) a.tuple a.asked a.given

-- the answer where the buses of a lesser number were compared
abbrev pub IsApartBelow : OnBuses → OnBuses → ℕ → Option Apart → Type 0
IsApartBelow asked given n None = BusesAreAlikeBelow asked given n
IsApartBelow asked given n (Some a) = IsFirstApart asked given a

-- the answer where all were
abbrev pub IsApartAnswer : OnBuses → OnBuses → Option Apart → Type 0
IsApartAnswer asked given None = (bus : Bus) → AreAlike (asked bus) (given bus)
IsApartAnswer asked given (Some a) = IsFirstApart asked given a

-- Why a trace is refused: its first fault; where it has none, the first bus apart, with the least tuple; or the want of memory, which
-- comes only where no row has a fault.
abbrev pub IsRefusal : Public → Trace → Refused → Type 0
IsRefusal p t (refused.Fault fault) = IsFirstFault (claim_of p t) t fault
IsRefusal p t (refused.Bus bus tuple asked given) = IsBusRefusal p t bus tuple asked given
IsRefusal p t refused.Memory = AreZero (claim_of p t) t

-- what is answered of the buses where no row has a fault
abbrev pub IsBusesAnswer : Public → Trace → Option Refused → Type 0
IsBusesAnswer p t None = IsAccepted p t
IsBusesAnswer p t (Some r) = IsRefusal p t r
