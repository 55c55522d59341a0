-- From the comparison of one bus to that of all, and to the refusal of a trace.
use Rattle.std.proofs.Common.{◌≡◌, ◌<◌, Option, Some, None, sym, subst, ◌∙◌, arith, lit<}
use Rattle.air_kit.specs.Acceptance.{AreZero, IsAccepted, IsBusRefusal}
use Rattle.air_kit.specs.Places.{Claim}
use Rattle.air_kit.specs.Traces.{claim_of}
use Rattle.air_kit.specs.declared.trace.Public.{Public}
use Rattle.air_kit.specs.declared.trace.Trace.{Trace}
use Rattle.buses.specs.Counts.{AreAlike}
use Rattle.buses.specs.Names.{bus_number}
use Rattle.buses.specs.declared.bus.Bus.{Bus}
use Rattle.buses.specs.declared.bus.Bus.TheVariants as bus
use Rattle.bus_kit.specs.ByBus.{asked_by, given_by}
use Rattle.bus_kit.specs.declared.tallies.Tallies.{Tallies}
use Rattle.checker.specs.Counting.{IsTraceCounted}
use Rattle.checker.specs.Refusals.{BusesAreAlikeBelow, IsApartAnswer, IsApartBelow, IsFirstApart, IsRefusal, OnBuses}
use Rattle.checker.specs.declared.refusal.Apart.{Apart}
use Rattle.checker.specs.declared.refusal.Refused.{Refused}
use Rattle.checker.specs.declared.refusal.Refused.TheVariants as refused

bus_below : (b : Bus) → bus_number b < 11
bus_below bus.Blocks = lit< tt
bus_below bus.Children = lit< tt
bus_below bus.Loops = lit< tt
bus_below bus.Groups = lit< tt
bus_below bus.Overflow = lit< tt
bus_below bus.Hasher = lit< tt
bus_below bus.Bitwise = lit< tt
bus_below bus.Memory = lit< tt
bus_below bus.Range = lit< tt
bus_below bus.Kernel = lit< tt

bus_some : (b : Bus) → 0 < bus_number b
bus_some bus.Blocks = lit< tt
bus_some bus.Children = lit< tt
bus_some bus.Loops = lit< tt
bus_some bus.Groups = lit< tt
bus_some bus.Overflow = lit< tt
bus_some bus.Hasher = lit< tt
bus_some bus.Bitwise = lit< tt
bus_some bus.Memory = lit< tt
bus_some bus.Range = lit< tt
bus_some bus.Kernel = lit< tt

-- before the first bus
pub none_before : (asked given : OnBuses) → BusesAreAlikeBelow asked given 1
none_before asked given b h = absurd (let some = bus_some b in omega (arith, h, some))

-- all buses
pub apart_all : (asked given : OnBuses) (r : Option Apart) → IsApartBelow asked given 11 r → IsApartAnswer asked given r
apart_all asked given None alike = λ b. alike b (bus_below b)
apart_all asked given (Some a) first = first

-- The counts of a trace: where they are alike on all buses, a trace of which no row has a fault is accepted.
pub accepted : (p : Public) (t : Trace) (k : Claim) (tallies : Tallies) → k ≡ claim_of p t
    → IsTraceCounted k t tallies → AreZero (claim_of p t) t → ((b : Bus) → AreAlike (asked_by tallies b) (given_by tallies b)) → IsAccepted p t
accepted p t k tallies same counted zeros alike =
    let whole = subst (λ c. IsTraceCounted c t tallies) same counted in
    record {
      zero = zeros;
      buses = λ b u. sym (whole.asked b u) ∙ alike b u ∙ whole.given b u;
    }

-- Where they are apart, the first such bus refuses it.
pub refused_at : (p : Public) (t : Trace) (k : Claim) (tallies : Tallies) (a : Apart) → k ≡ claim_of p t
    → IsTraceCounted k t tallies → AreZero (claim_of p t) t → IsFirstApart (asked_by tallies) (given_by tallies) a
    → IsBusRefusal p t a.bus a.tuple a.asked a.given
refused_at p t k tallies a same counted zeros first =
    let whole = subst (λ c. IsTraceCounted c t tallies) same counted in
    record {
      zero = zeros;
      earlier = λ b h u. sym (whole.asked b u) ∙ first.earlier b h u ∙ whole.given b u;
      least = record {
        asked_is = first.least.asked_is ∙ whole.asked a.bus a.tuple;
        given_is = first.least.given_is ∙ whole.given a.bus a.tuple;
        apart = first.least.apart;
        least = λ u lesser. sym (whole.asked a.bus u) ∙ first.least.least u lesser ∙ whole.given a.bus u;
      };
    }

pub refused_with : (p : Public) (t : Trace) (r : Refused) (a : Apart) → r ≡ refused.Bus a.bus a.tuple a.asked a.given
    → IsBusRefusal p t a.bus a.tuple a.asked a.given → IsRefusal p t r
refused_with p t r a is h = subst (IsRefusal p t) (sym is) h
