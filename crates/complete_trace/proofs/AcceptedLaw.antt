-- The trace of a run is accepted: bus by bus each tuple is asked as often as it is given.
use Rattle.complete_rows.proofs.Words
use Words.{◌≡◌, ◌≢◌, ℕ, List, sym, ap, subst, arith, State, Bus, asked_on, given_on, Claim, Requests, Trace, filled}
use Words.bus
use Rattle.buses.specs.Names.{bus_number}
use Rattle.air_kit.specs.Requests.{Answers}
use Rattle.air_kit.specs.Traces.{claim_of}
use Rattle.complete_requests.specs.Asked.{requests}
use Rattle.complete_trace.specs.Acceptance.{RunIsAccepted}
use Rattle.complete_trace.proofs.BlockBuses.{blocks_alike, children_alike, groups_alike, loops_alike}
use Rattle.complete_trace.proofs.MainSides.{AreSides, run_sides}
use Rattle.complete_trace.proofs.OverflowBus.{overflow_alike}
use Rattle.complete_trace.proofs.RangeBus.{range_alike}
use Rattle.complete_trace.proofs.TableBuses.{bitwise_alike, hasher_alike, kernel_alike, memory_alike}
use Rattle.complete_trace.proofs.TraceClaim.{trace_zero}

-- a bus of another number than that of ranges
other : (on : Bus) → bus_number on ≢ bus_number bus.Range → on ≢ bus.Range
other on apart e = apart (ap bus_number e)

module _ (k : Claim) (constants : List ℕ) (kernel : List (List ℕ)) (inputs : List ℕ) (r : Requests) (u : State) (t : Trace)
    (main : AreSides constants k.digest inputs r u t.main) (a : Answers constants kernel r t) (given : k.inputs ≡ inputs)
    (outputs : k.outputs ≡ u.core.stack) where
  alike : (on : Bus) (v : List ℕ) → asked_on k t on v ≡ given_on k t on v
  alike bus.Blocks v = blocks_alike k t v (main.blocks v) (a.given bus.Blocks v (other bus.Blocks (omega arith)))
  alike bus.Children v = children_alike k t v (main.children v) (a.given bus.Children v (other bus.Children (omega arith)))
  alike bus.Loops v = loops_alike k t v (main.loops v) (a.given bus.Loops v (other bus.Loops (omega arith)))
  alike bus.Groups v = groups_alike k t v (main.groups v) (a.given bus.Groups v (other bus.Groups (omega arith)))
  alike bus.Overflow v =
      overflow_alike k t v (main.overflow.table k t.left given outputs a.keys v) (a.given bus.Overflow v (other bus.Overflow (omega arith)))
  alike bus.Hasher v = hasher_alike k constants r t main.asks v (a.given bus.Hasher v (other bus.Hasher (omega arith)))
  alike bus.Bitwise v = bitwise_alike k constants r t main.asks v (a.given bus.Bitwise v (other bus.Bitwise (omega arith)))
  alike bus.Memory v = memory_alike k constants r t main.asks v (a.given bus.Memory v (other bus.Memory (omega arith)))
  alike bus.Range v = range_alike k r.ranges t v (main.asks.range v) (a.ranges v)
  alike bus.Kernel v = kernel_alike k constants r t main.asks v (a.given bus.Kernel v (other bus.Kernel (omega arith)))

pub run_accepted : RunIsAccepted
run_accepted constants kernel limit tree inputs tape u log r p t is trace = record {
  zero = trace_zero r p t is trace;
  buses = alike (claim_of p t) constants kernel inputs (requests constants kernel u log) u t main trace.answers is.inputs_are is.outputs_are;
}
  where
    main : AreSides constants p.statement.digest inputs (requests constants kernel u log) u t.main
    main = subst (AreSides constants p.statement.digest inputs (requests constants kernel u log) u) (sym trace.main_is)
        (subst (λ digest. AreSides constants digest inputs (requests constants kernel u log) u (filled constants kernel u log)) (sym is.digest_is)
        (run_sides r))
