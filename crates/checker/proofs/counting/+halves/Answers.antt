-- The tallies of both halves are put together.
use Rattle.std.proofs.Common.{ℕ, List, ◌≡◌, subst, IfSome}
use Rattle.buses.specs.declared.bus.Bus.{Bus}
use Rattle.bus_kit.specs.ByBus.{both_by}
use Rattle.bus_kit.specs.Counting.{summed}
use Rattle.checker.specs.Counting.{IsPartCounted}
use Rattle.checker.specs.Settings.{claim_in}
use Rattle.checker.proofs.CountingLemmas.{halves_counted, halves_fit, ok_given}
use Rattle.checker.proofs.counting.+halves.Goals as goal

pub absorb-requires : goal.absorb-requires
absorb-requires g t c =
    halves_fit (claim_in c.args.setting.now) c.args.trace.now c.args.part c.halves.result.0 c.halves.result.1 c.in_ok-tallies.tallies c.in_ok-right.field-0
    c.halves.ensures.low c.halves.ensures.middle c.halves.ensures.high
    (subst (λ r. IfSome r (IsPartCounted (claim_in c.args.setting.now) c.args.trace.now c.halves.result.0)) c.in_ok-tallies.was c.join-left.ensures.first)
    (subst (λ r. IfSome r (IsPartCounted (claim_in c.args.setting.now) c.args.trace.now c.halves.result.1)) c.in_ok-right.was c.join-left.ensures.second)

pub returns : goal.returns
returns g t c =
    halves_counted (claim_in c.args.setting.now) c.args.trace.now c.args.part c.halves.result.0 c.halves.result.1 c.in_ok-tallies.tallies
    c.in_ok-right.field-0 c.absorb.new.self c.halves.ensures.pieces c.halves.ensures.low c.halves.ensures.middle c.halves.ensures.high
    (subst (λ r. IfSome r (IsPartCounted (claim_in c.args.setting.now) c.args.trace.now c.halves.result.0)) c.in_ok-tallies.was c.join-left.ensures.first)
    (subst (λ r. IfSome r (IsPartCounted (claim_in c.args.setting.now) c.args.trace.now c.halves.result.1)) c.in_ok-right.was c.join-left.ensures.second)
    (ok_given c.absorb.result c.ok.result _
    ((bus : Bus) (u : List ℕ) → both_by c.absorb.new.self bus u ≡ summed (both_by c.in_ok-tallies.tallies bus u) (both_by c.in_ok-right.field-0 bus u))
    c.ok.ensures.value c.in_ok-ok.was c.absorb.ensures)
