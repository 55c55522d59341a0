-- One part of a run behind another, as the code answers them.
use Rattle.std.proofs.Common.{◌≡◌, List, [], ◌++◌, map, Result, Ok, Err, sym, ap, ◌∙◌, append_assoc, append-nil}
use Rattle.std.proofs.lemmas.List.{map-append}
use Rattle.vm_field.specs.Machine as machine
use Rattle.block_tree.specs.Execution as run
use Rattle.block_tree.specs.Execution.{Outcome, Part, seq, skip}
use Rattle.block_tree.proofs.Parts.{seq-done, seq-late, seq-late_second, seq-trap, seq-trap_second, skip-done}
use Rattle.vm_state.specs.Views.{state_of}
use Rattle.machine_cycles.specs.Running.{IsDone, Ran, RanAs, shown_in}
use Rattle.machine_cycles.specs.declared.cycling.Runner.{Runner}
use Rattle.machine_cycles.specs.declared.event.Event.{Event}
use Rattle.machine_cycles.specs.declared.refusal.Stop.{Stop}
use Rattle.machine_cycles.specs.declared.refusal.Stop.TheVariants.{Trap, OutOfCycles, Memory}
use Rattle.machine_cycles.specs.declared.setting.Setting.{Setting}

-- the events of one part and of what comes behind it
both-logged : (setting : Setting) (log mid after : List Event) (more more' : List run.Event) → mid ≡ log ++ map (shown_in setting) more
    → after ≡ mid ++ map (shown_in setting) more' → after ≡ log ++ map (shown_in setting) (more ++ more')
both-logged setting log mid after more more' a b =
    b ∙ ap (λ x. x ++ map (shown_in setting) more') a
    ∙ append_assoc log (map (shown_in setting) more) (map (shown_in setting) more')
    ∙ ap (λ x. log ++ x) (sym (map-append (shown_in setting) more more'))

then-as : (f g : Part) (setting : Setting) (s : machine.State) (log : List Event) (mid after : Runner) (r : Result (Unit {0}) Stop)
    → IsDone setting (f s) log mid → RanAs setting (g (state_of mid.state)) mid.log r after → RanAs setting (seq f g s) log r after
then-as f g setting s log mid after (Ok u) a b = record {
  more = a.more ++ b.more;
  done = seq-done f g s (state_of mid.state) (state_of after.state) a.more b.more a.done b.done;
  events = both-logged setting log mid.log after.log a.more b.more a.events b.events;
}
then-as f g setting s log mid after (Err (Trap clock cause)) a b = seq-trap_second f g s (state_of mid.state) a.more clock cause a.done b
then-as f g setting s log mid after (Err OutOfCycles) a b = record {
  more = a.more ++ b.more;
  cut = seq-late_second f g s (state_of mid.state) (state_of after.state) a.more b.more a.done b.cut;
  events = both-logged setting log mid.log after.log a.more b.more a.events b.events;
}
then-as f g setting s log mid after (Err Memory) a b = tt

fail-as : (f g : Part) (setting : Setting) (s : machine.State) (log : List Event) (after : Runner) (stop : Stop)
    → RanAs setting (f s) log (Err stop) after → RanAs setting (seq f g s) log (Err stop) after
fail-as f g setting s log after (Trap clock cause) a = seq-trap f g s clock cause a
fail-as f g setting s log after OutOfCycles a =
    record { more = a.more; cut = seq-late f g s (state_of after.state) a.more a.cut; events = a.events }
fail-as f g setting s log after Memory a = tt

-- the first part was done
pub ran-then : (f g : Part) {setting : Setting} {s : machine.State} {log : List Event} {u : Unit {0}} {mid : Runner}
    {r : Result (Unit {0}) Stop} {after : Runner}
    → Ran setting (f s) log (Ok u) mid → Ran setting (g (state_of mid.state)) mid.log r after → Ran setting (seq f g s) log r after
ran-then f g {setting} {s} {log} {u} {mid} {r} {after} a b = record { answer = then-as f g setting s log mid after r a.answer b.answer }

-- the first part stopped
pub ran-fail : (f g : Part) {setting : Setting} {s : machine.State} {log : List Event} {stop : Stop} {after : Runner} {r : Result (Unit {0}) Stop}
    → r ≡ Err stop → Ran setting (f s) log (Err stop) after → Ran setting (seq f g s) log r after
ran-fail f g {setting} {s} {log} {stop} {after} {r} e a = rw e (record { answer = fail-as f g setting s log after stop a.answer })

-- nothing is left to do
pub ran-skip : (setting : Setting) (after : Runner) (u : Unit {0}) → Ran setting (skip (state_of after.state)) after.log (Ok u) after
ran-skip setting after u = record { answer = record { more = []; done = skip-done (state_of after.state); events = sym (append-nil after.log) } }

-- the same of an equal outcome
pub ran-along : {setting : Setting} {o p : Outcome} {log : List Event} {r : Result (Unit {0}) Stop} {after : Runner} → o ≡ p
    → Ran setting p log r after → Ran setting o log r after
ran-along e a = rw e a

-- what is still to be run, from one state, of a whole that began at another
pub record Left (setting : Setting) (whole rest : Part) (from now : Runner) : Type 0 where
  pub goes : (r : Result (Unit {0}) Stop) (after : Runner) → Ran setting (rest (state_of now.state)) now.log r after
      → Ran setting (whole (state_of from.state)) from.log r after

pub left-start : (setting : Setting) (f : Part) (from : Runner) → Left setting f f from from
left-start setting f from = record { goes = λ r after h. h }

pub left-along : {setting : Setting} {whole : Part} (f g : Part) {from now : Runner} → f (state_of now.state) ≡ g (state_of now.state)
    → Left setting whole f from now → Left setting whole g from now
left-along f g e left = record { goes = λ r after h. left.goes r after (ran-along e h) }

pub left-next : {setting : Setting} {whole : Part} (f g : Part) {from now : Runner} {u : Unit {0}} {mid : Runner}
    → Left setting whole (seq f g) from now → Ran setting (f (state_of now.state)) now.log (Ok u) mid → Left setting whole g from mid
left-next f g left h = record { goes = λ r after k. left.goes r after (ran-then f g h k) }

pub left-fail : {setting : Setting} {whole : Part} (f g : Part) {from now : Runner} {stop : Stop}
    {r : Result (Unit {0}) Stop} {after : Runner}
    → Left setting whole (seq f g) from now → r ≡ Err stop → Ran setting (f (state_of now.state)) now.log (Err stop) after
    → Ran setting (whole (state_of from.state)) from.log r after
left-fail f g {r = r} {after = after} left e h = left.goes r after (ran-fail f g e h)
