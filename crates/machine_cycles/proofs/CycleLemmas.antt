-- One cycle, as the code answers it.
use Rattle.std.proofs.Common.{◌≡◌, ℕ, ◌+◌, ◌<◌, ◌≤◌, List, [], ◌∷◌, ◌++◌, length, map, take, drop, Result, Ok, Err, None, append-nil, refl, sym, ap, ◌∙◌, arith}
use Rattle.std.proofs.lemmas.Bool.{le-ltb}
use Rattle.vm_field.specs.Machine as machine
use Rattle.vm_field.specs.Machine.{Core, zero_word}
use Rattle.vm_ops.specs.declared.op.Op.{Op}
use Rattle.vm_ops.specs.Step.{cycle_taking}
use Rattle.block_tree.specs.Cycles as cycles
use Rattle.block_tree.specs.Cycles.{Cycle, advice_taken, effect_of, top}
use Rattle.block_tree.specs.Execution as run
use Rattle.block_tree.specs.Execution.{Done, Outcome, event_of}
use Rattle.block_tree.proofs.Parts.{Cycled, taking-inv, taking-done, taking-trap, taking-late}
use Rattle.op_steps.specs.declared.refusal.StepStop.{StepStop}
use Rattle.op_steps.specs.declared.refusal.StepStop.TheVariants as step_stop
use Rattle.vm_state.specs.Views.{core_of, state_of}
use Rattle.vm_state.specs.declared.state.State.{State}
use Rattle.machine_cycles.specs.Effects.{Effected}
use Rattle.block_tree.specs.Rows.{hash_of, op_of_mark}
use Rattle.machine_cycles.specs.Events.{shown_between, visible_of}
use Rattle.machine_cycles.specs.Marks.{mark_of}
use Rattle.machine_cycles.specs.Running.{Ran, RanAs, shown_in}
use Rattle.machine_cycles.specs.Stops.{stop_at}
use Rattle.machine_cycles.specs.Settings.{constants_in, cycle_in}
use Rattle.machine_cycles.specs.declared.cycling.Runner.{Runner}
use Rattle.machine_cycles.specs.declared.event.Event.{Event}
use Rattle.machine_cycles.specs.declared.event.Visible.{Visible}
use Rattle.machine_cycles.specs.declared.mark.Mark.{Mark}
use Rattle.machine_cycles.specs.declared.mark.Mark.TheVariants.{StartOpaque}
use Rattle.machine_cycles.specs.declared.refusal.Stop.{Stop}
use Rattle.machine_cycles.specs.declared.refusal.Stop.TheVariants.{OutOfCycles}
use Rattle.machine_cycles.specs.declared.setting.Setting.{Setting}

-- the limit cuts the cycle off
pub ran-late : (setting : Setting) (mark : cycles.Mark) (after : Runner) {r : Result (Unit {0}) Stop}
    → setting.limit ≤ after.state.clock → r ≡ Err OutOfCycles → Ran setting (cycle_in setting mark (state_of after.state)) after.log r after
ran-late setting mark after late e =
    rw e (record {
      answer = record {
        more = [];
        cut = taking-late setting.limit mark (advice_taken mark)
            (effect_of (constants_in setting) setting.kernel.now mark) (state_of after.state) late;
        events = sym (append-nil after.log);
      };
    })

-- what the log shows of a cycle that was done
shown-done : (setting : Setting) (mark : cycles.Mark) (s t : machine.State) (es : List run.Event) → cycle_in setting mark s ≡ Done t es
    → map (shown_in setting) es ≡ shown_between mark (take (advice_taken mark) s.tape) s.core t.core ∷ []
shown-done setting mark s t es e =
    from (taking-inv setting.limit mark (advice_taken mark) (effect_of (constants_in setting) setting.kernel.now mark) s t es e)
  where
    from : Cycled setting.limit mark (advice_taken mark) (effect_of (constants_in setting) setting.kernel.now mark) s t es
        → map (shown_in setting) es ≡ shown_between mark (take (advice_taken mark) s.tape) s.core t.core ∷ []
    from c = rw (c.event, c.made, c.now) refl

-- a cycle was done, and its event was logged
pub ran-done : (setting : Setting) (mark : cycles.Mark) (s : machine.State) (log : List Event) (after : Runner) (u : Unit {0}) (event : Event)
    → cycle_in setting mark s ≡ Done (state_of after.state) (event_of mark (advice_taken mark) s ∷ [])
    → after.log ≡ log ++ event ∷ []
    → event ≡ shown_between mark (take (advice_taken mark) s.tape) s.core (core_of after.state)
    → Ran setting (cycle_in setting mark s) log (Ok u) after
ran-done setting mark s log after u event done logged is = record {
  answer = record {
    more = event_of mark (advice_taken mark) s ∷ [];
    done = done;
    events = logged ∙ ap (λ x. log ++ x ∷ []) is ∙ ap (λ x. log ++ x) (sym (shown-done setting mark s (state_of after.state) _ done));
  };
}

-- the same of a runner with the same state and log
pub ran-kept : {setting : Setting} {o : Outcome} {log : List Event} {u v : Unit {0}} {before after : Runner}
    → after.state ≡ before.state → after.log ≡ before.log → Ran setting o log (Ok u) before → Ran setting o log (Ok v) after
ran-kept s l h = record { answer = record { more = h.answer.more; done = rw s h.answer.done; events = l ∙ h.answer.events } }

-- such a cycle takes nothing of the tape
no_advice : (m : Mark) → advice_taken (mark_of m) ≡ 0
no_advice StartOpaque = refl
no_advice _ = refl

-- what the log shows of such a cycle
abbrev pub row : Mark → Core → Core → Event
row m before after = record {
  op = op_of_mark (mark_of m);
  before = visible_of before;
  imm = None;
  tape = zero_word;
  word = zero_word;
  hash = hash_of (mark_of m);
  result = top after;
}

shown-row : (m : Mark) (tape : List ℕ) (before after : Core)
    → shown_between (mark_of m) (take (advice_taken (mark_of m)) tape) before after ≡ row m before after
shown-row StartOpaque tape before after = refl
shown-row _ tape before after = refl

module _ (setting : Setting) (m : Mark) (before mid : State) where
  abbrev effect_at : List ℕ → Cycle
  effect_at advice = effect_of (constants_in setting) setting.kernel.now (mark_of m) advice

  stop-as : (log : List Event) (after : Runner) (stop : StepStop) → before.clock < setting.limit
      → Effected (effect_at [] (core_of before)) (Err stop) before mid
      → RanAs setting (cycle_in setting (mark_of m) (state_of before)) log (Err (stop_at before.clock stop)) after
  unfolding cycle_taking
  stop-as log after (step_stop.Trap cause) within e =
      let none : advice_taken (mark_of m) ≡ 0 = no_advice m in
      taking-trap setting.limit (mark_of m) (advice_taken (mark_of m)) effect_at (state_of before) cause within
      (rw (none, le-ltb (length before.tape) 0 (omega arith), e) refl)
  stop-as log after step_stop.Memory within e = tt

  -- the cycle stopped
  pub mark-stop : {log : List Event} {after : Runner} (stop : StepStop) (visible : Visible) (stopped : Stop)
      → (visible ≡ visible_of (core_of before)) × (before.clock < setting.limit)
      → stopped ≡ stop_at visible.clock stop
      → Effected (effect_at [] (core_of before)) (Err stop) before mid
      → Ran setting (cycle_in setting (mark_of m) (state_of before)) log (Err stopped) after
  mark-stop {log} {after} stop visible stopped began is e = rw (is, began.0) (record { answer = stop-as log after stop began.1 e })

  -- the cycle was done
  pub mark-done : {log : List Event} {after : Runner} {u v : Unit {0}} (op : Op) (visible : Visible) (tape word hash : List ℕ) (result : ℕ)
      → (visible ≡ visible_of (core_of before)) × (before.clock < setting.limit)
      → Effected (effect_at [] (core_of before)) (Ok v) before mid
      → after.state ≡ record mid { clock = mid.clock + 1 }
      → op ≡ op_of_mark (mark_of m) → tape ≡ zero_word → word ≡ zero_word → hash ≡ hash_of (mark_of m) → result ≡ top (core_of after.state)
      → after.log ≡ log ++ (record { op = op; before = visible; imm = None; tape = tape; word = word; hash = hash; result = result }) ∷ []
      → Ran setting (cycle_in setting (mark_of m) (state_of before)) log (Ok u) after
  mark-done {log} {after} {u} op visible tape word hash result began e now is_op is_tape is_word is_hash is_result logged =
      let none : advice_taken (mark_of m) ≡ 0 = no_advice m in
      let made : effect_at (take (advice_taken (mark_of m)) before.tape) (core_of before) ≡ Ok (core_of mid) = rw none e.0 in
      let same : state_of after.state ≡ record {
        core = record (core_of mid) { clock = mid.clock + 1 };
        tape = drop (advice_taken (mark_of m)) before.tape;
      }
      = rw (now, e.1, none) refl in
      ran-done setting (mark_of m) (state_of before) log after u
      (record { op = op; before = visible; imm = None; tape = tape; word = word; hash = hash; result = result })
      (taking-done setting.limit (mark_of m) (advice_taken (mark_of m)) effect_at (state_of before) (core_of mid) began.1 (rw none (omega arith)) made
      ∙ ap (λ t. Done t (event_of (mark_of m) (advice_taken (mark_of m)) (state_of before) ∷ [])) (sym same))
      logged
      (rw (is_op, began.0, is_tape, is_word, is_hash, is_result) (sym (shown-row m before.tape (core_of before) (core_of after.state))))
