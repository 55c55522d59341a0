-- A whole run.
use Rattle.std.proofs.Common.{◌≡◌, ℕ, ◌+◌, ◌-◌, ◌≤◌, Bool, true, false, cond, List, [], ◌++◌, length, map, take, sym, refl, ap, ◌∙◌, arith, length-append}
use Rattle.std.proofs.Math.Seq.{take-append_seam}
use Rattle.vm_field.specs.Machine as machine
use Rattle.vm_field.specs.Machine.{start}
use Rattle.rpo_hash.specs.Constants.{constants_of}
use Rattle.rpo_hash.specs.declared.params.Params.{Params}
use Rattle.block_tree.specs.Execution as run
use Rattle.block_tree.specs.Execution.{Done, IsCutOff, cut_off}
use Rattle.block_tree.specs.Laws.{tape_taken}
use Rattle.block_tree.specs.Trees.{Tree, tree_digest}
use Rattle.block_tree.specs.TreeView.{tree_of}
use Rattle.block_tree.specs.declared.program.Program.{Program}
use Rattle.block_tree.proofs.Tapes.{fed-execution}
use Rattle.vm_state.specs.Views.{state_of}
use Rattle.vm_state.specs.declared.inputs.Inputs.{Inputs}
use Rattle.machine_cycles.specs.Running.{shown_in}
use Rattle.machine_cycles.specs.declared.cycling.Runner.{Runner}
use Rattle.machine_cycles.specs.declared.event.Event.{Event}
use Rattle.machine_cycles.specs.declared.setting.Setting.{Setting}
use Rattle.processor.specs.Advanced.{IsProgressOf}
use Rattle.processor.specs.Ended.{HasCome}
use Rattle.processor.specs.Executed.{IsRunOf, outcome_of}
use Rattle.processor.specs.Parts.{execution_in}
use Rattle.processor.specs.declared.progress.Progress.{Progress}

-- what was taken of a list of which this is left
front : (whole taken left : List ℕ) → whole ≡ taken ++ left → whole ≡ take (length whole - length left) whole ++ left
front whole taken left e =
    let count : length whole ≡ length taken + length left = ap length e ∙ length-append taken left in
    let size : length whole - length left ≡ length taken = omega arith in
    rw size (e ∙ ap (λ x. x ++ left) (sym (ap (take (length taken)) e ∙ take-append_seam taken left)))

start-tape : (stack advice : List ℕ) → (start stack advice).tape ≡ advice
unfolding start
start-tape stack advice = refl

module _ (params : Params) (program : Program) (inputs : Inputs) (limit : ℕ) where
  -- the whole of a run in a setting
  same-whole : (tree : Tree) (s : machine.State) (setting : Setting) → setting.params.now ≡ params → setting.kernel.now ≡ program.kernel
      → setting.limit ≡ limit → tree ≡ tree_of program.tree → s ≡ start inputs.stack inputs.advice
      → outcome_of params program inputs limit ≡ execution_in setting tree s
  same-whole tree s setting is_params is_kernel is_limit is_tree is_start = rw (← is_params, ← is_kernel, ← is_limit, ← is_tree, ← is_start) refl

  pub progress_of : (tree : Tree) (s : machine.State) {setting : Setting} {log : List Event} {is_done : Bool} {after : Runner}
      → HasCome setting (execution_in setting tree s) log is_done after → log ≡ []
      → setting.params.now ≡ params → setting.kernel.now ≡ program.kernel → setting.limit ≡ limit
      → tree ≡ tree_of program.tree → s ≡ start inputs.stack inputs.advice
      → IsProgressOf params program inputs limit (record { state = after.state; events = after.log; is_done = is_done })
  progress_of tree s {setting} {log} h no_log is_params is_kernel is_limit is_tree is_start = record {
    log = h.more;
    outcome = same-whole tree s setting is_params is_kernel is_limit is_tree is_start ∙ h.came;
    events = rw (← is_params, ← is_kernel) (h.events ∙ ap (λ x. x ++ map (shown_in setting) h.more) no_log);
  }

  -- a run that came to its end, or did not
  to-end : (p : Progress) (h : IsProgressOf params program inputs limit p) → p.is_done ≡ true
      → outcome_of params program inputs limit ≡ Done (state_of p.state) h.log
  to-end p h is = h.outcome ∙ ap (λ b. cond b (Done (state_of p.state) h.log) (run.OutOfCycles (state_of p.state) h.log)) is

  pub not-ended : (p : Progress) → IsProgressOf params program inputs limit p → p.is_done ≡ false → IsCutOff (outcome_of params program inputs limit)
  not-ended p h is =
      rw (h.outcome ∙ ap (λ b. cond b (Done (state_of p.state) h.log) (run.OutOfCycles (state_of p.state) h.log)) is) (cut_off (state_of p.state) h.log)

  tape_split : (t : machine.State) (log : List run.Event) → outcome_of params program inputs limit ≡ Done t log
      → inputs.advice ≡ take (length inputs.advice - length t.tape) inputs.advice ++ t.tape
  tape_split t log done =
      front inputs.advice (tape_taken log) t.tape
      (sym (start-tape inputs.stack inputs.advice)
      ∙ (fed-execution (constants_of params) program.kernel limit (tree_of program.tree) (start inputs.stack inputs.advice) t log done).tape)

  -- no more is left of the tape than it had
  pub tape_fits : (p : Progress) → IsProgressOf params program inputs limit p → p.is_done ≡ true → length p.state.tape ≤ length inputs.advice
  tape_fits p h is =
      let split : length inputs.advice ≡ length (take (length inputs.advice - length p.state.tape) inputs.advice) + length p.state.tape
      = ap length (tape_split (state_of p.state) h.log (to-end p h is))
      ∙ length-append (take (length inputs.advice - length p.state.tape) inputs.advice) p.state.tape in
      omega arith

  -- a run to its end
  pub run_of : (p : Progress) (tape digest permutations : List ℕ) → IsProgressOf params program inputs limit p → p.is_done ≡ true
      → tape ≡ take (length inputs.advice - length p.state.tape) inputs.advice
      → digest ≡ tree_digest (constants_of params) (tree_of program.tree) → permutations ≡ constants_of params
      → IsRunOf params program inputs limit
      (record { state = p.state; tape = tape; events = p.events; digest = digest; permutations = permutations })
  run_of p tape digest permutations h is is_tape is_digest is_permutations = record {
    log = h.log;
    done = to-end p h is;
    events = h.events;
    tape = rw is_tape (tape_split (state_of p.state) h.log (to-end p h is));
    digest = is_digest;
    permutations = is_permutations;
  }
