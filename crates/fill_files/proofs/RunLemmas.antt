-- What a run that was executed shows: it is one from the start to the end, so that its requests fit, and its rows and its stack are
-- within bounds.
use Rattle.std.proofs.Common.{◌≡◌, ℕ, ◌^◌, ◌≤◌, List, [], ◌∷◌, length, sym, subst, arith}
use Rattle.std.proofs.lemmas.List.{length-map}
use Rattle.rpo_hash.specs.Constants.{constants_of}
use Rattle.rpo_hash.specs.declared.params.Params.{Params}
use Rattle.vm_field.specs.Limits.{most_cycles, most_inputs, most_outputs, number_of_constants}
use Rattle.vm_field.specs.Machine.{State, IsWellFormed, filled_up, start}
use Rattle.vm_field.proofs.Elements.{length-filled_up}
use Rattle.vm_field.proofs.WellFormed.{start-IsWellFormed}
use Rattle.vm_state.specs.Views.{core_of, state_of}
use Rattle.block_tree.specs.Execution as run
use Rattle.block_tree.specs.Steps.{Block, Steps}
use Rattle.block_tree.specs.Trees.{Tree, tree_digest}
use Rattle.block_tree.specs.TreeView.{tree_of}
use Rattle.block_tree.specs.declared.program.Program.{Program}
use Rattle.block_tree.proofs.AlongLemmas.{log-counts, steps-shallow}
use Rattle.block_tree.proofs.RunSteps.{run-steps}
use Rattle.block_tree.proofs.TaskLemmas.{steps-log}
use Rattle.machine_cycles.specs.Events.{shown, visible_of}
use Rattle.processor.specs.Executed.{WasExecuted}
use Rattle.processor.specs.declared.run.Run.{Run}
use Rattle.air_kit.specs.Requests.{Fits}
use Rattle.air_kit.specs.declared.requests.Requests.{Requests}
use Rattle.complete_rows.specs.BlockRows.{IsWholeRun, events_of, filled}
use Rattle.complete_rows.specs.Filling.{rows_of_run}
use Rattle.complete_rows.specs.Numbers.{HasSmallNumbers}
use Rattle.complete_rows.specs.RunRequests.{requests_of}
use Rattle.complete_rows.proofs.MomentLemmas.{steps_within}
use Rattle.complete_rows.proofs.TableLemmas.{is_linked, rows_counted}
use Rattle.complete_requests.specs.Asked.{requests}
use Rattle.complete_requests.specs.Fitting.{FitsRows}
use Rattle.complete_requests.proofs.FitLaw.{run_fits}
use Rattle.complete_requests.proofs.SmallNumbers.{addresses_fit, bits_fit, depth_fits, depths_fit}
use Rattle.complete_trace.proofs.RangeLemmas.{ranges_are_low}
use Rattle.fill_chips.specs.Beside.{HasSizes, beside}
use Rattle.fill_chips.specs.declared.chips.Chips.{Chips}
use Rattle.fill_files.specs.Inside.{HasFew, IsShort}

module _ (constants : List ℕ) (kernel : List (List ℕ)) (limit : ℕ) (tree : Tree) (inputs tape : List ℕ) (u : State) (log : List run.Event)
    (r : IsWholeRun constants kernel limit tree inputs tape u log) where
  steps : Steps constants kernel limit (Block tree ∷ []) (start inputs tape) log u
  steps = run-steps constants kernel limit tree (start inputs tape) u log r.whole r.done

  log_within : length log ≤ most_cycles
  unfolding start
  log_within = let within = steps_within constants kernel limit steps (omega arith) in let limited = r.within in omega (arith, within, limited)

  pub clock_at_end : u.core.clock ≡ length log
  unfolding start
  clock_at_end = let counts = log-counts constants kernel limit (steps-log constants kernel limit steps) in omega (arith, counts)

  depth_at_end : length u.core.stack ≤ most_outputs
  unfolding start
  depth_at_end =
      let formed : IsWellFormed (start inputs tape) = start-IsWellFormed inputs tape r.inputs_are r.tape_is in
      let full : length (filled_up inputs) ≤ most_inputs = let few = r.few in omega (arith, few, length-filled_up inputs) in
      let shallow = steps-shallow constants kernel limit r.constants_are 0 most_inputs steps (omega (arith, full), (r.whole, tt), formed) in
      let deep = shallow.1 in omega (arith, deep, clock_at_end, log_within)

  rows_within : length (rows_of_run (visible_of u.core) (events_of constants kernel log)) ≤ 2 ^ 19
  rows_within = omega (arith, rows_counted constants kernel u log, log_within)

  small_numbers : HasSmallNumbers (visible_of u.core) (events_of constants kernel log)
  small_numbers =
      let linked = is_linked constants kernel limit tree inputs tape u log r in
      record {
        few = omega (arith, log_within, length-map log (shown constants kernel));
        depths = depths_fit constants kernel limit u linked;
        depth = depth_fits constants kernel limit u linked;
        ranges = ranges_are_low constants kernel limit tree inputs tape u log r;
        bits = bits_fit constants kernel limit u linked;
        accesses = addresses_fit constants kernel limit u linked;
      }

module _ (params : Params) (program : Program) (answer : Run) (size : length (constants_of params) ≡ number_of_constants)
    (was : WasExecuted params program answer) where
  abbrev constants : List ℕ
  constants = constants_of params

  abbrev u : State
  u = state_of answer.state

  is_run : IsWholeRun constants program.kernel was.limit (tree_of program.tree) was.inputs.stack was.inputs.advice u was.ran.log
  is_run = record {
    constants_are = size;
    within = was.below;
    whole = program.whole;
    few = was.inputs.few;
    inputs_are = was.inputs.cells;
    tape_is = was.inputs.elements;
    done = was.ran.done;
  }

  fit : FitsRows constants program.kernel (requests constants program.kernel u was.ran.log) (filled constants program.kernel u was.ran.log)
  fit =
      run_fits constants program.kernel was.limit (tree_of program.tree) was.inputs.stack was.inputs.advice u was.ran.log is_run program.few

  pub fits : Fits constants program.kernel (requests_of constants (visible_of (core_of answer.state)) answer.events)
  fits =
      subst (λ events. Fits constants program.kernel (requests_of constants (visible_of (core_of answer.state)) events)) (sym was.ran.events) fit.fits

  pub numbers : HasSmallNumbers (visible_of (core_of answer.state)) answer.events
  numbers =
      subst (λ events. HasSmallNumbers (visible_of (core_of answer.state)) events) (sym was.ran.events)
      (small_numbers constants program.kernel was.limit (tree_of program.tree) was.inputs.stack was.inputs.advice u was.ran.log is_run)

  pub few_asked : HasFew (requests_of constants (visible_of (core_of answer.state)) answer.events)
  few_asked =
      subst (λ events. HasFew (requests_of constants (visible_of (core_of answer.state)) events)) (sym was.ran.events)
      (let few = fit.few in
      let rows = rows_within constants program.kernel was.limit (tree_of program.tree) was.inputs.stack was.inputs.advice u was.ran.log is_run in
      omega (arith, few, rows))

  pub has_rows : 1 ≤ length (rows_of_run (visible_of (core_of answer.state)) answer.events)
  has_rows =
      subst (λ events. 1 ≤ length (rows_of_run (visible_of (core_of answer.state)) events)) (sym was.ran.events)
      (omega (arith, rows_counted constants program.kernel u was.ran.log))

  pub few_rows : length (rows_of_run (visible_of (core_of answer.state)) answer.events) ≤ 2 ^ 19
  few_rows =
      subst (λ events. length (rows_of_run (visible_of (core_of answer.state)) events) ≤ 2 ^ 19) (sym was.ran.events)
      (rows_within constants program.kernel was.limit (tree_of program.tree) was.inputs.stack was.inputs.advice u was.ran.log is_run)

  pub deep : length answer.state.stack ≤ most_outputs
  deep = depth_at_end constants program.kernel was.limit (tree_of program.tree) was.inputs.stack was.inputs.advice u was.ran.log is_run

  pub digest_is : answer.digest ≡ tree_digest constants (tree_of program.tree)
  digest_is = was.ran.digest

  pub permutations_are : answer.permutations ≡ constants
  permutations_are = was.ran.permutations

-- the tables that answer few requests are short
pub short_tables : (main : List (List ℕ)) (chips : Chips) (r : Requests) → HasFew r → HasSizes r chips → IsShort (beside main chips)
short_tables main chips r few sizes =
    let hasher = sizes.hasher in let bitwise = sizes.bitwise in let memory = sizes.memory in omega (arith, few, hasher, bitwise, memory)
