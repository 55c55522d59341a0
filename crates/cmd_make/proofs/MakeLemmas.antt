-- From what is made to the end of `make`.
use Rattle.std.proofs.Common.{◌≡◌, ℕ, List, [], None, Some, ap₂, refl, subst, ◌∙◌}
use Rattle.vm_field.specs.Limits.{most_cycles}
use Rattle.rpo_hash.specs.Constants.{constants_of}
use Rattle.rpo_hash.specs.declared.params.Params.{Params}
use Rattle.statement.specs.Inputs.{Given, given_of, inputs_text}
use Rattle.vm_state.specs.Views.{state_of}
use Rattle.vm_state.specs.declared.inputs.Inputs.{Inputs}
use Rattle.workloads.specs.Workloads.{source_text, squares}
use Rattle.vm_io.specs.Shelf.{ShelfState}
use Rattle.cmd_run.specs.Courses.{Came, Stopped}
use Rattle.cmd_run.specs.declared.course.Course as held
use Rattle.cmd_make.specs.Making.{IsMade}
use Rattle.cmd_make.specs.Saves.{SavesBoth}
use Rattle.cmd_make.specs.declared.made.Made.{Made}
use Rattle.cmd_kit.specs.declared.outcome.Outcome.{Outcome}
use Rattle.cmd_kit.specs.declared.outcome.Outcome.TheVariants as outcome
use Rattle.cmd_kit.specs.declared.status.Status.TheVariants as status
use Rattle.cmd_kit.specs.Asked.{MadeNames}
use Rattle.cmd_kit.specs.MakeEnds.{make_lines}
use Rattle.cmd_kit.specs.MakeSteps.{made_course_steps, made_given, made_source, make_steps, making_steps}
use Rattle.cmd_kit.specs.Outcomes.{EndsIn, Loads}
use Rattle.cmd_kit.specs.RunEnds.{ended}
use Rattle.cmd_kit.specs.Starts.{params_steps}
use Rattle.cmd_kit.specs.Steps.{Right, SourceFile, course, ending, exactly, ran, stop, stopped, writing}
use Rattle.cmd_kit.proofs.ServingLemmas.{goes_past_finding, same_again, work_ends}

-- what is run, as it is given: a source of this name and text, on inputs of these lists
module _ (name text : List ℕ) (inputs : Inputs) (turns : ℕ) (text_is : text ≡ source_text turns) (stack_is : inputs.stack ≡ [])
    (advice_is : inputs.advice ≡ squares turns) where
  abbrev source : SourceFile
  source = record { name = name; text = text }

  given_is : given_of inputs ≡ made_given turns
  given_is = ap₂ (λ (s a : List ℕ). record { stack = s; advice = a }) stack_is advice_is

  -- what is said of it is said of what is made
  made_as : (P : SourceFile → Given → Type 0) → P source (given_of inputs) → P (made_source name turns) (made_given turns)
  made_as P h =
      subst (λ (g : Given). P (made_source name turns) g) given_is
      (subst (λ (x : List ℕ). P (record { name = name; text = x }) (given_of inputs)) text_is h)

  pub run_is_made : (params : Params) (had : held.Course) (made : Made) → Came params source None (given_of inputs) most_cycles had
      → made.source ≡ text → made.inputs ≡ inputs_text inputs.stack inputs.advice → made.lines ≡ make_lines (state_of had.run.state)
      → IsMade (constants_of params) turns name made
  run_is_made params had made came source_is inputs_are lines_are =
      let h : Came params (made_source name turns) None (made_given turns) most_cycles had
      = made_as (λ s g. Came params s None g most_cycles had) came in
      record {
        program = had.program;
        last = state_of had.run.state;
        log = h.run.log;
        found = ended had.program h.assembled (state_of had.run.state) h.run.log h.run.is_run;
        source = source_is ∙ text_is;
        inputs = inputs_are ∙ ap₂ inputs_text stack_is advice_is;
        lines = lines_are;
      }

-- behind the parameters
pub goes_on : (params : List ℕ) (turns : ℕ) (names : MadeNames) (constants : List ℕ) (old mid : ShelfState)
    → Loads (params_steps params) constants old mid
    → (o : Outcome) (new : ShelfState) → EndsIn (Some (making_steps names turns constants)) o mid new
    → EndsIn (Some (make_steps params turns names)) o old new
goes_on params turns names constants old mid loads o new ends = loads (making_steps names turns) o new ends

-- a run to the end
pub made_ends : (names : MadeNames) (turns : ℕ) (constants : List ℕ) (made : Made) (o : Outcome) (old new : ShelfState)
    → IsMade constants turns names.source made → SavesBoth made.source made.inputs made.lines names o old new
    → EndsIn (Some (making_steps names turns constants)) o old new
made_ends names turns constants made o old new is saves =
    goes_past_finding (course constants (made_source names.source turns) None (made_given turns) most_cycles) (made_course_steps names turns)
    (ran is.program is.last is.log) old is.found o new
    (subst (λ (text : List ℕ). EndsIn (Some (writing names.source of_source (λ _. writing names.inputs of_inputs (λ _.
    ending (stop status.Ok text))))) o old new) is.lines (saves of_source of_inputs is.source is.inputs))
  where
    of_source : Right
    of_source = exactly (source_text turns)

    of_inputs : Right
    of_inputs = exactly (inputs_text [] (squares turns))

-- none
pub unmade_ends : (names : MadeNames) (turns : ℕ) (constants : List ℕ) (o : Outcome) (s : ShelfState)
    → Stopped constants (made_source names.source turns) None (made_given turns) most_cycles o
    → EndsIn (Some (making_steps names turns constants)) o s s
unmade_ends names turns constants (outcome.Ends a) s h =
    goes_past_finding (course constants (made_source names.source turns) None (made_given turns) most_cycles) (made_course_steps names turns)
    (stopped a) s h.0 (outcome.Ends a) s (work_ends (stop a.status a.line) (outcome.Ends a) s (record { ends = refl; kind = h.1 }))
unmade_ends names turns constants outcome.Memory s h = same_again (making_steps names turns constants) s
