-- The steps of `make`.
use Rattle.std.specs.Prelude.{ℕ, List, [], None}
use Rattle.vm_field.specs.Limits.{most_cycles}
use Rattle.vm_field.specs.Machine.{State}
use Rattle.statement.specs.Inputs.{Given, inputs_text}
use Rattle.workloads.specs.Workloads.{source_text, squares}
use Rattle.cmd_kit.specs.declared.status.Status.TheVariants as status
use Rattle.cmd_kit.specs.Asked.{MadeNames}
use Rattle.cmd_kit.specs.MakeEnds.{make_lines}
use Rattle.cmd_kit.specs.Starts.{params_steps}
use Rattle.cmd_kit.specs.Steps.{SourceFile, stop, exactly, course, Course, ran, stopped, Steps, writing, asking, ending}

-- what is run: the source that is made for so many turns, which has the name of the file that it is written to,
abbrev pub made_source : List ℕ → ℕ → SourceFile
made_source name turns = record { name = name; text = source_text turns }

-- on the inputs that are made for them
abbrev pub made_given : ℕ → Given
made_given turns = record { stack = []; advice = squares turns }

-- The source is written, and then the inputs, and the run is told. Its trace is accepted, as that of every run is.
abbrev pub made_steps : MadeNames → ℕ → State → Steps
made_steps names turns last =
    writing names.source (exactly (source_text turns)) (λ _.
    writing names.inputs (exactly (inputs_text [] (squares turns))) (λ _.
    ending (stop status.Ok (make_lines last))))

abbrev pub made_course_steps : MadeNames → ℕ → Course → Steps
made_course_steps names turns (ran program last log) = made_steps names turns last
made_course_steps names turns (stopped a) = ending (stop a.status a.line)

abbrev pub making_steps : MadeNames → ℕ → List ℕ → Steps
making_steps names turns constants =
    asking (course constants (made_source names.source turns) None (made_given turns) most_cycles) (made_course_steps names turns)

abbrev pub make_steps : List ℕ → ℕ → MadeNames → Steps
make_steps params turns names = params_steps params (making_steps names turns)
