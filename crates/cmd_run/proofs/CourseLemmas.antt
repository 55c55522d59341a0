-- From a program that runs or halts, and a source that is refused, to the course of a source.
use Rattle.std.proofs.Common.{◌≡◌, ℕ, Bool, List, Option, Result, Ok, Err, IfErr, refl, subst, sym}
use Rattle.cmd_run.proofs.Words.{Program, Given, Outcome, Halts, Stopped, SaysStatus, IsCourse, IsHalt, halted, trapped, unended}
use Rattle.cmd_run.specs.declared.course.Course as held
use Rattle.cmd_kit.specs.declared.outcome.Outcome.TheVariants as outcome
use Rattle.cmd_kit.specs.declared.status.Status.TheVariants as status
use Rattle.masm_link.specs.declared.refusal.AsmCause.{AsmCause}
use Rattle.masm_link.specs.declared.refusal.AsmError.TheVariants.{Bad}
use Rattle.cmd_kit.specs.declared.status.Status.{Status}
use Rattle.cmd_kit.specs.declared.answer.Answer.{Answer}
use Rattle.cmd_kit.specs.SourceEnds.{AssemblesFiles, name_of_place, source_line}
use Rattle.cmd_kit.specs.Statuses.{kind_of, planned}
use Rattle.cmd_kit.specs.RunEnds as ends
use Rattle.cmd_kit.specs.Steps.{SourceFile, stopped, ends_with}

planned_halt : (constants : List ℕ) (program : Program) (given : Given) (limit : ℕ) (a : Answer) → IsHalt constants program given limit a
    → kind_of a.status ≡ planned
planned_halt constants program given limit a (trapped clock cause is) = refl
planned_halt constants program given limit a (unended is) = refl

-- the answer to a program that halts is one to its source
pub halts_stop : (constants : List ℕ) (source : SourceFile) (kernel : Option SourceFile) (given : Given) (limit : ℕ) (program : Program) (o : Outcome)
    → AssemblesFiles constants source kernel (Ok program) → Halts constants program given limit o → Stopped constants source kernel given limit o
halts_stop constants source kernel given limit program (outcome.Ends a) is h = (halted program is a h, planned_halt constants program given limit a h)
halts_stop constants source kernel given limit program outcome.Memory is h = tt

-- a source that is refused
pub refused_stop : (constants : List ℕ) (source : SourceFile) (kernel : Option SourceFile) (given : Given) (limit : ℕ)
    (in_kernel : Bool) (line column : ℕ) (cause : AsmCause) (o : Outcome)
    → AssemblesFiles constants source kernel (Err (Bad in_kernel line column cause))
    → SaysStatus o status.Source (source_line (name_of_place in_kernel source kernel) line column cause) → Stopped constants source kernel given limit o
refused_stop constants source kernel given limit in_kernel line column cause (outcome.Ends a) is says =
    subst (λ (b : Answer). IsCourse constants source kernel given limit (stopped b) × (kind_of b.status ≡ planned)) (sym says)
    (ends.refused in_kernel line column cause is, refl)
refused_stop constants source kernel given limit in_kernel line column cause outcome.Memory is says = tt

-- what is said of a program that halts
pub halt_says : (constants : List ℕ) (program : Program) (given : Given) (limit : ℕ) (s : Status) (line : List ℕ) (o : Outcome)
    → IsHalt constants program given limit (ends_with s line) → SaysStatus o s line → Halts constants program given limit o
halt_says constants program given limit s line (outcome.Ends a) is says = subst (IsHalt constants program given limit) (sym says) is
halt_says constants program given limit s line outcome.Memory is says = tt

-- so is it of the course, whatever the program came to
pub stops_as : (constants : List ℕ) (source : SourceFile) (kernel : Option SourceFile) (given : Given) (limit : ℕ) (program : Program)
    (r : Result held.Course Outcome) → AssemblesFiles constants source kernel (Ok program) → IfErr r (Halts constants program given limit)
    → IfErr r (Stopped constants source kernel given limit)
stops_as constants source kernel given limit program (Ok made) is h = tt
stops_as constants source kernel given limit program (Err o) is h = halts_stop constants source kernel given limit program o is h
