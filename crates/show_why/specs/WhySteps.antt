-- The steps of `why` (docs/SHOW.md): a source and its kernel are read, and the refusal is told.
use Rattle.std.specs.Prelude.{ℕ, Bool, true, List, ◌++◌, codes, Option, Some, None, is_some}
use Rattle.cmd_kit.specs.SourceEnds.{name_of_place, source_line}
use Rattle.cmd_kit.specs.Starts.{kernel_steps, source_steps}
use Rattle.cmd_kit.specs.Steps.{SourceFile, SourceRefusal, Steps, asking, ending, refusal, stop}
use Rattle.cmd_kit.specs.declared.status.Status.TheVariants as status
use Rattle.show_why.specs.Facts.{fact_line}
use Rattle.show_why.specs.Lines.{shown_line}
use Rattle.show_why.specs.Sights.{sight_at}

-- the bytes of the file in which a place lies
abbrev pub text_of_place : Bool → SourceFile → Option SourceFile → List ℕ
text_of_place true source (Some kernel) = kernel.text
text_of_place in_kernel source kernel = source.text

-- the line of `assemble`, the line of the source with a mark, and the facts of the cause
abbrev pub refused_text : List ℕ → List ℕ → Bool → SourceRefusal → List ℕ
refused_text name text given r =
    source_line name r.line r.column r.cause ++ shown_line text r.line r.column
    ++ fact_line r.in_kernel given text r.line r.column (sight_at r.in_kernel text r.line r.column) r.cause

abbrev pub told : SourceFile → Option SourceFile → Option SourceRefusal → Steps
told source kernel None = ending (stop status.Ok (codes "assembled\n"))
told source kernel (Some r) =
    ending (stop status.Source
    (refused_text (name_of_place r.in_kernel source kernel) (text_of_place r.in_kernel source kernel) (is_some kernel) r))

abbrev pub why_steps : List ℕ → Option (List ℕ) → Steps
why_steps source kernel = source_steps source (λ text. kernel_steps kernel (λ k. asking (refusal text k) (told text k)))
