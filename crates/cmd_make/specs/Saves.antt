-- What the function that writes the two files answers.
use Rattle.std.specs.Prelude.{ℕ, List, Some}
use Rattle.vm_io.specs.Shelf.{ShelfState}
use Rattle.cmd_kit.specs.declared.outcome.Outcome.{Outcome}
use Rattle.cmd_kit.specs.declared.status.Status.TheVariants as status
use Rattle.cmd_kit.specs.Asked.{MadeNames}
use Rattle.cmd_kit.specs.Commands.{IsRight}
use Rattle.cmd_kit.specs.Outcomes.{EndsIn}
use Rattle.cmd_kit.specs.Steps.{Right, stop, writing, ending}

-- two files and the lines, whatever is right for the files
abbrev pub SavesBoth : List ℕ → List ℕ → List ℕ → MadeNames → Outcome → ShelfState → ShelfState → Type 0
SavesBoth source inputs lines names o old new =
    (of_source of_inputs : Right) → IsRight of_source source → IsRight of_inputs inputs
    → EndsIn (Some (writing names.source of_source (λ _. writing names.inputs of_inputs (λ _. ending (stop status.Ok lines))))) o old new
