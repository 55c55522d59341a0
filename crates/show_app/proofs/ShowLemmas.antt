-- How the work of words ends before a command is read.
use Rattle.std.proofs.Common.{◌≡◌, codes, Option, Some, None, refl, sym, subst}
use Rattle.vm_io.specs.Shelf.{ShelfState}
use Rattle.cmd_kit.specs.declared.status.Status.TheVariants as status
use Rattle.cmd_kit.specs.declared.outcome.Outcome.{Outcome}
use Rattle.cmd_kit.specs.declared.outcome.Outcome.TheVariants as outcome
use Rattle.cmd_kit.specs.Steps.{Steps}
use Rattle.cmd_kit.specs.Outcomes.{EndsIn, SaysStatus}
use Rattle.cmd_kit.proofs.ServingLemmas.{same_again, usage_ends}
use Rattle.show_app.specs.Showing.{Shown, nothing}
use Rattle.show_app.specs.ShowSteps.{steps_of}

-- memory was refused before a file was read
pub gives_up_first : (steps : Option Steps) (s : ShelfState) → EndsIn steps outcome.Memory s s
gives_up_first None s = refl
gives_up_first (Some next) s = same_again next s

-- words that ask for nothing
pub nothing_ends : (a : Shown) (o : Outcome) (s : ShelfState) → a ≡ nothing → SaysStatus o status.Usage (codes "usage\n") → EndsIn (steps_of a) o s s
nothing_ends a o s e says = subst (λ x. EndsIn (steps_of x) o s s) (sym e) (usage_ends o s says)
