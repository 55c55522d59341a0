-- Answers whose line took memory.
use Rattle.cmd_kit.proofs.Words.{◌≡◌, ℕ, List, Result, Ok, Err, subst, sym, Status}
use Rattle.std.specs.Result.{IfOk}
use Rattle.vm_field.specs.declared.refusal.Memory.{Memory}
use Rattle.cmd_kit.specs.declared.outcome.Outcome.{Outcome}
use Rattle.cmd_kit.specs.Outcomes.{SaysStatus, SaysLine}

-- the answer has the line that was made
pub says_line : (o : Outcome) (s : Status) (made : Result (List ℕ) Memory) (line : List ℕ) → SaysLine o s made
    → IfOk made (λ l. l ≡ line) → SaysStatus o s line
says_line o s (Ok l) line says is = subst (SaysStatus o s) is says
says_line o s (Err e) line says is = subst (λ x. SaysStatus x s line) (sym says) tt
