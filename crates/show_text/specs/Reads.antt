-- What reading evidence answers.
use Rattle.std.specs.Prelude.{ℕ, Option, Some, None}
use Rattle.show_text.specs.declared.evidence.EvidenceError.{EvidenceError}
use Rattle.show_text.specs.declared.evidence.EvidenceError.TheVariants.{Bad, Memory}

-- what a refusal says of the bytes: the line that is wrong, if it tells one
abbrev pub wrong_line : EvidenceError → Option ℕ
wrong_line (Bad line) = Some line
wrong_line Memory = None
