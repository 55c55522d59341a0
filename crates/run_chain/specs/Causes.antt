-- What is wrong with a line of a list, as it is printed.
use Rattle.std.specs.Prelude.{ℕ, List, codes}
use Rattle.run_chain.specs.declared.refusal.LinkCause.{LinkCause}
use Rattle.run_chain.specs.declared.refusal.LinkCause.TheVariants.{Count, Line, Output}

abbrev pub text_of_cause : LinkCause → List ℕ
text_of_cause Count = codes "Count"
text_of_cause Line = codes "Line"
text_of_cause Output = codes "Output"
