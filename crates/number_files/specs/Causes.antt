-- What is wrong with a line of numbers, as it is printed.
use Rattle.std.specs.Prelude.{ℕ, List, codes}
use Rattle.number_files.specs.declared.numbers.NumbersCause.{NumbersCause}
use Rattle.number_files.specs.declared.numbers.NumbersCause.TheVariants.{Number, Count}

abbrev pub text_of_cause : NumbersCause → List ℕ
text_of_cause Number = codes "Number"
text_of_cause Count = codes "Count"
