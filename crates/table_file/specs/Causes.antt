-- The names of the causes for which bytes are no table file.
use Rattle.std.specs.Prelude.{ℕ, List, codes}
use Rattle.table_file.specs.declared.cause.FileCause.{FileCause}
use Rattle.table_file.specs.declared.cause.FileCause.TheVariants.{Ended, Magic, Version, Count, Element, Extra}

-- a cause, as it is printed
abbrev pub text_of_cause : FileCause → List ℕ
text_of_cause Ended = codes "Ended"
text_of_cause Magic = codes "Magic"
text_of_cause Version = codes "Version"
text_of_cause Count = codes "Count"
text_of_cause Element = codes "Element"
text_of_cause Extra = codes "Extra"
