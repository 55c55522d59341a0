-- The ends of `hash` (docs/FORMATS.md).
use Rattle.std.specs.Prelude.{ℕ, List, ◌++◌, codes, Result, Ok, Err}
use Rattle.vm_field.specs.WordText.{word_hex}
use Rattle.number_files.specs.Causes.{text_of_cause}
use Rattle.number_files.specs.Hashing.{digest_of_elements}
use Rattle.number_files.specs.declared.numbers.NumbersError.{NumbersError}
use Rattle.cmd_kit.specs.declared.status.Status.TheVariants as status
use Rattle.cmd_kit.specs.Steps.{End, stop}
use Rattle.cmd_kit.specs.Malformed.{malformed_line}

abbrev pub digest_line : List ℕ → List ℕ
digest_line word = codes "digest " ++ word_hex word ++ codes "\n"

-- the constants of the permutation, the name of the file of numbers, and what it holds
abbrev pub hash_end : List ℕ → List ℕ → Result (List ℕ) NumbersError → End
hash_end constants name (Ok elements) = stop status.Ok (digest_line (digest_of_elements constants elements))
hash_end constants name (Err e) = stop status.Malformed (malformed_line name e.line (text_of_cause e.cause))
