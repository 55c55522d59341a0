-- What reading numbers answers.
use Rattle.std.specs.Prelude.{ℕ, List, Option, Some, None, Result}
use Rattle.std.specs.declared.vec.Vec.{Vec}
use Rattle.std.specs.declared.alloc.Global.{Global}
use Rattle.answers.specs.Gives.{Gives}
use Rattle.number_files.specs.declared.numbers.NumbersError.{NumbersError}
use Rattle.number_files.specs.declared.numbers.NumbersStop.{NumbersStop}
use Rattle.number_files.specs.declared.numbers.NumbersStop.TheVariants.{Malformed, Memory}

-- what a stop says of the bytes: their wrong line, if it tells one
abbrev pub wrong_line : NumbersStop → Option NumbersError
wrong_line (Malformed e) = Some e
wrong_line Memory = None

-- an answer is the elements or the wrong line of the definition
abbrev pub GivesNumbers : Result (Vec ℕ Global) NumbersStop → Result (List ℕ) NumbersError → Type 0
GivesNumbers answer defined = Gives (λ elements. elements.items) wrong_line answer defined
