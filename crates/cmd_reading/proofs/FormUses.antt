-- The uses that the words of a form are.
use Rattle.std.specs.Prelude.{ℕ, ◌+◌, ◌==◌, List, [], ◌∷◌, ◌++◌, Option, Some, None, find, option_and_then, if◌then◌else◌}
use Rattle.std.specs.Str.{bytes_eq}
use Rattle.clap.specs.Words.{Text}
use Rattle.cmd_reading.specs.Form.{WordForm}
use Rattle.cmd_reading.proofs.OneByOne.{Form, Use, joined, read, with_needs}

-- the name of the i-th place, where the first of these is the k-th
abbrev pub place_from : ℕ → List Text → ℕ → Option Text
place_from k [] i = None
place_from k (id ∷ ids) i = if k == i then Some id else place_from (k + 1) ids i

abbrev pub clap_form : WordForm → Form
clap_form f = record { option = λ x. find (λ n. bytes_eq n x) (f.needed ++ f.free); place = λ i. place_from 1 f.places i }

abbrev pub needs_of : WordForm → List Text
needs_of f = f.places ++ f.needed

-- each option and place with its text, or none where the words have not the form
abbrev pub form_uses : WordForm → List Text → Option (List Use)
form_uses f words = option_and_then (with_needs (needs_of f)) (option_and_then (joined []) (read (clap_form f) None 1 words))
