-- What the words behind a command's name ask for.
use Rattle.std.specs.Prelude.{ℕ, List}
use Rattle.show_app.specs.Showing.{Shown, cycles_words, evidence_words, explain_words, reason_words, show_words}
use Rattle.show_app.specs.declared.names.CommandName.{CommandName}
use Rattle.show_app.specs.declared.names.CommandName.TheVariants as name

abbrev pub asked_as : CommandName → List (List ℕ) → Shown
asked_as name.Show words = show_words words
asked_as name.Explain words = explain_words words
asked_as name.Evidence words = evidence_words words
asked_as name.Trace words = cycles_words words
asked_as name.Why words = reason_words words
