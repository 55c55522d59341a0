-- The forms of the words behind the first one, and what the texts in them ask for.
use Rattle.std.specs.Prelude.{ℕ, List, [], ◌∷◌, codes, Option, option_and_then}
use Rattle.vm_field.specs.Limits.{most_cycles}
use Rattle.air_kit.specs.declared.trace.TableName.{TableName}
use Rattle.cmd_reading.specs.Form.{WordForm}
use Rattle.cmd_reading.specs.Meaning.{FormTexts}
use Rattle.cmd_reading.specs.Values.{name_in, number_in, option_name, option_number_or_most}
use Rattle.show_app.specs.Showing.{Shown, all_rows_of, all_rows_words, cycles_of, cycles_words, evidence_of, evidence_words, explain_of, explain_words}
use Rattle.show_app.specs.Showing.{last_row, one_row_of, one_row_words, reason_of, reason_words, rows_of, rows_words, run_of, run_words}
use Rattle.show_app.specs.Tables.{table_named}
use Rattle.show_app.specs.declared.forms.Form.{Form}
use Rattle.show_app.specs.declared.forms.Form.TheVariants as form

-- what the words ask for, read so
abbrev pub asked_by : Form → List (List ℕ) → Shown
asked_by form.Run words = run_words words
asked_by form.AllRows words = all_rows_words words
asked_by form.OneRow words = one_row_words words
asked_by form.Rows words = rows_words words
asked_by form.Explain words = explain_words words
asked_by form.Evidence words = evidence_words words
asked_by form.Trace words = cycles_words words
asked_by form.Why words = reason_words words

-- the names of what stands in the words
abbrev pub form_named : Form → WordForm
form_named form.Run = record { places = codes "table" ∷ []; needed = []; free = [] }
form_named form.AllRows = record { places = codes "table" ∷ codes "name" ∷ []; needed = []; free = [] }
form_named form.OneRow = record { places = codes "table" ∷ codes "name" ∷ codes "row" ∷ []; needed = []; free = [] }
form_named form.Rows = record { places = codes "table" ∷ codes "name" ∷ codes "first" ∷ codes "last" ∷ []; needed = []; free = [] }
form_named form.Explain = record { places = codes "params" ∷ codes "table" ∷ codes "statement" ∷ []; needed = []; free = [] }
form_named form.Evidence = record { places = codes "evidence" ∷ []; needed = []; free = [] }
form_named form.Trace = record {
  places = codes "params" ∷ codes "source" ∷ codes "inputs" ∷ [];
  needed = [];
  free = codes "kernel" ∷ codes "limit" ∷ [];
}
form_named form.Why = record { places = codes "source" ∷ []; needed = []; free = codes "kernel" ∷ [] }

-- the table at a place
abbrev pub table_in : ℕ → List (Option (List ℕ)) → Option TableName
table_in i texts = option_and_then table_named (name_in i texts)

-- the number of a row at a place
abbrev pub row_in : ℕ → List (Option (List ℕ)) → Option ℕ
row_in i texts = number_in 0 last_row i texts

-- what the texts ask for
abbrev pub asked_in : Form → FormTexts → Shown
asked_in form.Run t = run_of (name_in 0 t.places)
asked_in form.AllRows t = all_rows_of (name_in 0 t.places) (table_in 1 t.places)
asked_in form.OneRow t = one_row_of (name_in 0 t.places) (table_in 1 t.places) (row_in 2 t.places)
asked_in form.Rows t = rows_of (name_in 0 t.places) (table_in 1 t.places) (row_in 2 t.places) (row_in 3 t.places)
asked_in form.Explain t = explain_of (name_in 0 t.places) (name_in 1 t.places) (name_in 2 t.places)
asked_in form.Evidence t = evidence_of (name_in 0 t.places)
asked_in form.Trace t =
    cycles_of (name_in 0 t.places) (name_in 1 t.places) (name_in 2 t.places) (option_name 0 t.free) (option_number_or_most 1 most_cycles 1 t.free)
asked_in form.Why t = reason_of (name_in 0 t.places) (option_name 0 t.free)
