-- What the words of a form ask for is what their texts do, and nothing where they cannot be meant.
use Rattle.std.proofs.Common.{◌≡◌, ◌∙◌, ℕ, Bool, true, false, refl, ap, List, [], ◌∷◌, length, map, Option, Some, None}
use Rattle.std.specs.Prelude.{IfSome, if◌then◌else◌, nat_lt, option_and_then, option_map, unwrap_or}
use Rattle.std.specs.List.{list_all}
use Rattle.vm_field.specs.Limits.{most_cycles}
use Rattle.air_kit.specs.declared.trace.TableName.{TableName}
use Rattle.cmd_words.specs.Words.{file_name_of, is_form, number_of_word, optional}
use Rattle.cmd_reading.specs.Form.{AllText, IsPlain, dashed, options_of}
use Rattle.cmd_reading.specs.Meaning.{AreThere, IsThere, MayBeMeant, MayStand, HasForm, texts_in}
use Rattle.cmd_reading.proofs.AsciiNames.{ascii_text}
use Rattle.cmd_reading.proofs.PlainParts.{meant-text}
use Rattle.cmd_reading.proofs.PlainTexts.{by_free, by_place, plain_name, plain_number}
use Rattle.show_app.specs.declared.forms.Form.{Form}
use Rattle.show_app.specs.declared.forms.Form.TheVariants as form
use Rattle.show_app.specs.declared.names.CommandName.{CommandName}
use Rattle.show_app.specs.declared.names.CommandName.TheVariants as name
use Rattle.show_app.specs.Forms.{asked_by, asked_in, form_named}
use Rattle.show_app.specs.Named.{asked_as}
use Rattle.show_app.specs.Showing.{Shown, nothing, all_rows_of, cycles_of, evidence_of, explain_of, last_row, one_row_of, or_else, reason_of, rows_of, run_of}
use Rattle.show_app.specs.Tables.{table_named}

abbrev Text : Type 0
Text = List ℕ

-- the texts of a form, of which one at least is none that may stand there
abbrev Unmeant : List (Option Text) → List (Option Text) → Type 0
Unmeant places free = AreThere places → MayStand free → ⊥

-- what a text is as a name, as the name of a table, and as the number of a row
abbrev place : Option Text → Option Text
place text = option_and_then file_name_of text

abbrev row : Option Text → Option ℕ
row text = option_and_then (number_of_word 0 last_row) text

abbrev at_place : (text : Option Text) (ask : Option Text → Shown) → ask None ≡ nothing → ((a : Text) → IsThere text → ask (Some a) ≡ nothing)
    → ask (place text) ≡ nothing
at_place = by_place file_name_of plain_name nothing

abbrev option : Option Text → Option (Option Text)
option text = optional file_name_of text

abbrev at_free : (text : Option Text) (ask : Option (Option Text) → Shown) → ask None ≡ nothing
    → ((a : Option Text) → IfSome text IsPlain → ask (Some a) ≡ nothing) → ask (option text) ≡ nothing
at_free = by_free file_name_of plain_name nothing

abbrev at_row : (text : Option Text) (ask : Option ℕ → Shown) → ask None ≡ nothing → ((a : ℕ) → IsThere text → ask (Some a) ≡ nothing)
    → ask (row text) ≡ nothing
at_row = by_place (number_of_word 0 last_row) (plain_number 0 last_row) nothing

-- ---- each form: by which texts it asks

no_run : (t : Option Text) → Unmeant (t ∷ []) [] → run_of (place t) ≡ nothing
no_run t h = at_place t run_of refl (λ a t_there. absurd (h (t_there, tt) tt))

no_all_rows : (t n : Option Text) → Unmeant (t ∷ n ∷ []) [] → all_rows_of (place t) (option_and_then table_named (place n)) ≡ nothing
no_all_rows t n h =
    at_place t (λ x. all_rows_of x (option_and_then table_named (place n))) refl (λ a t_there.
    at_place n (λ x. all_rows_of (Some a) (option_and_then table_named x)) refl (λ b n_there. absurd (h (t_there, (n_there, tt)) tt)))

no_one_row : (t n r : Option Text) → Unmeant (t ∷ n ∷ r ∷ []) [] → one_row_of (place t) (option_and_then table_named (place n)) (row r) ≡ nothing
no_one_row t n r h =
    at_place t (λ x. one_row_of x (option_and_then table_named (place n)) (row r)) refl (λ a t_there.
    at_place n (λ x. one_row_of (Some a) (option_and_then table_named x) (row r)) refl (λ b n_there.
    at_row r (λ x. one_row_of (Some a) (option_and_then table_named (Some b)) x) (by_table a (table_named b)) (λ c r_there.
    absurd (h (t_there, (n_there, (r_there, tt))) tt))))
  where
    by_table : (a : Text) (name : Option TableName) → one_row_of (Some a) name None ≡ nothing
    by_table a None = refl
    by_table a (Some name) = refl

no_rows : (t n f l : Option Text) → Unmeant (t ∷ n ∷ f ∷ l ∷ []) [] → rows_of (place t) (option_and_then table_named (place n)) (row f) (row l) ≡ nothing
no_rows t n f l h =
    at_place t (λ x. rows_of x (option_and_then table_named (place n)) (row f) (row l)) refl (λ a t_there.
    at_place n (λ x. rows_of (Some a) (option_and_then table_named x) (row f) (row l)) refl (λ b n_there.
    at_row f (λ x. rows_of (Some a) (option_and_then table_named (Some b)) x (row l)) (by_table a (table_named b) (row l)) (λ c f_there.
    at_row l (λ x. rows_of (Some a) (option_and_then table_named (Some b)) (Some c) x) (by_name a (table_named b) c) (λ d l_there.
    absurd (h (t_there, (n_there, (f_there, (l_there, tt)))) tt)))))
  where
    by_table : (a : Text) (name : Option TableName) (last : Option ℕ) → rows_of (Some a) name None last ≡ nothing
    by_table a None last = refl
    by_table a (Some name) last = refl

    by_name : (a : Text) (name : Option TableName) (c : ℕ) → rows_of (Some a) name (Some c) None ≡ nothing
    by_name a None c = refl
    by_name a (Some name) c = refl

no_explain : (p t s : Option Text) → Unmeant (p ∷ t ∷ s ∷ []) [] → explain_of (place p) (place t) (place s) ≡ nothing
no_explain p t s h =
    at_place p (λ x. explain_of x (place t) (place s)) refl (λ a p_there.
    at_place t (λ x. explain_of (Some a) x (place s)) refl (λ b t_there.
    at_place s (λ x. explain_of (Some a) (Some b) x) refl (λ c s_there.
    absurd (h (p_there, (t_there, (s_there, tt))) tt))))

no_evidence : (e : Option Text) → Unmeant (e ∷ []) [] → evidence_of (place e) ≡ nothing
no_evidence e h = at_place e evidence_of refl (λ a e_there. absurd (h (e_there, tt) tt))

abbrev limit : Option (Option ℕ) → Option ℕ
limit number = option_map (λ n. unwrap_or n most_cycles) number

no_cycles : (p s i k l : Option Text) → Unmeant (p ∷ s ∷ i ∷ []) (k ∷ l ∷ [])
    → cycles_of (place p) (place s) (place i) (option k) (limit (optional (number_of_word 1 most_cycles) l)) ≡ nothing
no_cycles p s i k l h =
    at_place p (λ x. cycles_of x (place s) (place i) (option k) (limit (optional (number_of_word 1 most_cycles) l))) refl (λ a p_there.
    at_place s (λ x. cycles_of (Some a) x (place i) (option k) (limit (optional (number_of_word 1 most_cycles) l))) refl (λ b s_there.
    at_place i (λ x. cycles_of (Some a) (Some b) x (option k) (limit (optional (number_of_word 1 most_cycles) l))) refl (λ c i_there.
    at_free k (λ x. cycles_of (Some a) (Some b) (Some c) x (limit (optional (number_of_word 1 most_cycles) l))) refl (λ d k_may.
    by_free (number_of_word 1 most_cycles) (plain_number 1 most_cycles) nothing l
    (λ x. cycles_of (Some a) (Some b) (Some c) (Some d) (limit x)) refl (λ e l_may.
    absurd (h (p_there, (s_there, (i_there, tt))) (k_may, (l_may, tt))))))))

no_reason : (s k : Option Text) → Unmeant (s ∷ []) (k ∷ []) → reason_of (place s) (option k) ≡ nothing
no_reason s k h =
    at_place s (λ x. reason_of x (option k)) refl (λ a s_there.
    at_free k (λ x. reason_of (Some a) x) refl (λ b k_may.
    absurd (h (s_there, tt) (k_may, tt))))

no_texts : (f : Form) (words : List Text) → Unmeant (texts_in (form_named f) words).places (texts_in (form_named f) words).free
    → asked_in f (texts_in (form_named f) words) ≡ nothing
no_texts form.Run words h = no_run _ h
no_texts form.AllRows words h = no_all_rows _ _ h
no_texts form.OneRow words h = no_one_row _ _ _ h
no_texts form.Rows words h = no_rows _ _ _ _ h
no_texts form.Explain words h = no_explain _ _ _ h
no_texts form.Evidence words h = no_evidence _ h
no_texts form.Trace words h = no_cycles _ _ _ _ _ h
no_texts form.Why words h = no_reason _ _ h

-- ---- each form: its words have it, and its names are apart

asks_by_form : (f : Form) (words : List Text)
    → asked_by f words
    ≡ (if is_form (length (form_named f).places) (map dashed (options_of (form_named f))) words then asked_in f (texts_in (form_named f) words) else nothing)
asks_by_form form.Run words = refl
asks_by_form form.AllRows words = refl
asks_by_form form.OneRow words = refl
asks_by_form form.Rows words = refl
asks_by_form form.Explain words = refl
asks_by_form form.Evidence words = refl
asks_by_form form.Trace words = refl
asks_by_form form.Why words = refl

ascii_names : (f : Form) → list_all (list_all (λ b. nat_lt b 128)) (options_of (form_named f)) ≡ true
ascii_names form.Run = refl
ascii_names form.AllRows = refl
ascii_names form.OneRow = refl
ascii_names form.Rows = refl
ascii_names form.Explain = refl
ascii_names form.Evidence = refl
ascii_names form.Trace = refl
ascii_names form.Why = refl

-- ---- all forms

-- the words of the form ask for what their texts do
pub asked_by_texts : (f : Form) (words : List Text) → HasForm (form_named f) words → asked_by f words ≡ asked_in f (texts_in (form_named f) words)
asked_by_texts f words e = asks_by_form f words ∙ ap (λ b. if b then asked_in f (texts_in (form_named f) words) else nothing) e

meant : (f : Form) (words : List Text) → HasForm (form_named f) words → AreThere (texts_in (form_named f) words).places
    → MayStand (texts_in (form_named f) words).free → MayBeMeant (form_named f) words
meant form.Run words form places free = record { form = form; places = places; needed = tt; free = free }
meant form.AllRows words form places free = record { form = form; places = places; needed = tt; free = free }
meant form.OneRow words form places free = record { form = form; places = places; needed = tt; free = free }
meant form.Rows words form places free = record { form = form; places = places; needed = tt; free = free }
meant form.Explain words form places free = record { form = form; places = places; needed = tt; free = free }
meant form.Evidence words form places free = record { form = form; places = places; needed = tt; free = free }
meant form.Trace words form places free = record { form = form; places = places; needed = tt; free = free }
meant form.Why words form places free = record { form = form; places = places; needed = tt; free = free }

-- words that cannot be meant ask for nothing
pub unmeant_is_nothing : (f : Form) (words : List Text) → (MayBeMeant (form_named f) words → ⊥) → asked_by f words ≡ nothing
unmeant_is_nothing f words h =
    asks_by_form f words ∙ go (is_form (length (form_named f).places) (map dashed (options_of (form_named f))) words) refl
  where
    go : (b : Bool) → is_form (length (form_named f).places) (map dashed (options_of (form_named f))) words ≡ b
        → (if b then asked_in f (texts_in (form_named f) words) else nothing) ≡ nothing
    go true e = no_texts f words (λ places free. h (meant f words e places free))
    go false e = refl

neither : (a b : Shown) → a ≡ nothing → b ≡ nothing → or_else a b ≡ nothing
neither a b none also = ap (λ x. or_else x b) none ∙ also

untext_forms : (f : Form) (words : List Text) → (AllText words → ⊥) → asked_by f words ≡ nothing
untext_forms f words h = unmeant_is_nothing f words (λ m. h (meant-text (form_named f) words (ascii_text (options_of (form_named f)) (ascii_names f)) m))

-- words that are not all text ask for nothing
pub untexts_are_nothing : (n : CommandName) (words : List Text) → (AllText words → ⊥) → asked_as n words ≡ nothing
untexts_are_nothing name.Show words h =
    neither (asked_by form.Run words) _ (untext_forms form.Run words h)
    (neither (asked_by form.AllRows words) _ (untext_forms form.AllRows words h)
    (neither (asked_by form.OneRow words) _ (untext_forms form.OneRow words h) (untext_forms form.Rows words h)))
untexts_are_nothing name.Explain words h = untext_forms form.Explain words h
untexts_are_nothing name.Evidence words h = untext_forms form.Evidence words h
untexts_are_nothing name.Trace words h = untext_forms form.Trace words h
untexts_are_nothing name.Why words h = untext_forms form.Why words h
