-- What the words of a command ask for is what their texts do, and nothing where they cannot be meant.
use Rattle.std.proofs.Common.{◌≡◌, ◌∙◌, ℕ, Bool, true, false, refl, ap, List, [], ◌∷◌, length, map, Option, Some, None}
use Rattle.std.specs.Prelude.{IfSome, if◌then◌else◌, nat_lt, option_and_then, option_map, unwrap_or}
use Rattle.std.specs.List.{list_all}
use Rattle.vm_field.specs.Limits.{most_cycles}
use Rattle.workloads.specs.Workloads.{most_turns}
use Rattle.cmd_words.specs.Words.{file_name_of, is_form, number_of_word, optional}
use Rattle.cmd_reading.specs.Form.{AllText, IsPlain, dashed, options_of}
use Rattle.cmd_reading.specs.Meaning.{AreThere, IsThere, MayBeMeant, MayStand, HasForm, texts_in}
use Rattle.cmd_reading.proofs.AsciiNames.{ascii_text}
use Rattle.cmd_reading.proofs.PlainParts.{meant-text}
use Rattle.cmd_reading.proofs.PlainTexts.{by_free, by_needed, by_place, plain_name, plain_number}
use Rattle.cmd_kit.specs.Asked.{Asked, assemble_of_names, chain_of_names, check_of_names, hash_of_names, made_names, make_of_names, member_of_names, most_depth, most_pieces, nothing, outputs_named, run_of_names, runs_of_names}
use Rattle.miden_app.specs.declared.names.CommandName.{CommandName}
use Rattle.miden_app.specs.declared.names.CommandName.TheVariants as name
use Rattle.miden_app.specs.Forms.{asked_by, asked_in, form_named}

abbrev Text : Type 0
Text = List ℕ

-- the texts of a form, of which one at least is none that may stand there
abbrev Unmeant : List (Option Text) → List (Option Text) → List (Option Text) → Type 0
Unmeant places needed free = AreThere places → AreThere needed → MayStand free → ⊥

-- what a text is as a name, and as a name or none of an option
abbrev place : Option Text → Option Text
place text = option_and_then file_name_of text

abbrev option : Option Text → Option (Option Text)
option text = optional file_name_of text

abbrev at_place : (text : Option Text) (ask : Option Text → Asked) → ask None ≡ nothing → ((a : Text) → IsThere text → ask (Some a) ≡ nothing)
    → ask (place text) ≡ nothing
at_place = by_place file_name_of plain_name nothing

abbrev at_needed : (text : Option Text) (ask : Option (Option Text) → Asked) → ask None ≡ nothing → ask (Some None) ≡ nothing
    → ((a : Text) → IsThere text → ask (Some (Some a)) ≡ nothing) → ask (option text) ≡ nothing
at_needed = by_needed file_name_of plain_name nothing

abbrev at_free : (text : Option Text) (ask : Option (Option Text) → Asked) → ask None ≡ nothing
    → ((a : Option Text) → IfSome text IsPlain → ask (Some a) ≡ nothing) → ask (option text) ≡ nothing
at_free = by_free file_name_of plain_name nothing

-- ---- each command: by which texts it asks

abbrev pieces : Option Text → Option (Option ℕ)
pieces text = optional (number_of_word 1 most_pieces) text

no_check : (p t s e n m k : Option Text) → Unmeant (p ∷ t ∷ s ∷ []) (e ∷ []) (n ∷ m ∷ k ∷ [])
    → check_of_names (place p) (place t) (place s) (option e) (pieces n) (option m) (option k) ≡ nothing
no_check p t s e n m k h =
    at_place p (λ x. check_of_names x (place t) (place s) (option e) (pieces n) (option m) (option k)) refl (λ a p_there.
    at_place t (λ x. check_of_names (Some a) x (place s) (option e) (pieces n) (option m) (option k)) refl (λ b t_there.
    at_place s (λ x. check_of_names (Some a) (Some b) x (option e) (pieces n) (option m) (option k)) refl (λ c s_there.
    at_needed e (λ x. check_of_names (Some a) (Some b) (Some c) x (pieces n) (option m) (option k)) refl refl (λ d e_there.
    by_free (number_of_word 1 most_pieces) (plain_number 1 most_pieces) nothing n
    (λ x. check_of_names (Some a) (Some b) (Some c) (Some (Some d)) x (option m) (option k)) refl (λ f n_may.
    at_free m (λ x. check_of_names (Some a) (Some b) (Some c) (Some (Some d)) (Some f) x (option k)) refl (λ g m_may.
    at_free k (λ x. check_of_names (Some a) (Some b) (Some c) (Some (Some d)) (Some f) (Some g) x) refl (λ i k_may.
    absurd (h (p_there, (t_there, (s_there, tt))) (e_there, tt) (n_may, (m_may, (k_may, tt)))))))))))

no_hash : (p n : Option Text) → Unmeant (p ∷ n ∷ []) [] [] → hash_of_names (place p) (place n) ≡ nothing
no_hash p n h =
    at_place p (λ x. hash_of_names x (place n)) refl (λ a p_there.
    at_place n (λ x. hash_of_names (Some a) x) refl (λ b n_there.
    absurd (h (p_there, (n_there, tt)) tt tt)))

no_assemble : (p s k : Option Text) → Unmeant (p ∷ s ∷ []) [] (k ∷ []) → assemble_of_names (place p) (place s) (option k) ≡ nothing
no_assemble p s k h =
    at_place p (λ x. assemble_of_names x (place s) (option k)) refl (λ a p_there.
    at_place s (λ x. assemble_of_names (Some a) x (option k)) refl (λ b s_there.
    at_free k (λ x. assemble_of_names (Some a) (Some b) x) refl (λ c k_may.
    absurd (h (p_there, (s_there, tt)) tt (k_may, tt)))))

abbrev limit : Option (Option ℕ) → Option ℕ
limit number = option_map (λ n. unwrap_or n most_cycles) number

abbrev number : Option Text → Option (Option ℕ)
number text = optional (number_of_word 1 most_cycles) text

no_run : (p s i t u k l : Option Text) → Unmeant (p ∷ s ∷ i ∷ []) (t ∷ u ∷ []) (k ∷ l ∷ [])
    → run_of_names (place p) (place s) (place i) (outputs_named (option t) (option u)) (option k) (limit (number l)) ≡ nothing
no_run p s i t u k l h =
    at_place p (λ x. run_of_names x (place s) (place i) (outputs_named (option t) (option u)) (option k) (limit (number l))) refl (λ a p_there.
    at_place s (λ x. run_of_names (Some a) x (place i) (outputs_named (option t) (option u)) (option k) (limit (number l))) refl (λ b s_there.
    at_place i (λ x. run_of_names (Some a) (Some b) x (outputs_named (option t) (option u)) (option k) (limit (number l))) refl (λ c i_there.
    at_needed t (λ x. run_of_names (Some a) (Some b) (Some c) (outputs_named x (option u)) (option k) (limit (number l))) refl refl (λ d t_there.
    at_needed u (λ x. run_of_names (Some a) (Some b) (Some c) (outputs_named (Some (Some d)) x) (option k) (limit (number l))) refl refl (λ e u_there.
    at_free k (λ x. run_of_names (Some a) (Some b) (Some c) (outputs_named (Some (Some d)) (Some (Some e))) x (limit (number l))) refl (λ g k_may.
    by_free (number_of_word 1 most_cycles) (plain_number 1 most_cycles) nothing l
    (λ x. run_of_names (Some a) (Some b) (Some c) (outputs_named (Some (Some d)) (Some (Some e))) (Some g) (limit x)) refl (λ m l_may.
    absurd (h (p_there, (s_there, (i_there, tt))) (t_there, (u_there, tt)) (k_may, (l_may, tt))))))))))

no_make : (p n s i : Option Text) → Unmeant (p ∷ n ∷ []) (s ∷ i ∷ []) []
    → make_of_names (place p) (option_and_then (number_of_word 1 most_turns) n) (made_names (option s) (option i)) ≡ nothing
no_make p n s i h =
    at_place p (λ x. make_of_names x (option_and_then (number_of_word 1 most_turns) n) (made_names (option s) (option i))) refl (λ a p_there.
    by_place (number_of_word 1 most_turns) (plain_number 1 most_turns) nothing n
    (λ x. make_of_names (Some a) x (made_names (option s) (option i))) refl (λ b n_there.
    at_needed s (λ x. make_of_names (Some a) (Some b) (made_names x (option i))) refl refl (λ c s_there.
    at_needed i (λ x. make_of_names (Some a) (Some b) (made_names (Some (Some c)) x)) refl refl (λ d i_there.
    absurd (h (p_there, (n_there, tt)) (s_there, (i_there, tt)) tt)))))

no_chain : (p l e n : Option Text) → Unmeant (p ∷ l ∷ []) (e ∷ []) (n ∷ []) → chain_of_names (place p) (place l) (option e) (pieces n) ≡ nothing
no_chain p l e n h =
    at_place p (λ x. chain_of_names x (place l) (option e) (pieces n)) refl (λ a p_there.
    at_place l (λ x. chain_of_names (Some a) x (option e) (pieces n)) refl (λ b l_there.
    at_needed e (λ x. chain_of_names (Some a) (Some b) x (pieces n)) refl refl (λ c e_there.
    by_free (number_of_word 1 most_pieces) (plain_number 1 most_pieces) nothing n
    (λ x. chain_of_names (Some a) (Some b) (Some (Some c)) x) refl (λ m n_may.
    absurd (h (p_there, (l_there, tt)) (e_there, tt) (n_may, tt))))))

no_runs : (p l : Option Text) → Unmeant (p ∷ l ∷ []) [] [] → runs_of_names (place p) (place l) ≡ nothing
no_runs p l h =
    at_place p (λ x. runs_of_names x (place l)) refl (λ a p_there.
    at_place l (λ x. runs_of_names (Some a) x) refl (λ b l_there.
    absurd (h (p_there, (l_there, tt)) tt tt)))

abbrev depth : Option Text → Option (Option ℕ)
depth text = optional (number_of_word 1 most_depth) text

no_member : (p t s d e n : Option Text) → Unmeant (p ∷ t ∷ s ∷ []) (d ∷ e ∷ []) (n ∷ [])
    → member_of_names (place p) (place t) (place s) (depth d) (option e) (pieces n) ≡ nothing
no_member p t s d e n h =
    at_place p (λ x. member_of_names x (place t) (place s) (depth d) (option e) (pieces n)) refl (λ a p_there.
    at_place t (λ x. member_of_names (Some a) x (place s) (depth d) (option e) (pieces n)) refl (λ b t_there.
    at_place s (λ x. member_of_names (Some a) (Some b) x (depth d) (option e) (pieces n)) refl (λ c s_there.
    by_needed (number_of_word 1 most_depth) (plain_number 1 most_depth) nothing d
    (λ x. member_of_names (Some a) (Some b) (Some c) x (option e) (pieces n)) refl refl (λ f d_there.
    at_needed e (λ x. member_of_names (Some a) (Some b) (Some c) (Some (Some f)) x (pieces n)) refl refl (λ g e_there.
    by_free (number_of_word 1 most_pieces) (plain_number 1 most_pieces) nothing n
    (λ x. member_of_names (Some a) (Some b) (Some c) (Some (Some f)) (Some (Some g)) x) refl (λ i n_may.
    absurd (h (p_there, (t_there, (s_there, tt))) (d_there, (e_there, tt)) (n_may, tt))))))))

no_texts : (n : CommandName) (words : List Text)
    → Unmeant (texts_in (form_named n) words).places (texts_in (form_named n) words).needed (texts_in (form_named n) words).free
    → asked_in n (texts_in (form_named n) words) ≡ nothing
no_texts name.Check words h = no_check _ _ _ _ _ _ _ h
no_texts name.Hash words h = no_hash _ _ h
no_texts name.Assemble words h = no_assemble _ _ _ h
no_texts name.Run words h = no_run _ _ _ _ _ _ _ h
no_texts name.Make words h = no_make _ _ _ _ h
no_texts name.Chain words h = no_chain _ _ _ _ h
no_texts name.Runs words h = no_runs _ _ h
no_texts name.Member words h = no_member _ _ _ _ _ _ h

-- ---- each command: its words have a form, whose names are apart, and text

asks_by_form : (n : CommandName) (words : List Text)
    → asked_by n words
    ≡ (if is_form (length (form_named n).places) (map dashed (options_of (form_named n))) words then asked_in n (texts_in (form_named n) words) else nothing)
asks_by_form name.Check words = refl
asks_by_form name.Hash words = refl
asks_by_form name.Assemble words = refl
asks_by_form name.Run words = refl
asks_by_form name.Make words = refl
asks_by_form name.Chain words = refl
asks_by_form name.Runs words = refl
asks_by_form name.Member words = refl

ascii_names : (n : CommandName) → list_all (list_all (λ b. nat_lt b 128)) (options_of (form_named n)) ≡ true
ascii_names name.Check = refl
ascii_names name.Hash = refl
ascii_names name.Assemble = refl
ascii_names name.Run = refl
ascii_names name.Make = refl
ascii_names name.Chain = refl
ascii_names name.Runs = refl
ascii_names name.Member = refl

-- ---- all commands

-- the words of the form ask for what their texts do
pub asked_by_texts : (n : CommandName) (words : List Text) → HasForm (form_named n) words → asked_by n words ≡ asked_in n (texts_in (form_named n) words)
asked_by_texts n words e = asks_by_form n words ∙ ap (λ b. if b then asked_in n (texts_in (form_named n) words) else nothing) e

-- words that cannot be meant ask for nothing
pub unmeant_is_nothing : (n : CommandName) (words : List Text) → (MayBeMeant (form_named n) words → ⊥) → asked_by n words ≡ nothing
unmeant_is_nothing n words h =
    asks_by_form n words ∙ go (is_form (length (form_named n).places) (map dashed (options_of (form_named n))) words) refl
  where
    go : (b : Bool) → is_form (length (form_named n).places) (map dashed (options_of (form_named n))) words ≡ b
        → (if b then asked_in n (texts_in (form_named n) words) else nothing) ≡ nothing
    go true e = no_texts n words (λ places needed free. h (record { form = e; places = places; needed = needed; free = free }))
    go false e = refl

-- words that are not all text ask for nothing
pub untexts_are_nothing : (n : CommandName) (words : List Text) → (AllText words → ⊥) → asked_by n words ≡ nothing
untexts_are_nothing n words h =
    unmeant_is_nothing n words (λ m. h (meant-text (form_named n) words (ascii_text (options_of (form_named n)) (ascii_names n)) m))
