-- The words of a form, as clap reads them and as the form says.
use Rattle.std.proofs.Common.{◌≡◌, ◌∙◌, ◌+◌, ℕ, suc, Bool, cond, true, false, refl, sym, ap, ap₂, subst, List, [], ◌∷◌, Option, Some, None, arith, eqb-true, map, ◌++◌, append-nil, inl, inr, lit<}
use Rattle.std.proofs.Math.Bool.{or-false}
use Rattle.std.specs.Prelude.{option_map, option_and_then, find, slice_get, not, length, ◌||◌, ◌&&◌, ◌==◌}
use Rattle.std.specs.List.{list_any}
use Rattle.std.specs.Option.{option_or}
use Rattle.std.specs.Str.{IsUtf8, chars, bytes_eq}
use Rattle.std.proofs.lemmas.Bool.{cases_Bool, or_parts}
use Rattle.std.proofs.lemmas.List.{map-append}
use Rattle.std.proofs.lemmas.List.Folds.{find-append, list_any-append}
use Rattle.std.proofs.lemmas.Option.{none-some, same_Some}
use Rattle.std.proofs.lemmas.Str.{encode_ascii, encodes-chars}
use lib.Utf8.{encodes}
use Rattle.clap.specs.Takes.{is_given}
use Rattle.clap.specs.Kinds.{Kinds}
use Rattle.clap.specs.declared.builder.value_parser.Reading.TheVariants.{AsWritten}
use Rattle.clap.specs.declared.parser.matches.ValueSource.TheVariants.{CommandLine}
use Rattle.clap.specs.Faults.{fault_of}
use Rattle.clap.specs.Walk.{Row, Rule, Text, at_row, first_of, has_row, more_values, with_values, without, arg_by_index, arg_by_long, nothing_held}
use Rattle.clap.specs.Simple.{Shape, built, filled_from, matches_of}
use Rattle.clap.proofs.FaultLemmas.{leaf_fault}
use Rattle.clap.proofs.WalkLemmas.{first_value-rows}
use Rattle.clap.specs.Words.{first_value, rows_of}
use Rattle.clap.specs.declared.parser.matches.Found.{Found}
use Rattle.cmd_reading.specs.Form.{WordForm, IsForm, AllText}
use Rattle.cmd_reading.specs.FormApp.{form_app, form_rules}
use Rattle.cmd_reading.proofs.OneByOne.{Use, adds, has_use, joined, read, text_of, with_needs, with_text}
use Rattle.cmd_reading.proofs.FormUses.{clap_form, place_from, needs_of, form_uses}
use Rattle.cmd_reading.proofs.Walks.{AllSettled, IsFormOf, IsReadable, Readable, complete, free, id_of, level_read}
use Rattle.cmd_reading.proofs.FormRules.{settled_option, places_from, settled_rules, form-filled, form-settled, form-plain}

-- ---- the form's options and places are clap's

or-map : (a b : Option Rule) → option_or (id_of a) (id_of b) ≡ id_of (option_or a b)
or-map = elim [ None ↦ λ b. refl | Some a ↦ λ b. refl ]

long-places : (k : ℕ) (ids : List Text) (rest : List Rule) (x : Text) → arg_by_long (places_from k ids ++ rest) x ≡ arg_by_long rest x
long-places k [] rest x = refl
long-places k (id ∷ ids) rest x = long-places (k + 1) ids rest x

long-options : (r : Bool) (ids : List Text) (x : Text) → find (λ n. bytes_eq n x) ids ≡ id_of (arg_by_long (map (settled_option r) ids) x)
long-options r [] x = refl
long-options r (id ∷ ids) x = elim (cases_Bool (bytes_eq id x)) [ inl e ↦ rw e refl | inr e ↦ rw e (long-options r ids x) ]

options-are : (f : WordForm) (x : Text) → (clap_form f).option x ≡ id_of (arg_by_long (settled_rules f) x)
options-are f x =
    find-append (λ n. bytes_eq n x) f.needed f.free
    ∙ ap₂ option_or (long-options true f.needed x) (long-options false f.free x)
    ∙ or-map (arg_by_long (map (settled_option true) f.needed) x) (arg_by_long (map (settled_option false) f.free) x)
    ∙ ap id_of
    (sym (long-places 1 f.places (map (settled_option true) f.needed ++ map (settled_option false) f.free) x
    ∙ find-append _ (map (settled_option true) f.needed) (map (settled_option false) f.free)))

no-index : (r : Bool) (ids : List Text) (i : ℕ) → arg_by_index (map (settled_option r) ids) i ≡ None
no-index r [] i = refl
no-index r (id ∷ ids) i = no-index r ids i

index-places : (k : ℕ) (ids : List Text) (rest : List Rule) (i : ℕ) → arg_by_index rest i ≡ None
    → place_from k ids i ≡ id_of (arg_by_index (places_from k ids ++ rest) i)
index-places k [] rest i e = ap id_of (sym e)
index-places k (id ∷ ids) rest i e = elim (cases_Bool (k == i)) [ inl h ↦ rw h refl | inr h ↦ rw h (index-places (k + 1) ids rest i e) ]

places-are : (f : WordForm) (i : ℕ) → (clap_form f).place i ≡ id_of (arg_by_index (settled_rules f) i)
places-are f i = index-places 1 f.places _ i
    (find-append _ (map (settled_option true) f.needed) (map (settled_option false) f.free)
    ∙ ap₂ option_or (no-index true f.needed i) (no-index false f.free i))

-- ---- rows and uses

abbrev row : Use → Row
row u = record { id = u.0; values = u.1 ∷ []; count = None; source = Some CommandLine; reading = AsWritten }

abbrev rows : List Use → List Row
rows us = map row us

has_row-map : (id : Text) (us : List Use) → has_row id (rows us) ≡ has_use id us
has_row-map id [] = refl
has_row-map id (u ∷ us) = ap (λ b. bytes_eq u.0 id || b) (has_row-map id us)

not_there : (id : Text) (change : Row → List Row) (missing others : List Row) → has_row id others ≡ false
    → at_row id change missing others ≡ others ++ missing
not_there id change missing [] e = refl
not_there id change missing (r ∷ rs) e =
    let absent = or_parts (bytes_eq r.id id) (has_row id rs) e in
    rw absent.0 (ap (λ (l : List Row). r ∷ l) (not_there id change missing rs absent.1))

added : (u : Use) (others : List Row) → has_row u.0 others ≡ false → with_text u.0 u.1 others ≡ others ++ row u ∷ []
added u others absent =
    let same : without u.0 others ≡ others = not_there u.0 (λ _. []) [] others absent ∙ append-nil others in
    ap (with_values u.0 AsWritten CommandLine (u.1 ∷ [])) same ∙ not_there u.0 (more_values CommandLine (u.1 ∷ [])) (row u ∷ []) others absent

adds-map : (seen us : List Use) → adds (rows seen) us ≡ option_map rows (joined seen us)
unfolding adds joined
adds-map seen [] = refl
adds-map seen (u ∷ us) = elim (cases_Bool (has_use u.0 seen)) [
  | inl e ↦ rw (has_row-map u.0 seen, e) refl
  | inr e ↦
      let absent : has_row u.0 (rows seen) ≡ false = has_row-map u.0 seen ∙ e in
      rw (absent, e, added u (rows seen) absent, ← map-append row seen (u ∷ [])) (adds-map (seen ++ u ∷ []) us)
]

given-map : (id : Text) (us : List Use) → is_given id (rows us) ≡ has_use id us
given-map id [] = refl
given-map id (u ∷ us) = elim (cases_Bool (bytes_eq u.0 id)) [ inl e ↦ rw e refl | inr e ↦ rw e (given-map id us) ]

text-map : (id : Text) (us : List Use) → first_of id (rows us) ≡ text_of id us
text-map id [] = refl
text-map id (u ∷ us) = elim (cases_Bool (bytes_eq u.0 id)) [ inl e ↦ rw e refl | inr e ↦ rw e (text-map id us) ]

-- ---- what is needed

-- a rule whose text is required and is not there
abbrev lacks : List Use → List Rule → Bool
lacks us c = list_any (λ (a : Rule). a.required && not (is_given a.id (rows us))) c

not-needed : (ids : List Text) (us : List Use) → lacks us (map (settled_option false) ids) ≡ false
not-needed [] us = refl
not-needed (id ∷ ids) us = not-needed ids us

lacks-places : (k : ℕ) (ids : List Text) (us : List Use) → lacks us (places_from k ids) ≡ list_any (λ id. not (has_use id us)) ids
lacks-places k [] us = refl
lacks-places k (id ∷ ids) us = ap₂ (λ (x y : Bool). not x || y) (given-map id us) (lacks-places (k + 1) ids us)

lacks-needed : (ids : List Text) (us : List Use) → lacks us (map (settled_option true) ids) ≡ list_any (λ id. not (has_use id us)) ids
lacks-needed [] us = refl
lacks-needed (id ∷ ids) us = ap₂ (λ (x y : Bool). not x || y) (given-map id us) (lacks-needed ids us)

lacks-settled : (f : WordForm) (us : List Use) → lacks us (settled_rules f) ≡ list_any (λ id. not (has_use id us)) (needs_of f)
lacks-settled f us =
    list_any-append _ (places_from 1 f.places) _
    ∙ ap₂ (λ (x y : Bool). x || y) (lacks-places 1 f.places us)
    (list_any-append _ (map (settled_option true) f.needed) _ ∙ ap₂ (λ (x y : Bool). x || y) (lacks-needed f.needed us) (not-needed f.free us)
    ∙ or-false (list_any (λ id. not (has_use id us)) f.needed))
    ∙ sym (list_any-append (λ id. not (has_use id us)) f.places f.needed)

-- ---- words that are text

-- text after a dash has a first character
first_of_flags : (y : ℕ) (ys : Text) → IsUtf8 (45 ∷ y ∷ ys) → (x : ℕ) × (slice_get (chars (y ∷ ys)) 0 ≡ Some x)
unfolding chars
first_of_flags y ys utf8 = go (chars (y ∷ ys)) refl
  where
    go : (cs : Text) → chars (y ∷ ys) ≡ cs → (x : ℕ) × (slice_get cs 0 ≡ Some x)
    go (x ∷ xs) e = (x, refl)
    go [] e =
        let alone : chars (45 ∷ y ∷ ys) ≡ 45 ∷ [] = ap (λ (l : Text). 45 ∷ l) e in
        let whole : encodes (45 ∷ []) ≡ 45 ∷ y ∷ ys = ap encodes (sym alone) ∙ encodes-chars (45 ∷ y ∷ ys) utf8 in
        let one_byte : encodes (45 ∷ []) ≡ 45 ∷ [] = rw (encode_ascii 45 (lit< tt)) refl in
        absurd (omega (arith, ap length (sym one_byte ∙ whole)))

readable_word : (word : Text) → IsUtf8 word → IsReadable word
readable_word [] utf8 flags e = absurd (cc)
readable_word (b ∷ []) utf8 flags e =
    absurd (none-some flags (elim (cases_Bool (b == 45)) [ inl t ↦ rw t at e | inr t ↦ rw t at e ]))
readable_word (b ∷ y ∷ ys) utf8 flags e = elim (cases_Bool (b == 45)) [
  | inl t ↦ elim (cases_Bool (y == 45)) [
    | inl u ↦ absurd (none-some flags (rw (t, u) at e))
    | inr u ↦
        let first = first_of_flags y ys (subst (λ (k : ℕ). IsUtf8 (k ∷ y ∷ ys)) (eqb-true b 45 t) utf8) in
        (y, ys, first.0, sym (same_Some (y ∷ ys) flags (rw (t, u) at e)), first.1)
  ]
  | inr t ↦ absurd (none-some flags (rw t at e))
]

readable : (words : List Text) → AllText words → Readable words
readable [] t = tt
readable (w ∷ ws) t = (readable_word w (t 0 [] (omega arith)), readable ws (λ k d lt. t (suc k) d (omega arith)))

-- ---- what clap makes of the words

is_free : (k : Kinds) → free k ≡ true → k ≡ []
is_free [] e = refl
is_free (x ∷ xs) e = absurd (cc)

no_uses : (o : Option (List Use)) → option_map rows o ≡ None → o ≡ None
no_uses None e = refl
no_uses (Some us) e = absurd (cc)

module _ (f : WordForm) (h : IsForm f) where
  abbrev top : Shape
  top = (built (form_app f)).top

  abbrev rules : List Rule
  rules = filled_from 1 (form_rules f)

  abbrev whole : List Row → Option (List Row)
  whole = complete rules

  form-is : IsFormOf rules (clap_form f)
  form-is = subst (λ c. IsFormOf c (clap_form f)) (sym (form-filled f h)) (record { options = options-are f; places = places-are f })

  complete-map : (us : List Use) → whole (rows us) ≡ option_map rows (with_needs (needs_of f) us)
  complete-map us =
      ap (λ (b : Bool). cond b None (Some (rows us))) (ap (lacks us) (form-filled f h) ∙ lacks-settled f us)
      ∙ elim (cases_Bool (list_any (λ id. not (has_use id us)) (needs_of f))) [ inl e ↦ rw e refl | inr e ↦ rw e refl ]

  answer-uses : (o : Option (List Use)) → option_and_then whole (option_and_then (adds []) o)
      ≡ option_map rows (option_and_then (with_needs (needs_of f)) (option_and_then (joined []) o))
  answer-uses None = refl
  answer-uses (Some us) = ap (option_and_then whole) (adds-map [] us) ∙ go (joined [] us)
    where
      go : (o : Option (List Use)) → option_and_then whole (option_map rows o) ≡ option_map rows (option_and_then (with_needs (needs_of f)) o)
      go None = refl
      go (Some vs) = complete-map vs

  module _ (words : List Text) (texts : AllText words) where
    abbrev found_rows : Kinds → Option (List Row)
    found_rows k = cond (free k) (Some (matches_of (form_app f) words)) None

    form-words : found_rows (fault_of (form_app f) words) ≡ option_map rows (form_uses f words)
    form-words =
        ap found_rows (leaf_fault (built (form_app f)) nothing_held words refl)
        ∙ level_read top rules (form-plain f h) (clap_form f) form-is words (readable words texts)
        (subst AllSettled (sym (form-filled f h)) (form-settled f h))
        ∙ answer-uses (read (clap_form f) None 1 words)

    -- what was found says what the words say
    pub words-say : (m : Found) → fault_of (form_app f) words ≡ [] → rows_of m ≡ matches_of (form_app f) words
        → (us : List Use) × (form_uses f words ≡ Some us) × ((id : Text) → first_value m id ≡ text_of id us)
    words-say m fine found = go (form_uses f words) refl
      where
        is : Some (matches_of (form_app f) words) ≡ option_map rows (form_uses f words)
        is = ap found_rows (sym fine) ∙ form-words

        go : (o : Option (List Use)) → form_uses f words ≡ o → (us : List Use) × (form_uses f words ≡ Some us) × ((id : Text) → first_value m id ≡ text_of id us)
        go None e = absurd (none-some _ (sym (is ∙ ap (option_map rows) e)))
        go (Some us) e =
            let same = same_Some _ (rows us) (is ∙ ap (option_map rows) e) in
            (us, e, λ id. first_value-rows m id ∙ ap (first_of id) (found ∙ same) ∙ text-map id us)

    pub words-refused : (fault_of (form_app f) words ≡ [] → ⊥) → form_uses f words ≡ None
    words-refused faulty = elim (cases_Bool (free (fault_of (form_app f) words))) [
      | inl e ↦ absurd (faulty (is_free _ e))
      | inr e ↦ no_uses (form_uses f words) (sym form-words ∙ ap (λ (b : Bool). cond b (Some (matches_of (form_app f) words)) None) e)
    ]
