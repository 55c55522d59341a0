-- The walk of clap over the words of a plain command, against the reader of one word at a time.
use Rattle.std.proofs.Common.{◌≡◌, ◌∙◌, ◌+◌, ℕ, suc, Bool, cond, true, false, refl, sym, ap, ap₂, List, [], ◌∷◌, Option, Some, None, is_some, inl, inr}
use Rattle.std.proofs.Math.Bool.{and-false, or-true}
use Rattle.std.proofs.lemmas.Bool.{cases_Bool}
use Rattle.std.specs.Prelude.{option_and_then, option_map, slice_get, fold, min, not, ◌&&◌, ◌||◌, ◌==◌, if◌then◌else◌}
use Rattle.std.specs.Option.{option_map_or}
use Rattle.std.specs.Str.{chars}
use Rattle.clap.specs.Lexer.{long_of, short_of, usize_max}
use Rattle.clap.specs.Kinds.{Kinds, or_else}
use Rattle.clap.specs.Faults.{check_fault, default_fault, defaults_fault, level_fault, stray_fault, repeat_fault, settle_fault, turn_fault, use_fault, walk_fault, flags_fault}
use Rattle.clap.specs.Walk.{Held, Row, Rule, Text, Waiting, Walk, arg_by_id, arg_by_index, arg_by_long, arg_by_short, action_of, has_row, has_short, idle, is_append, most_values, settled, subcommand_met, takes_several, takes_values, used, walked, bundle_met}
use Rattle.clap.specs.Walk.{rows_after, nothing_held, with_default}
use Rattle.clap.specs.Walk as walk
use Rattle.clap.specs.Takes.{is_given}
use Rattle.std.specs.List.{list_any}
use Rattle.clap.specs.Simple.{Shape}
use Rattle.clap.specs.declared.error.kind.ErrorKind.TheVariants.{InvalidValue}
use Rattle.cmd_reading.proofs.OneByOne.{Form, Use, adds, plus, in_place, is_dashes, option_read, read, read_places, with_text, word_read}
use Rattle.cmd_reading.proofs.Members.{same-text}

abbrev pub free : Kinds → Bool
free [] = true
free (k ∷ ks) = false

abbrev pub id_of : Option Rule → Option Text
id_of o = option_map (λ (a : Rule). a.id) o

-- what was met and is not yet used, with the texts that it has
abbrev Pending : Type 0
Pending = Option (Text × List Text)

-- an option or a place that takes one text, and has nothing else
pub record IsSettled (a : Rule) : Type 0 where
  pub takes : takes_values a ≡ true
  pub several : takes_several a ≡ false
  pub append : is_append (action_of a) ≡ false
  pub trailing : a.trailing_var_arg ≡ false
  pub most : most_values a ≡ 1
  pub none : (rows : List Row) → use_fault false a [] rows ≡ InvalidValue ∷ []
  pub once : (v : Text) (rows : List Row) → use_fault false a (v ∷ []) rows ≡ repeat_fault false a.id rows
  pub used_once : (v : Text) (rows : List Row) → used a (v ∷ []) rows ≡ with_text a.id v rows
  pub short : (x : ℕ) → has_short a x ≡ false
  pub defaults : a.defaults ≡ []
  pub simple : a.is_simple ≡ true
  pub free : a.is_free ≡ true
  pub index : (i : ℕ) → option_map_or (λ k. k == i) a.index false ≡ true → min (i + 1) usize_max ≡ suc i

abbrev pub AllSettled : List Rule → Type 0
AllSettled [] = Unit {0}
AllSettled (a ∷ c) = IsSettled a × AllSettled c

pub record IsOne (c : List Rule) (a : Rule) : Type 0 where
  pub by_id : arg_by_id c a.id ≡ Some a
  pub is : IsSettled a

pub record IsPlain (c : List Rule) : Type 0 where
  pub long : (x : Text) (a : Rule) → arg_by_long c x ≡ Some a → IsOne c a
  pub place : (i : ℕ) (a : Rule) → arg_by_index c i ≡ Some a → IsOne c a × (min (i + 1) usize_max ≡ suc i)
  pub short : (x : ℕ) → arg_by_short c x ≡ None

-- the word's first character, where it is a bundle of flags
abbrev pub IsReadable : Text → Type 0
IsReadable word = (flags : Text) → short_of word ≡ Some flags → (y : ℕ) × (ys : Text) × (x : ℕ) × (flags ≡ y ∷ ys) × (slice_get (chars (y ∷ ys)) 0 ≡ Some x)

abbrev pub Readable : List Text → Type 0
Readable [] = Unit {0}
Readable (word ∷ rest) = IsReadable word × Readable rest

no_subcommand : (waiting : Waiting) (word : Text) → subcommand_met [] waiting word ≡ None
no_subcommand = elim [ idle ↦ λ word. refl | walk.option id ↦ λ word. refl | walk.positional ↦ λ word. refl ]

free-nil : (a : Kinds) → free (or_else a []) ≡ free a
free-nil = elim [ [] ↦ refl | k ∷ ks ↦ refl ]

free-or_else : (a b : Kinds) → free (or_else a b) ≡ (free a && free b)
free-or_else = elim [ [] ↦ λ b. refl | k ∷ ks ↦ λ b. refl ]

then_free : {X : Type 0} (a b : Kinds) (o : Option X) → cond (free (or_else a b)) o None ≡ cond (free a) (cond (free b) o None) None
then_free [] b o = refl
then_free (k ∷ ks) b o = refl

free-repeat : (id : Text) (rows : List Row) → free (repeat_fault false id rows) ≡ not (has_row id rows)
free-repeat id rows = elim (cases_Bool (has_row id rows)) [ inl e ↦ rw e refl | inr e ↦ rw e refl ]

cond-none : {X : Type 0} (b : Bool) → ◌≡◌ {A = Option X} (cond b None None) None
cond-none = elim [ true ↦ refl | false ↦ refl ]

same-both : {X : Type 0} (b : Bool) (x : X) → cond b x x ≡ x
same-both = elim [ true ↦ λ x. refl | false ↦ λ x. refl ]

cond-not : {X : Type 0} (b : Bool) (o : Option X) → cond (not b) o None ≡ cond b None o
cond-not = elim [ true ↦ λ o. refl | false ↦ λ o. refl ]

cond-and : {X : Type 0} (a b : Bool) (o : Option X) → cond (a && not b) o None ≡ cond a (cond b None o) None
cond-and true b o = cond-not b o
cond-and false b o = refl

-- one more text
adds-plus : (rows : List Row) (id v : Text) (o : Option (List Use))
    → option_and_then (adds rows) (plus id v o) ≡ cond (has_row id rows) None (option_and_then (adds (with_text id v rows)) o)
unfolding adds
adds-plus rows id v None = sym (cond-none (has_row id rows))
adds-plus rows id v (Some us) = refl

module _ (c : List Rule) where
  -- the form's options and places are the command's
  pub record IsFormOf (f : Form) : Type 0 where
    pub options : (x : Text) → f.option x ≡ id_of (arg_by_long c x)
    pub places : (k : ℕ) → f.place k ≡ id_of (arg_by_index c k)

  -- a required text is missing
  abbrev pub lacks : List Row → Bool
  lacks rows = list_any (λ a. a.required && not (is_given a.id rows)) c

  abbrev pub complete : List Row → Option (List Row)
  complete rows = if lacks rows then None else Some rows

module _ (base : Shape) (c : List Rule) where
  abbrev pub s : Shape
  s = record base {
    rules = c;
    args_override_self = false;
    arg_required_else_help = false;
    subcommand_required = false;
    subcommand_negates_reqs = false;
  }

  abbrev held : List Row → Pending → Held
  held rows p = record { rows = rows; pending = p; skip = 0 }

  -- what may still be refused of the text that is pending, and the rows with it
  abbrev owed : List Row → Pending → Kinds
  owed rows p = settle_fault c false (held rows p)

  abbrev paid : List Row → Pending → List Row
  paid rows p = (settled c (held rows p)).rows

  -- the rows with what is pending and then these uses, where nothing is refused
  abbrev with_uses : List Row → Pending → Option (List Use) → Option (List Row)
  with_uses rows p uses = cond (free (owed rows p)) (option_and_then (adds (paid rows p)) uses) None

  -- before a word, behind `--` or not
  abbrev walk_at : Bool → List Row → Pending → Waiting → ℕ → Walk
  walk_at behind rows p waiting k = record { held = held rows p; waiting = waiting; position = k; is_trailing = behind; stopped = None }

  abbrev at_value : List Row → Rule → ℕ → Walk
  at_value rows a k = walk_at false rows (Some (a.id, [])) (walk.option a.id) k

  -- the rows at the end, where nothing is refused on the way
  abbrev ends : Walk → List Text → Option (List Row)
  ends w words =
      let end = (fold (walked c []) w words).held in
      cond (free (walk_fault s [] w words)) (cond (free (settle_fault c false end)) (Some (settled c end).rows) None) None

  -- a word that is not refused where b holds, and what comes of the rest
  goes : (w : Walk) (word : Text) (rest : List Text) {after : Walk} {b : Bool} {o : Option (List Row)} → free (turn_fault s [] w word) ≡ b
      → walked c [] w word ≡ after → ends after rest ≡ o
      → ends w (word ∷ rest) ≡ cond b o None
  unfolding walk_fault
  goes w word rest turn next later =
      then_free (turn_fault s [] w word) _ _
      ∙ ap₂ (λ (x : Bool) (v : Option (List Row)). cond x v None) turn (ap (λ (v : Walk). ends v rest) next ∙ later)

  refused : (w : Walk) (word : Text) (rest : List Text) → free (turn_fault s [] w word) ≡ false → ends w (word ∷ rest) ≡ None
  refused w word rest turn = goes w word rest turn refl refl

  stray_kept : free (stray_fault s) ≡ false
  stray_kept = elim (cases_Bool base.is_leaf) [ inl e ↦ rw e refl | inr e ↦ rw e refl ]

  -- a text that is pending joins what comes after it
  pays : {a : Rule} → IsOne c a → (rows : List Row) (v : Text) (o : Option (List Use))
      → with_uses rows (Some (a.id, v ∷ [])) o ≡ option_and_then (adds rows) (plus a.id v o)
  pays {a} one rows v o =
      rw (one.by_id, one.is.once, one.is.used_once, free-repeat)
      (cond-not (has_row a.id rows) (option_and_then (adds (with_text a.id v rows)) o) ∙ sym (adds-plus rows a.id v o))

  module _ (plain : IsPlain c) (f : Form) (form : IsFormOf c f) where
    abbrev RestIs : List Row → Pending → Waiting → ℕ → List Text → Type 0
    RestIs rows p waiting k words = ends (walk_at true rows p waiting k) words ≡ with_uses rows p (read_places f k words)

    abbrev WordsAre : List Text → Type 0
    WordsAre words = (rows : List Row) (p : Pending) (k : ℕ) → ends (walk_at false rows p idle k) words ≡ with_uses rows p (read f None k words)

    abbrev ValueIs : List Text → Type 0
    ValueIs words = (rows : List Row) (a : Rule) → IsOne c a → (k : ℕ)
        → ends (at_value rows a k) words ≡ option_and_then (adds rows) (read f (Some a.id) k words)

    option_is : (x : Text) {o : Option Rule} → arg_by_long c x ≡ o → f.option x ≡ id_of o
    option_is x e = form.options x ∙ ap id_of e

    place_is : (k : ℕ) {o : Option Rule} → arg_by_index c k ≡ o → f.place k ≡ id_of o
    place_is k e = form.places k ∙ ap id_of e

    module _ (rows : List Row) (p : Pending) (k : ℕ) (word : Text) (rest : List Text) where
      abbrev paid_then : Option (List Row) → Option (List Row)
      paid_then o = cond (free (owed rows p)) o None

      -- a text in its place, and then the others
      placed_then : (a : Rule) (others : Option (List Use)) → arg_by_index c k ≡ Some a
          → paid_then (with_uses (paid rows p) (Some (a.id, word ∷ [])) others) ≡ with_uses rows p (in_place (f.place k) word others)
      placed_then a others e = ap paid_then (pays (plain.place k a e).0 (paid rows p) word others) ∙ rw (place_is k e) refl

      placed_none : (others : Option (List Use)) → arg_by_index c k ≡ None → None ≡ with_uses rows p (in_place (f.place k) word others)
      placed_none others e = rw (place_is k e) (sym (cond-none (free (owed rows p))))

      -- a word behind `--`
      rest_step : (waiting : Waiting) → ((a : Rule) → RestIs (paid rows p) (Some (a.id, word ∷ [])) idle (suc k) rest) → (o : Option Rule)
          → arg_by_index c k ≡ o → RestIs rows p waiting k (word ∷ rest)
      unfolding read_places walked
      rest_step waiting later None e = refused _ word rest (rw e stray_kept) ∙ placed_none (read_places f (suc k) rest) e
      rest_step waiting later (Some a) e =
          let one = (plain.place k a e).0.is in
          goes _ word rest (rw (e, one.several, and-false) refl) (rw (e, one.several, and-false, one.append, (plain.place k a e).1) refl) (later a)
          ∙ placed_then a (read_places f (suc k) rest) e

      -- a bundle of flags, or an option of no known name
      bundled : (waiting : Waiting) (flags : Text) → IsReadable word → is_dashes word ≡ false → long_of word ≡ None → short_of word ≡ Some flags
          → free (turn_fault s [] (walk_at false rows p waiting k) word) ≡ false
      unfolding flags_fault bundle_met
      bundled waiting flags readable dash long short =
          let r = readable flags short in
          rw (no_subcommand waiting word, dash, long, short, r.3, r.4, plain.short r.2) refl

      -- a word where nothing waits
      module _ (words : WordsAre rest) (value : ValueIs rest) (readable : IsReadable word) where
        abbrev Goal : Option (List Use) → Type 0
        Goal uses = ends (walk_at false rows p idle k) (word ∷ rest) ≡ with_uses rows p uses

        long_step : is_dashes word ≡ false → (x : Text) (v : Option Text) → long_of word ≡ Some (x, v) → (o : Option Rule) → arg_by_long c x ≡ o
            → Goal (option_read (f.option x) v (read f None k rest) (λ id. read f (Some id) k rest))
        unfolding walked
        long_step dash x v long None e = refused _ word rest (rw (dash, long, e) refl) ∙ rw (option_is x e) (sym (cond-none (free (owed rows p))))
        long_step dash x (Some v) long (Some a) e =
            let one = (plain.long x a e).is in
            goes _ word rest
            (rw (dash, long, e, one.takes, one.once)
            (free-nil _ ∙ free-or_else (owed rows p) _ ∙ ap (λ (b : Bool). free (owed rows p) && b) (free-repeat a.id (paid rows p))))
            (rw (dash, long, e, one.takes, one.used_once) refl)
            (words (with_text a.id v (paid rows p)) None k)
            ∙ cond-and (free (owed rows p)) (has_row a.id (paid rows p)) _
            ∙ ap paid_then (sym (adds-plus (paid rows p) a.id v (read f None k rest)))
            ∙ rw (option_is x e) refl
        long_step dash x None long (Some a) e =
            let one = plain.long x a e in
            goes _ word rest {b = free (owed rows p)} (rw (dash, long, e, one.is.takes) (free-nil (owed rows p))) (rw (dash, long, e, one.is.takes) refl) (value (paid rows p) a one k)
            ∙ rw (option_is x e) refl

        place_step : is_dashes word ≡ false → long_of word ≡ None → short_of word ≡ None → (o : Option Rule) → arg_by_index c k ≡ o
            → Goal (in_place (f.place k) word (read f None (suc k) rest))
        unfolding walked
        place_step dash long short None e = refused _ word rest (rw (dash, long, short, e) stray_kept) ∙ placed_none (read f None (suc k) rest) e
        place_step dash long short (Some a) e =
            let one = (plain.place k a e).0.is in
            goes _ word rest (rw (dash, long, short, e, one.several, and-false) refl)
            (rw (dash, long, short, e, one.several, and-false, one.append, one.trailing, (plain.place k a e).1) refl)
            (words (paid rows p) (Some (a.id, word ∷ [])) (suc k))
            ∙ placed_then a (read f None (suc k) rest) e

        other_step : is_dashes word ≡ false → (l : Option (Text × Option Text)) → long_of word ≡ l → (t : Option Text) → short_of word ≡ t
            → Goal (word_read l t f k word (read f None k rest) (λ id. read f (Some id) k rest) (read f None (suc k) rest))
        other_step dash (Some q) long t short = long_step dash q.0 q.1 long (arg_by_long c q.0) refl
        other_step dash None long (Some flags) short = refused _ word rest (bundled idle flags readable dash long short) ∙ sym (cond-none (free (owed rows p)))
        other_step dash None long None short = place_step dash long short (arg_by_index c k) refl

    rest_read : (words : List Text) (rows : List Row) (p : Pending) (waiting : Waiting) (k : ℕ) → RestIs rows p waiting k words
    unfolding read_places adds walk_fault
    rest_read [] rows p waiting k = refl
    rest_read (word ∷ rest) rows p waiting k =
        rest_step rows p k word rest waiting (λ a. rest_read rest (paid rows p) (Some (a.id, word ∷ [])) idle (suc k)) (arg_by_index c k) refl

    -- the walk goes on behind `--`
    dashes_step : (rows : List Row) (p : Pending) (waiting : Waiting) (k : ℕ) (word : Text) (rest : List Text) → is_dashes word ≡ true
        → ends (walk_at false rows p waiting k) (word ∷ rest) ≡ with_uses rows p (read_places f k rest)
    unfolding walked
    dashes_step rows p waiting k word rest dash = goes _ word rest {b = true} (rw (no_subcommand waiting word, dash) refl) (rw (no_subcommand waiting word, dash) refl) (rest_read rest rows p waiting k)

    word_step : (word : Text) (rest : List Text) → WordsAre rest → ValueIs rest → IsReadable word → WordsAre (word ∷ rest)
    unfolding read
    word_step word rest words value readable rows p k = elim (cases_Bool (is_dashes word)) [
      | inl dash ↦ dashes_step rows p idle k word rest dash ∙ rw dash refl
      | inr dash ↦ other_step rows p k word rest words value readable dash (long_of word) refl (short_of word) refl ∙ rw dash refl
    ]

    -- a word where an option waits for its text
    module _ (rows : List Row) (a : Rule) (one : IsOne c a) (k : ℕ) (word : Text) (rest : List Text) (words : WordsAre rest) (readable : IsReadable word) where
      abbrev Wanted : Bool → Type 0
      Wanted b = ends (at_value rows a k) (word ∷ rest) ≡ option_and_then (adds rows) (if b then None else plus a.id word (read f None k rest))

      value_long : is_dashes word ≡ false → (x : Text) (v : Option Text) → long_of word ≡ Some (x, v) → (o : Option Rule) → arg_by_long c x ≡ o
          → free (turn_fault s [] (at_value rows a k) word) ≡ false
      value_long dash x v long None e = rw (dash, long, e) refl
      value_long dash x (Some t) long (Some b) e = rw (dash, long, e, (plain.long x b e).is.takes, one.by_id, one.is.none) refl
      value_long dash x None long (Some b) e = rw (dash, long, e, (plain.long x b e).is.takes, one.by_id, one.is.none) refl

      value_other : is_dashes word ≡ false → (l : Option (Text × Option Text)) → long_of word ≡ l → (t : Option Text) → short_of word ≡ t
          → Wanted (is_some l || is_some t)
      unfolding walked
      value_other dash (Some q) long t short = refused _ word rest (value_long dash q.0 q.1 long (arg_by_long c q.0) refl)
      value_other dash None long (Some flags) short =
          refused _ word rest (bundled rows (Some (a.id, [])) k word rest (walk.option a.id) flags readable dash long short)
      value_other dash None long None short =
          goes _ word rest {b = true} (rw (dash, long, short) refl) (rw (dash, long, short, one.by_id, same-text, one.is.most) refl) (words rows (Some (a.id, word ∷ [])) k)
          ∙ pays one rows word (read f None k rest)

    value_step : (word : Text) (rest : List Text) → WordsAre rest → IsReadable word → ValueIs (word ∷ rest)
    unfolding read
    value_step word rest words readable rows a one k = elim (cases_Bool (is_dashes word)) [
      | inl dash ↦ dashes_step rows (Some (a.id, [])) (walk.option a.id) k word rest dash ∙ rw (dash, one.by_id, one.is.none) refl
      | inr dash ↦ value_other rows a one k word rest words readable dash (long_of word) refl (short_of word) refl ∙ rw dash refl
    ]

    words_read : (words : List Text) → Readable words → WordsAre words × ValueIs words
    unfolding read adds walk_fault
    words_read [] readable = (λ rows p k. refl, λ rows a one k. rw (one.by_id, one.is.none) refl)
    words_read (word ∷ rest) readable =
        let later = words_read rest readable.1 in
        (word_step word rest later.0 later.1 readable.0, value_step word rest later.0 readable.0)

    -- ---- a whole parse

    no_defaults : (rows : List Row) (rules : List Rule) → AllSettled rules → (defaults_fault rows rules ≡ []) × (fold with_default rows rules ≡ rows)
    unfolding defaults_fault
    no_defaults rows [] h = (refl, refl)
    no_defaults rows (a ∷ rest) h =
        let fine : default_fault rows a ≡ [] = rw (h.0.defaults, or-true (has_row a.id rows)) refl in
        let same : with_default rows a ≡ rows = rw h.0.defaults (same-both (has_row a.id rows) rows) in
        let later = no_defaults rows rest h.1 in
        (rw (fine, same) later.0, rw same later.1)

    complete-ends : (a b : Bool) (rows : List Row)
        → cond a (cond b (cond (free (check_fault s rows false)) (Some rows) None) None) None ≡ option_and_then (complete c) (cond a (cond b (Some rows) None) None)
    complete-ends true true rows = elim (cases_Bool (lacks c rows)) [ inl e ↦ rw e refl | inr e ↦ rw e refl ]
    complete-ends true false rows = refl
    complete-ends false b rows = refl

    -- what clap finds, or none where it refuses the words
    pub level_read : (words : List Text) → Readable words → AllSettled c
        → cond (free (level_fault s [] nothing_held words false [])) (Some (rows_after c [] words)) None
        ≡ option_and_then (complete c) (option_and_then (adds []) (read f None 1 words))
    level_read words readable settled_rules =
        let start = walk_at false [] None idle 1 in
        let end = (fold (walked c []) start words).held in
        let rows = (settled c end).rows in
        let none = no_defaults rows c settled_rules in
        let shape : cond (free (level_fault s [] nothing_held words false [])) (Some (rows_after c [] words)) None
        ≡ cond (free (or_else (walk_fault s [] start words) (or_else (settle_fault c false end) (check_fault s rows false)))) (Some rows) None =
        rw (none.0, none.1) refl in
        shape ∙ then_free (walk_fault s [] start words) _ _
        ∙ ap (λ (o : Option (List Row)). cond (free (walk_fault s [] start words)) o None) (then_free (settle_fault c false end) _ _)
        ∙ complete-ends (free (walk_fault s [] start words)) (free (settle_fault c false end)) rows
        ∙ ap (option_and_then (complete c)) ((words_read words readable).0 [] None 1)
