-- A list is read from its text, and what is read is a list with this text.
use Rattle.std.proofs.Common.{◌≡◌, ℕ, suc, ◌+◌, ◌<◌, ◌≤◌, ◌==◌, ◌&&◌, ◌||◌, not, nat_lt, nat_le, if◌then◌else◌, Bool, true, false, cond, List, [], ◌∷◌, ◌++◌, length, map, Option, Some, None, Result, Ok, Err, refl, sym, ap, subst, ◌∙◌, arith, append_assoc, append-nil}
use Rattle.std.specs.List.{AllByRecursion, flat_map, join_with_byte, list_all, list_any, onto_first, slice_split}
use Rattle.std.proofs.lemmas.Bool.{and_parts, and_from, eqb-true, eq-eqb}
use Rattle.std.proofs.lemmas.Bool.Decides.{nat_tests}
use Rattle.std.proofs.lemmas.List.Folds.{list_all-append, list_any-append}
use Rattle.std.proofs.lemmas.List.Splits.{join_with_byte-slice_split}
use Rattle.vm_field.specs.FileName.{is_file_name, is_name_byte, begins_with_dash}
use Rattle.vm_field.specs.Limits.{most_name_bytes}
use Rattle.run_chain.specs.declared.naming.Role.{Role}
use Rattle.run_chain.specs.declared.refusal.LinkCause.{LinkCause}
use Rattle.run_chain.specs.declared.refusal.LinkCause.TheVariants as cause
use Rattle.run_chain.specs.Names.{Given, Named, names_of_words, roles_for, with_roles, is_clash, has_clash}
use Rattle.run_chain.specs.Lists.{most_links, Line, Ended, Open, longer, lines_of, names_in, without_clash, line_at, Links, with_first, one_more, links_from, some_lines, links_of}
use Rattle.run_chain.specs.ListText.{line_text, list_text, IsLine, IsList, ReadsItsText}
use Rattle.run_chain.proofs.ListLemmas.{good}

-- ---- from what is read to the list

abbrev text_of : Line → List ℕ
text_of (Ended text) = text ++ 10 ∷ []
text_of (Open text) = text

-- the lines of a text give it back
lines-back : (bytes : List ℕ) → flat_map text_of (lines_of bytes) ≡ bytes
unfolding lines_of
lines-back [] = refl
lines-back (b ∷ bs) = go (b == 10) refl (lines-back bs)
  where
    put : (lines : List Line) → flat_map text_of (longer b lines) ≡ b ∷ flat_map text_of lines
    put [] = refl
    put (Ended text ∷ lines) = refl
    put (Open text ∷ lines) = refl

    go : (t : Bool) → (b == 10) ≡ t → flat_map text_of (lines_of bs) ≡ bs
        → flat_map text_of (cond t (Ended [] ∷ lines_of bs) (longer b (lines_of bs))) ≡ b ∷ bs
    go true e back = ap (λ xs. 10 ∷ xs) back ∙ ap (λ c. c ∷ bs) (sym (eqb-true b 10 e))
    go false e back = put (lines_of bs) ∙ ap (λ xs. b ∷ xs) back

abbrev names_or : Option (List (List ℕ)) → List (List ℕ)
names_or None = []
names_or (Some names) = names

abbrev good_or : Result (List (List ℕ)) LinkCause → List (List ℕ)
good_or (Ok names) = names
good_or (Err cause) = []

abbrev lines_or : Links → List (List (List ℕ))
lines_or (Ok lines) = lines
lines_or (Err fault) = []

abbrev parts : List ℕ → List (List ℕ)
parts text = slice_split (λ b. b == 32) text

-- what has names is a line of them
line-is : (count : ℕ) (line : Line) (names : List (List ℕ)) → names_in count line ≡ Some names
    → IsLine count names × (text_of line ≡ line_text names)
unfolding names_in
line-is count (Open text) names e = absurd (cc (e))
line-is count (Ended text) names e = go ((length (parts text) == count) && list_all is_file_name (parts text)) refl e
  where
    go : (t : Bool) → ((length (parts text) == count) && list_all is_file_name (parts text)) ≡ t
        → cond t (Some (parts text)) None ≡ Some names → IsLine count names × (text ++ 10 ∷ [] ≡ line_text names)
    go false is e = absurd (cc (e))
    go true is e =
        let both = and_parts (length (parts text) == count) (list_all is_file_name (parts text)) is in
        let same : parts text ≡ names = ap names_or e in (
          record {
            many = ap length (sym same) ∙ eqb-true (length (parts text)) count both.0;
            names_of_files = ap (list_all is_file_name) (sym same) ∙ both.1;
          },
          ap (λ bs. bs ++ 10 ∷ []) (sym (join_with_byte-slice_split 32 text)) ∙ ap line_text same,
        )

-- a good line is not one too many, has names, and none of them clashes
record IsGood (roles : List Role) (n : ℕ) (before : List Named) (line : Line) (names : List (List ℕ)) : Type 0 where
  few : n ≤ 64
  has : names_in (length roles) line ≡ Some names
  apart : has_clash (before ++ with_roles roles names) ≡ false

good-is : (roles : List Role) (n : ℕ) (before : List Named) (line : Line) (names : List (List ℕ)) → line_at roles n before line ≡ Ok names
    → IsGood roles n before line names
unfolding line_at
good-is roles n before line names e = counted (nat_lt most_links n) refl e
  where
    tested : (some : List (List ℕ)) (t : Bool) → n ≤ 64 → names_in (length roles) line ≡ Some some
        → has_clash (before ++ with_roles roles some) ≡ t → cond t (Err cause.Output) (Ok some) ≡ Ok names → IsGood roles n before line names
    tested some true few has is e = absurd (cc (e))
    tested some false few has is e =
        subst (IsGood roles n before line) (ap good_or e) (record { few = few; has = has; apart = is })

    named : (o : Option (List (List ℕ))) → n ≤ 64 → names_in (length roles) line ≡ o → without_clash roles before o ≡ Ok names
        → IsGood roles n before line names
    named None few has e = absurd (cc (e))
    named (Some some) few has e = tested some (has_clash (before ++ with_roles roles some)) few has refl e

    counted : (t : Bool) → nat_lt most_links n ≡ t
        → cond t (Err cause.Count) (without_clash roles before (names_in (length roles) line)) ≡ Ok names → IsGood roles n before line names
    counted true is e = absurd (cc (e))
    counted false is e = named (names_in (length roles) line) (grind (arith, nat_tests)) refl e

-- lines of which the first is good, and the others too
record Goes (roles : List Role) (n : ℕ) (before : List Named) (line : Line) (lines : List Line) (all : List (List (List ℕ))) : Type 0 where
  names : List (List ℕ)
  later : List (List (List ℕ))
  are : all ≡ names ∷ later
  first : IsGood roles n before line names
  others : links_from roles (n + 1) (before ++ with_roles roles names) lines ≡ Ok later

goes-is : (roles : List Role) (n : ℕ) (before : List Named) (line : Line) (lines : List Line) (all : List (List (List ℕ)))
    → links_from roles n before (line ∷ lines) ≡ Ok all → Goes roles n before line lines all
unfolding links_from
goes-is roles n before line lines all e = go (line_at roles n before line) refl e
  where
    more : (names : List (List ℕ)) (r : Links) → line_at roles n before line ≡ Ok names
        → links_from roles (n + 1) (before ++ with_roles roles names) lines ≡ r → with_first names r ≡ Ok all → Goes roles n before line lines all
    more names (Err fault) good is e = absurd (cc (e))
    more names (Ok later) good is e =
        record { names = names; later = later; are = sym (ap lines_or e); first = good-is roles n before line names good; others = is }

    go : (r : Result (List (List ℕ)) LinkCause) → line_at roles n before line ≡ r
        → one_more (λ names. links_from roles (n + 1) (before ++ with_roles roles names) lines) n r ≡ Ok all → Goes roles n before line lines all
    go (Err cause) is e = absurd (cc (e))
    go (Ok names) is e = more names (links_from roles (n + 1) (before ++ with_roles roles names) lines) is refl e

-- what is read of lines from line n on is a list behind the names before
record Is (roles : List Role) (n : ℕ) (before : List Named) (lines : List Line) (all : List (List (List ℕ))) : Type 0 where
  each : AllByRecursion (IsLine (length roles)) all
  text : flat_map text_of lines ≡ list_text all
  few : 0 < length all → n + length all ≤ 65
  apart : 0 < length all → has_clash (before ++ flat_map (with_roles roles) all) ≡ false

one-more : (roles : List Role) (n : ℕ) (before : List Named) (line : Line) (lines : List Line) (names : List (List ℕ))
    (later : List (List (List ℕ))) → IsGood roles n before line names → Is roles (n + 1) (before ++ with_roles roles names) lines later
    → Is roles n before (line ∷ lines) (names ∷ later)
one-more roles n before line lines names later first others =
    let is = line-is (length roles) line names first.has in
    record {
      each = (is.0, others.each);
      text = ap (λ bs. bs ++ flat_map text_of lines) is.1 ∙ ap (λ bs. line_text names ++ bs) others.text;
      few = λ some. few later others.few;
      apart = λ some. apart later others.apart;
    }
  where
    few : (later : List (List (List ℕ))) → (0 < length later → n + 1 + length later ≤ 65) → n + suc (length later) ≤ 65
    few [] h = omega (arith, first.few)
    few (x ∷ xs) h = let more : n + 1 + suc (length xs) ≤ 65 = h (omega arith) in omega (arith, more)

    apart : (later : List (List (List ℕ)))
        → (0 < length later → has_clash ((before ++ with_roles roles names) ++ flat_map (with_roles roles) later) ≡ false)
        → has_clash (before ++ (with_roles roles names ++ flat_map (with_roles roles) later)) ≡ false
    apart [] h = ap (λ ns. has_clash (before ++ ns)) (append-nil (with_roles roles names)) ∙ first.apart
    apart (x ∷ xs) h =
        ap has_clash (sym (append_assoc before (with_roles roles names) (flat_map (with_roles roles) (x ∷ xs)))) ∙ h (omega arith)

none : (roles : List Role) (n : ℕ) (before : List Named) (all : List (List (List ℕ))) → links_from roles n before [] ≡ Ok all → [] ≡ all
unfolding links_from
none roles n before all e = ap lines_or e

reads-is : (roles : List Role) (n : ℕ) (before : List Named) (lines : List Line) (all : List (List (List ℕ)))
    → links_from roles n before lines ≡ Ok all → Is roles n before lines all
reads-is roles n before [] all e = subst (Is roles n before []) (none roles n before all e) (record {
  each = tt;
  text = refl;
  few = λ some. absurd (omega (arith, some));
  apart = λ some. absurd (omega (arith, some));
})
reads-is roles n before (line ∷ lines) all e =
    let goes = goes-is roles n before line lines all e in
    subst (Is roles n before (line ∷ lines)) (sym goes.are)
    (one-more roles n before line lines goes.names goes.later goes.first
    (reads-is roles (n + 1) (before ++ with_roles roles goes.names) lines goes.later goes.others))

pub read-is-list : (given : Given) (bytes : List ℕ) (all : List (List (List ℕ))) → links_of given bytes ≡ Ok all
    → IsList given all × (bytes ≡ list_text all)
read-is-list given bytes all e = go (lines_of bytes) (lines-back bytes) e
  where
    go : (lines : List Line) → flat_map text_of lines ≡ bytes → some_lines given lines ≡ Ok all → IsList given all × (bytes ≡ list_text all)
    go [] back e = absurd (cc (e))
    go (line ∷ lines) back e =
        let goes = goes-is (roles_for given.evidence) 1 (names_of_words given) line lines all e in
        let is = reads-is (roles_for given.evidence) 1 (names_of_words given) (line ∷ lines) all e in
        let here : 0 < length all = let count : length all ≡ suc (length goes.later) = ap length goes.are in omega (arith, count) in (
          record {
            some = λ none. absurd (cc (none, goes.are));
            few = let most : 1 + length all ≤ 65 = is.few here in omega (arith, most);
            each = is.each;
            apart = is.apart here;
          },
          sym back ∙ is.text,
        )

-- ---- from the list to what is read

-- no space and no line feed
name-byte : (b : ℕ) → is_name_byte b ≡ true → ((b == 32) ≡ false) × ((b == 10) ≡ false)
name-byte b h = (grind (arith, nat_tests), grind (arith, nat_tests))

name-bytes : (name : List ℕ) → is_file_name name ≡ true → list_all is_name_byte name ≡ true
name-bytes name h =
    (and_parts (nat_le 1 (length name) && nat_le (length name) most_name_bytes) (list_all is_name_byte name)
    (and_parts (nat_le 1 (length name) && nat_le (length name) most_name_bytes && list_all is_name_byte name) (not (begins_with_dash name)) h).0).1

split-last : (name : List ℕ) → list_all is_name_byte name ≡ true → parts name ≡ name ∷ []
split-last [] all = refl
split-last (b ∷ bs) all =
    let both = and_parts (is_name_byte b) (list_all is_name_byte bs) all in
    go (b == 32) (name-byte b both.0).0 (split-last bs both.1)
  where
    go : (t : Bool) → t ≡ false → parts bs ≡ bs ∷ [] → cond t ([] ∷ parts bs) (onto_first b (parts bs)) ≡ (b ∷ bs) ∷ []
    go true e is = absurd (cc (e))
    go false e is = ap (onto_first b) is

split-more : (name rest : List ℕ) → list_all is_name_byte name ≡ true → parts (name ++ 32 ∷ rest) ≡ name ∷ parts rest
split-more [] rest all = refl
split-more (b ∷ bs) rest all =
    let both = and_parts (is_name_byte b) (list_all is_name_byte bs) all in
    go (b == 32) (name-byte b both.0).0 (split-more bs rest both.1)
  where
    go : (t : Bool) → t ≡ false → parts (bs ++ 32 ∷ rest) ≡ bs ∷ parts rest
        → cond t ([] ∷ parts (bs ++ 32 ∷ rest)) (onto_first b (parts (bs ++ 32 ∷ rest))) ≡ (b ∷ bs) ∷ parts rest
    go true e is = absurd (cc (e))
    go false e is = ap (onto_first b) is

split-names : (names : List (List ℕ)) → 0 < length names → list_all is_file_name names ≡ true → parts (join_with_byte 32 names) ≡ names
split-names [] some all = absurd (omega (arith, some))
split-names (x ∷ []) some all = split-last x (name-bytes x (and_parts (is_file_name x) true all).0)
split-names (x ∷ y ∷ names) some all =
    let both = and_parts (is_file_name x) (list_all is_file_name (y ∷ names)) all in
    split-more x (join_with_byte 32 (y ∷ names)) (name-bytes x both.0)
    ∙ ap (λ ns. x ∷ ns) (split-names (y ∷ names) (omega arith) both.1)

-- a line of names is read as them
line-reads : (count : ℕ) (names : List (List ℕ)) → 0 < count → IsLine count names → names_in count (Ended (join_with_byte 32 names)) ≡ Some names
unfolding names_in
line-reads count names some is =
    ap (λ ns. if (length ns == count) && list_all is_file_name ns then Some ns else None)
    (split-names names (omega (arith, some, is.many)) is.names_of_files)
    ∙ ap (λ t. cond t (Some names) None)
    (and_from (length names == count) (list_all is_file_name names) (eq-eqb (length names) count is.many) is.names_of_files)

abbrev no-feed : ℕ → Bool
no-feed b = not (b == 10)

plain : (name : List ℕ) → list_all is_name_byte name ≡ true → list_all no-feed name ≡ true
plain [] all = refl
plain (b ∷ bs) all =
    let both = and_parts (is_name_byte b) (list_all is_name_byte bs) all in
    and_from (no-feed b) (list_all no-feed bs) (ap not (name-byte b both.0).1) (plain bs both.1)

feedless : (names : List (List ℕ)) → list_all is_file_name names ≡ true → list_all no-feed (join_with_byte 32 names) ≡ true
feedless [] all = refl
feedless (x ∷ []) all = plain x (name-bytes x (and_parts (is_file_name x) true all).0)
feedless (x ∷ y ∷ names) all =
    let both = and_parts (is_file_name x) (list_all is_file_name (y ∷ names)) all in
    list_all-append no-feed x (32 ∷ join_with_byte 32 (y ∷ names))
    ∙ and_from (list_all no-feed x) (list_all no-feed (32 ∷ join_with_byte 32 (y ∷ names))) (plain x (name-bytes x both.0))
    (feedless (y ∷ names) both.1)

ended-at : (text rest : List ℕ) → list_all no-feed text ≡ true → lines_of (text ++ 10 ∷ rest) ≡ Ended text ∷ lines_of rest
unfolding lines_of
ended-at [] rest all = refl
ended-at (b ∷ bs) rest all =
    let both = and_parts (no-feed b) (list_all no-feed bs) all in
    go (b == 10) both.0 (ended-at bs rest both.1)
  where
    go : (t : Bool) → not t ≡ true → lines_of (bs ++ 10 ∷ rest) ≡ Ended bs ∷ lines_of rest
        → cond t (Ended [] ∷ lines_of (bs ++ 10 ∷ rest)) (longer b (lines_of (bs ++ 10 ∷ rest))) ≡ Ended (b ∷ bs) ∷ lines_of rest
    go true e is = absurd (cc (e))
    go false e is = ap (longer b) is

abbrev ended : List (List ℕ) → Line
ended names = Ended (join_with_byte 32 names)

lines-are : (count : ℕ) (all : List (List (List ℕ))) → AllByRecursion (IsLine count) all → lines_of (list_text all) ≡ map ended all
unfolding lines_of
lines-are count [] each = refl
lines-are count (names ∷ all) each =
    ap lines_of (append_assoc (join_with_byte 32 names) (10 ∷ []) (list_text all))
    ∙ ended-at (join_with_byte 32 names) (list_text all) (feedless names each.0.names_of_files)
    ∙ ap (λ lines. ended names ∷ lines) (lines-are count all each.1)

or_parts : (a b : Bool) → (a || b) ≡ false → (a ≡ false) × (b ≡ false)
or_parts true b e = absurd (cc (e))
or_parts false b e = (refl, e)

-- names of which none clash are so in front of others, too
clash-front : (xs ys : List Named) → has_clash (xs ++ ys) ≡ false → has_clash xs ≡ false
clash-front [] ys e = refl
clash-front (x ∷ xs) ys e =
    let both = or_parts (list_any (is_clash x) (xs ++ ys)) (has_clash (xs ++ ys)) e in
    let first = or_parts (list_any (is_clash x) xs) (list_any (is_clash x) ys) (sym (list_any-append (is_clash x) xs ys) ∙ both.0) in
    ap (λ t. t || has_clash xs) first.0 ∙ clash-front xs ys both.1

all-read : (roles : List Role) (n : ℕ) (before : List Named) (all : List (List (List ℕ))) → 0 < length roles → n + length all ≤ 64
    → AllByRecursion (IsLine (length roles)) all → has_clash (before ++ flat_map (with_roles roles) all) ≡ false
    → links_from roles (n + 1) before (map ended all) ≡ Ok all
unfolding links_from
all-read roles n before [] some few each apart = refl
all-read roles n before (names ∷ all) some few each apart =
    let whole = ap has_clash (append_assoc before (with_roles roles names) (flat_map (with_roles roles) all)) ∙ apart in
    let is = good roles n before (ended names) names (omega (arith, few)) (sym (line-reads (length roles) names some each.0))
    (clash-front (before ++ with_roles roles names) (flat_map (with_roles roles) all) whole) in
    ap (one_more (λ names. links_from roles (n + 1 + 1) (before ++ with_roles roles names) (map ended all)) (n + 1)) is
    ∙ ap (with_first names) (all-read roles (n + 1) (before ++ with_roles roles names) all some (omega (arith, few)) each.1 whole)

some-roles : (evidence : Option (List ℕ)) → 0 < length (roles_for evidence)
some-roles None = omega arith
some-roles (Some e) = omega arith

pub list-is-read : (given : Given) (all : List (List (List ℕ))) → IsList given all → links_of given (list_text all) ≡ Ok all
list-is-read given [] is = absurd (is.some refl)
list-is-read given (names ∷ all) is =
    ap (some_lines given) (lines-are (length (roles_for given.evidence)) (names ∷ all) is.each)
    ∙ all-read (roles_for given.evidence) 0 (names_of_words given) (names ∷ all) (some-roles given.evidence) (omega (arith, is.few)) is.each is.apart

pub reads-its-text : ReadsItsText
reads-its-text given bytes all =
    (λ e. read-is-list given bytes all e, λ h. ap (links_of given) h.1 ∙ list-is-read given all h.0)
