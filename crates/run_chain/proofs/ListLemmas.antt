-- Lists of links, read line by line: the lines so far in front of what the rest gives are what the whole text gives.
use Rattle.std.proofs.Common.{◌≡◌, ℕ, zero, suc, ◌+◌, ◌<◌, ◌≤◌, ◌==◌, ◌&&◌, nat_lt, Bool, true, false, cond, option_map, List, [], ◌∷◌, ◌++◌, length, map, get_or, Bor, Option, Some, None, Result, Ok, Err, inl, inr, refl, sym, ap, ◌∙◌, arith, append_assoc, append-nil, length-append, Vec, Global}
use Rattle.std.specs.List.{list_all, slice_split}
use Rattle.std.proofs.lemmas.Bool.{cases_Bool, and_from, and_left, and_right, eq-eqb, eqb-true}
use Rattle.std.proofs.lemmas.Bool.Decides.{nat_tests}
use Rattle.std.proofs.lemmas.List.{map-append}
use Rattle.std.proofs.lemmas.List.Folds.{list_all-append, list_all_at}
use Rattle.vm_field.specs.FileName.{is_file_name}
use Rattle.rpo_hash.specs.ParamText.{one_line}
use Rattle.cmd_words.specs.Words.{file_name_of}
use Rattle.run_chain.specs.declared.naming.Role.{Role}
use Rattle.run_chain.specs.declared.refusal.LinkCause.{LinkCause}
use Rattle.run_chain.specs.declared.refusal.LinkCause.TheVariants as cause
use Rattle.run_chain.specs.Names.{Given, Named, names_of_words, roles_for, with_roles, has_clash}
use Rattle.run_chain.specs.Lists.{most_links, Line, Ended, Open, longer, lines_of, names_in, without_clash, line_at, Links, with_first, one_more, links_from, some_lines, links_of}

-- what is the first line, where it is known whether a line feed ends it
abbrev shown : List ℕ → Option (List ℕ × List ℕ) → List Line
shown bytes (Some (text, behind)) = Ended text ∷ lines_of behind
shown [] None = []
shown (b ∷ bs) None = Open (b ∷ bs) ∷ []

lines-shown : (bytes : List ℕ) → lines_of bytes ≡ shown bytes (one_line bytes)
unfolding one_line lines_of
lines-shown [] = refl
lines-shown (b ∷ bs) = go (b == 10) (lines-shown bs)
  where
    later : (bs : List ℕ) (o : Option (List ℕ × List ℕ)) → longer b (shown bs o) ≡ shown (b ∷ bs) (option_map (λ l. (b ∷ l.0, l.1)) o)
    later bs (Some (text, behind)) = refl
    later [] None = refl
    later (c ∷ cs) None = refl

    go : (t : Bool) → lines_of bs ≡ shown bs (one_line bs) → cond t (Ended [] ∷ lines_of bs) (longer b (lines_of bs))
        ≡ shown (b ∷ bs) (cond t (Some ([], bs)) (option_map (λ l. (b ∷ l.0, l.1)) (one_line bs)))
    go true is = refl
    go false is = ap (longer b) is ∙ later bs (one_line bs)

-- the first line is what a line feed ends
pub line-ended : (bytes text behind : List ℕ) → Some (text, behind) ≡ one_line bytes → lines_of bytes ≡ Ended text ∷ lines_of behind
line-ended bytes text behind is = lines-shown bytes ∙ ap (shown bytes) (sym is)

-- or the bytes end before one
pub line-open : (bytes : List ℕ) → None ≡ one_line bytes → 0 < length bytes → lines_of bytes ≡ Open bytes ∷ []
line-open [] is some = absurd (omega (arith, some))
line-open (b ∷ bs) is some = lines-shown (b ∷ bs) ∙ ap (shown (b ∷ bs)) (sym is)

-- there is a first line
pub first-of : (bytes : List ℕ) → 0 < length bytes → (line : Line) × (lines : List Line) × (lines_of bytes ≡ line ∷ lines)
first-of bytes here = go bytes (one_line bytes) here (lines-shown bytes)
  where
    go : (bytes : List ℕ) (o : Option (List ℕ × List ℕ)) → 0 < length bytes → lines_of bytes ≡ shown bytes o
        → (line : Line) × (lines : List Line) × (lines_of bytes ≡ line ∷ lines)
    go bytes (Some (text, behind)) here is = (Ended text, lines_of behind, is)
    go [] None here is = absurd (omega (arith, here))
    go (b ∷ bs) None here is = (Open (b ∷ bs), [], is)

-- ---- the names of a line

abbrev parts : List ℕ → List (List ℕ)
parts text = slice_split (λ b. b == 32) text

abbrev named_if : Bool → List ℕ → Option (List (List ℕ))
named_if t text = cond t (Some (parts text)) None

in-line : (count : ℕ) (text : List ℕ) (t : Bool) → ((length (parts text) == count) && list_all is_file_name (parts text)) ≡ t
    → names_in count (Ended text) ≡ named_if t text
unfolding names_in
in-line count text t e = ap (λ t. named_if t text) e

pub names-bad : (count : ℕ) (text part : List ℕ) (i : ℕ) → i < length (parts text) → part ≡ get_or (parts text) i part
    → is_file_name part ≡ false → None ≡ names_in count (Ended text)
names-bad count text part i within at refused =
    sym (in-line count text false (and_right (length (parts text) == count) (list_all is_file_name (parts text))
    (list_all_at is_file_name (parts text) i part within (ap is_file_name (sym at) ∙ refused))))

pub names-all : (count : ℕ) (text : List ℕ) (names : List (List ℕ)) → names ≡ parts text → list_all is_file_name names ≡ true
    → length names ≡ count → Some names ≡ names_in count (Ended text)
names-all count text names is named many =
    ap Some is
    ∙ sym (in-line count text true (and_from (length (parts text) == count) (list_all is_file_name (parts text))
    (eq-eqb (length (parts text)) count (ap length (sym is) ∙ many)) (ap (list_all is_file_name) (sym is) ∙ named)))

pub names-other : (count : ℕ) (text : List ℕ) (names : List (List ℕ)) → names ≡ parts text → (length names ≡ count → ⊥)
    → None ≡ names_in count (Ended text)
names-other count text names is other =
    elim (cases_Bool (length (parts text) == count)) [
      | inl same ↦ absurd (other (ap length is ∙ eqb-true (length (parts text)) count same))
      | inr apart ↦ sym (in-line count text false (and_left (length (parts text) == count) (list_all is_file_name (parts text)) apart))
    ]

name-cases : (part : List ℕ) (t : Bool) → is_file_name part ≡ t → file_name_of part ≡ cond t (Some part) None
name-cases part t e = ap (λ t. cond t (Some part) None) e

pub name-refused : (part : List ℕ) → None ≡ file_name_of part → is_file_name part ≡ false
name-refused part none =
    elim (cases_Bool (is_file_name part)) [
      | inl name ↦ absurd (cc (none, name-cases part true name))
      | inr other ↦ other
    ]

abbrev text_or : List ℕ → Option (List ℕ) → List ℕ
text_or other None = other
text_or other (Some text) = text

pub name-kept : (part name : List ℕ) → Some name ≡ file_name_of part → (is_file_name part ≡ true) × (name ≡ part)
name-kept part name some =
    elim (cases_Bool (is_file_name part)) [
      | inl named ↦ (named, ap (text_or part) (some ∙ name-cases part true named))
      | inr other ↦ absurd (cc (some, name-cases part false other))
    ]

pub one-more-kept : (names yielded : List (Bor (List ℕ))) (name part : Bor (List ℕ)) → name.now ≡ part.now
    → map (λ n. n.now) names ≡ map (λ n. n.now) yielded → map (λ n. n.now) (names ++ name ∷ []) ≡ map (λ n. n.now) (yielded ++ part ∷ [])
one-more-kept names yielded name part same kept =
    map-append (λ n. n.now) names (name ∷ [])
    ∙ ap (λ ns. ns ++ name.now ∷ []) kept
    ∙ ap (λ n. map (λ n. n.now) yielded ++ n ∷ []) same
    ∙ sym (map-append (λ n. n.now) yielded (part ∷ []))

pub one-more-named : (yielded : List (Bor (List ℕ))) (part : Bor (List ℕ)) → is_file_name part.now ≡ true
    → list_all is_file_name (map (λ n. n.now) yielded) ≡ true → list_all is_file_name (map (λ n. n.now) (yielded ++ part ∷ [])) ≡ true
one-more-named yielded part named all =
    ap (list_all is_file_name) (map-append (λ n. n.now) yielded (part ∷ []))
    ∙ list_all-append is_file_name (map (λ n. n.now) yielded) (part.now ∷ [])
    ∙ and_from (list_all is_file_name (map (λ n. n.now) yielded)) (list_all is_file_name (part.now ∷ [])) all
    (and_from (is_file_name part.now) true named refl)

-- ---- line by line

abbrev joined : List (List (List ℕ)) → Links → Links
joined xs (Ok ys) = Ok (xs ++ ys)
joined xs (Err e) = Err e

joined-first : (xs : List (List (List ℕ))) (x : List (List ℕ)) (r : Links) → joined xs (with_first x r) ≡ joined (xs ++ x ∷ []) r
joined-first xs x (Ok ys) = ap Ok (sym (append_assoc xs (x ∷ []) ys))
joined-first xs x (Err e) = refl

-- the lines so far, in front of those of the rest, are all lines
abbrev pub Goes : List Role → List Named → List ℕ → List (List (List ℕ)) → List Named → List ℕ → Type 0
Goes roles words bytes xs before rest =
    joined xs (links_from roles (length xs + 1) before (lines_of rest)) ≡ links_from roles 1 words (lines_of bytes)

pub begins : (roles : List Role) (words : List Named) (bytes : List ℕ) → Goes roles words bytes [] words bytes
begins roles words bytes = empty (links_from roles 1 words (lines_of bytes))
  where
    empty : (r : Links) → joined [] r ≡ r
    empty (Ok ys) = refl
    empty (Err e) = refl

first-line : (roles : List Role) (n : ℕ) (before : List Named) (line : Line) (lines : List Line) (r : Result (List (List ℕ)) LinkCause)
    → line_at roles n before line ≡ r
    → links_from roles n before (line ∷ lines) ≡ one_more (λ names. links_from roles (n + 1) (before ++ with_roles roles names) lines) n r
unfolding links_from
first-line roles n before line lines r is = ap (one_more (λ names. links_from roles (n + 1) (before ++ with_roles roles names) lines) n) is

pub goes_on : (roles : List Role) (words : List Named) (bytes : List ℕ) (xs : List (List (List ℕ))) (before : List Named)
    (rest behind : List ℕ) (line : Line) (names : List (List ℕ))
    → lines_of rest ≡ line ∷ lines_of behind → line_at roles (length xs + 1) before line ≡ Ok names
    → Goes roles words bytes xs before rest → Goes roles words bytes (xs ++ names ∷ []) (before ++ with_roles roles names) behind
goes_on roles words bytes xs before rest behind line names is good goes =
    sym (ap (λ ls. joined xs (links_from roles (length xs + 1) before ls)) is
    ∙ ap (joined xs) (first-line roles (length xs + 1) before line (lines_of behind) (Ok names) good)
    ∙ joined-first xs names (links_from roles (length xs + 1 + 1) (before ++ with_roles roles names) (lines_of behind))
    ∙ ap (λ n. joined (xs ++ names ∷ []) (links_from roles (n + 1) (before ++ with_roles roles names) (lines_of behind)))
    (sym (length-append xs (names ∷ []))))
    ∙ goes

pub stops : (roles : List Role) (words : List Named) (bytes : List ℕ) (xs : List (List (List ℕ))) (before : List Named)
    (rest : List ℕ) (line : Line) (lines : List Line) (cause : LinkCause)
    → lines_of rest ≡ line ∷ lines → line_at roles (length xs + 1) before line ≡ Err cause
    → Goes roles words bytes xs before rest
    → links_from roles 1 words (lines_of bytes) ≡ Err (record { line = length xs + 1; cause = cause })
stops roles words bytes xs before rest line lines cause is bad goes =
    sym goes
    ∙ ap (λ ls. joined xs (links_from roles (length xs + 1) before ls)) is
    ∙ ap (joined xs) (first-line roles (length xs + 1) before line lines (Err cause) bad)

pub ends : (roles : List Role) (words : List Named) (bytes : List ℕ) (xs : List (List (List ℕ))) (before : List Named) (rest : List ℕ)
    → length rest ≡ 0 → Goes roles words bytes xs before rest → links_from roles 1 words (lines_of bytes) ≡ Ok xs
unfolding lines_of links_from
ends roles words bytes xs before [] none goes = sym goes ∙ ap Ok (append-nil xs)
ends roles words bytes xs before (b ∷ bs) none goes = absurd (omega (arith, none))

-- ---- one line

-- a line that is not one of those that are too many
within : (roles : List Role) (n : ℕ) (before : List Named) (line : Line) → n < 64
    → line_at roles (n + 1) before line ≡ without_clash roles before (names_in (length roles) line)
unfolding line_at
within roles n before line few = go (nat_lt most_links (n + 1)) refl
  where
    go : (t : Bool) → nat_lt most_links (n + 1) ≡ t
        → cond t (Err cause.Count) (without_clash roles before (names_in (length roles) line))
        ≡ without_clash roles before (names_in (length roles) line)
    go false h = refl
    go true h = absurd (grind (arith, nat_tests))

pub too-many : (roles : List Role) (n : ℕ) (before : List Named) (line : Line) → n ≡ 64 → line_at roles (n + 1) before line ≡ Err cause.Count
unfolding line_at
too-many roles n before line all = go (nat_lt most_links (n + 1)) refl
  where
    go : (t : Bool) → nat_lt most_links (n + 1) ≡ t
        → cond t (Err cause.Count) (without_clash roles before (names_in (length roles) line)) ≡ Err cause.Count
    go true h = refl
    go false h = absurd (grind (arith, nat_tests))

pub no-names : (roles : List Role) (n : ℕ) (before : List Named) (line : Line) → n < 64 → None ≡ names_in (length roles) line
    → line_at roles (n + 1) before line ≡ Err cause.Line
no-names roles n before line few none = within roles n before line few ∙ ap (without_clash roles before) (sym none)

-- one that no line feed ends has no names
pub no-text : (roles : List Role) (n : ℕ) (before : List Named) (text : List ℕ) → n < 64 → line_at roles (n + 1) before (Open text) ≡ Err cause.Line
unfolding names_in
no-text roles n before text few = within roles n before (Open text) few

clash-cases : (roles : List Role) (n : ℕ) (before : List Named) (line : Line) (names : List (List ℕ)) (t : Bool) → n < 64
    → Some names ≡ names_in (length roles) line → has_clash (before ++ with_roles roles names) ≡ t
    → line_at roles (n + 1) before line ≡ cond t (Err cause.Output) (Ok names)
clash-cases roles n before line names t few some e =
    within roles n before line few ∙ ap (without_clash roles before) (sym some) ∙ ap (λ t. cond t (Err cause.Output) (Ok names)) e

pub clashes : (roles : List Role) (n : ℕ) (before : List Named) (line : Line) (names : List (List ℕ)) → n < 64
    → Some names ≡ names_in (length roles) line → has_clash (before ++ with_roles roles names) ≡ true
    → line_at roles (n + 1) before line ≡ Err cause.Output
clashes roles n before line names few some e = clash-cases roles n before line names true few some e

pub good : (roles : List Role) (n : ℕ) (before : List Named) (line : Line) (names : List (List ℕ)) → n < 64
    → Some names ≡ names_in (length roles) line → has_clash (before ++ with_roles roles names) ≡ false
    → line_at roles (n + 1) before line ≡ Ok names
good roles n before line names few some e = clash-cases roles n before line names false few some e

-- ---- the whole text

pub none-at-all : (given : Given) (bytes : List ℕ) → length bytes ≡ 0 → links_of given bytes ≡ Err (record { line = 1; cause = cause.Count })
unfolding lines_of
none-at-all given [] none = refl
none-at-all given (b ∷ bs) none = absurd (omega (arith, none))

pub some : (given : Given) (bytes : List ℕ) → 0 < length bytes
    → links_of given bytes ≡ links_from (roles_for given.evidence) 1 (names_of_words given) (lines_of bytes)
some given bytes here = go (lines_of bytes) (first-of bytes here)
  where
    go : (all : List Line) → (line : Line) × (lines : List Line) × (all ≡ line ∷ lines)
        → some_lines given all ≡ links_from (roles_for given.evidence) 1 (names_of_words given) all
    go (line ∷ lines) first = refl
    go [] (line, lines, is) = absurd (cc (is))

-- ---- as the code has them

abbrev pub texts : List (Vec (Bor (List ℕ)) Global) → List (List (List ℕ))
texts lines = map (λ line. map (λ n. n.now) line.items) lines

pub full : (n : ℕ) → (n == 0) ≡ false → 0 < n
full zero h = absurd (cc)
full (suc n) h = omega arith

-- a line behind n good ones is wrong
pub refused : (given : Given) (bytes : List ℕ) (xs : List (List (List ℕ))) (before : List Named) (rest : List ℕ) (line : Line) (lines : List Line)
    (cause : LinkCause) (n : ℕ)
    → 0 < length bytes → n ≡ length xs → lines_of rest ≡ line ∷ lines → line_at (roles_for given.evidence) (n + 1) before line ≡ Err cause
    → Goes (roles_for given.evidence) (names_of_words given) bytes xs before rest
    → links_of given bytes ≡ Err (record { line = n + 1; cause = cause })
refused given bytes xs before rest line lines cause n here count is bad goes =
    some given bytes here
    ∙ stops (roles_for given.evidence) (names_of_words given) bytes xs before rest line lines cause is
    (ap (λ n. line_at (roles_for given.evidence) (n + 1) before line) (sym count) ∙ bad) goes
    ∙ ap (λ n. Err (record { line = n + 1; cause = cause })) (sym count)

-- what was added to the names, where the roles and the names are lent
pub added : (roles lent : List Role) (before : List Named) (names : List (List ℕ)) (now : List Named) → lent ≡ roles
    → now ≡ before ++ with_roles lent names → now ≡ before ++ with_roles roles names
added roles lent before names now same is = is ∙ ap (λ rs. before ++ with_roles rs names) same

pub shorter : (rest text behind : List ℕ) → lines_of rest ≡ Ended text ∷ lines_of behind → length (lines_of behind) < length (lines_of rest)
shorter rest text behind is = let count : length (lines_of rest) ≡ suc (length (lines_of behind)) = ap length is in omega (arith, count)

pub fewer : (n : ℕ) → n ≤ 64 → (n ≡ 64 → ⊥) → n < 64
fewer n most other =
    elim (cases_Bool (n == 64)) [
      | inl all ↦ absurd (other (eqb-true n 64 all))
      | inr less ↦ grind (arith, nat_tests)
    ]
