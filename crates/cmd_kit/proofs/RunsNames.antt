-- What a list of runs says of its names: no file that is written has another name of the list or of the words.
use Rattle.std.proofs.lemmas.Bool.{or_parts}
use Rattle.cmd_kit.proofs.Words.{◌≡◌, ◌≢◌, ℕ, false, ◌||◌, List, [], ◌∷◌, map, None, Ok, sym, ◌∙◌, arith, AllByRecursion, flat_map}
use Rattle.cmd_kit.proofs.Words.{list_any, bytes_eq, false≢true, bytes_eq-Decides, Input, Output, IsLine, IsList, links_of, reads-its-text, AreLinksApart}
use Rattle.cmd_kit.proofs.Words.{IsBeside, IsUnwritten, run_link, runs_given}
use Rattle.run_chain.specs.declared.naming.Role.{Role}
use Rattle.run_chain.specs.Names.{Named, has_clash, is_clash, named, roles_for, with_roles}

-- names that a test tells apart differ
differ : (a b : List ℕ) → bytes_eq a b ≡ false → a ≢ b
differ a b apart same = false≢true (sym apart ∙ (bytes_eq-Decides a b).1 same)

abbrev roles : List Role
roles = roles_for None

abbrev all_names : List (List (List ℕ)) → List Named
all_names lines = flat_map (with_roles roles) lines

abbrev AreLines : List (List (List ℕ)) → Type 0
AreLines lines = AllByRecursion (IsLine 4) lines

-- of a name that is written no other is the same
beside : (name : List ℕ) (lines : List (List (List ℕ))) → AreLines lines → list_any (is_clash (named Output name)) (all_names lines) ≡ false
    → AllByRecursion (IsBeside name) (map run_link lines)
beside name [] each none = tt
beside name ((s ∷ i ∷ t ∷ u ∷ []) ∷ lines) each none =
    let a = or_parts (bytes_eq name s) _ none in
    let b = or_parts (bytes_eq name i) _ a.1 in
    let c = or_parts (bytes_eq name t) _ b.1 in
    let d = or_parts (bytes_eq name u) _ c.1 in (
      record { source = differ name s a.0; inputs = differ name i b.0; table = differ name t c.0; statement = differ name u d.0 },
      beside name lines each.1 d.1,
    )
beside name (names ∷ lines) each none = absurd (omega (arith, each.0.many))

-- a name that is read is none that is written
unwritten : (name : List ℕ) (lines : List (List (List ℕ))) → AreLines lines → list_any (is_clash (named Input name)) (all_names lines) ≡ false
    → AllByRecursion (IsUnwritten name) (map run_link lines)
unwritten name [] each none = tt
unwritten name ((s ∷ i ∷ t ∷ u ∷ []) ∷ lines) each none =
    let a = or_parts (bytes_eq name t) _ none in
    let b = or_parts (bytes_eq name u) _ a.1 in
    (record { table = differ name t a.0; statement = differ name u b.0 }, unwritten name lines each.1 b.1)
unwritten name (names ∷ lines) each none = absurd (omega (arith, each.0.many))

links_apart : (lines : List (List (List ℕ))) → AreLines lines → has_clash (all_names lines) ≡ false → AreLinksApart (map run_link lines)
links_apart [] each none = tt
links_apart ((s ∷ i ∷ t ∷ u ∷ []) ∷ lines) each none =
    let rest : List Named = all_names lines in
    let a = or_parts (list_any (is_clash (named Input s)) (named Input i ∷ named Output t ∷ named Output u ∷ rest)) _ none in
    let b = or_parts (list_any (is_clash (named Input i)) (named Output t ∷ named Output u ∷ rest)) _ a.1 in
    let c = or_parts (list_any (is_clash (named Output t)) (named Output u ∷ rest)) _ b.1 in
    let d = or_parts (list_any (is_clash (named Output u)) rest) _ c.1 in
    let e = or_parts (bytes_eq t u) _ c.0 in
    (differ t u e.0, beside t lines each.1 e.1, beside u lines each.1 d.0, links_apart lines each.1 d.1)
links_apart (names ∷ lines) each none = absurd (omega (arith, each.0.many))

module _ (params list bytes : List ℕ) (lines : List (List (List ℕ))) (says : links_of (runs_given params list) bytes ≡ Ok lines) where
  pub is_list : IsList (runs_given params list) lines
  is_list = ((reads-its-text (runs_given params list) bytes lines).0 says).0

  apart : (list_any (is_clash (named Input params)) (named Input list ∷ all_names lines) ≡ false)
      × (list_any (is_clash (named Input list)) (all_names lines) || has_clash (all_names lines) ≡ false)
  apart = or_parts (list_any (is_clash (named Input params)) (named Input list ∷ all_names lines)) _ is_list.apart

  -- no link writes the parameters,
  pub params_unwritten : AllByRecursion (IsUnwritten params) (map run_link lines)
  params_unwritten = unwritten params lines is_list.each apart.0

  -- or what another one reads or writes
  pub lines_apart : AreLinksApart (map run_link lines)
  lines_apart = links_apart lines is_list.each (or_parts (list_any (is_clash (named Input list)) (all_names lines)) _ apart.1).1
