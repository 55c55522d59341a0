-- The rules that clap settles for a form: each id once, each long name once, the places numbered from 1.
use Rattle.std.proofs.Common.{◌≡◌, ◌∙◌, ◌+◌, ◌<◌, ℕ, suc, Bool, true, false, refl, sym, ap, ap₂, subst, List, [], ◌∷◌, ◌++◌, length, Option, Some, None, arith, map}
use Rattle.std.specs.Prelude.{min, not, ◌==◌, is_some}
use Rattle.std.specs.Option.{option_map_or}
use Rattle.std.specs.Str.{bytes_eq}
use Rattle.std.proofs.lemmas.List.{map-append}
use Rattle.std.proofs.lemmas.Bool.{and_parts, both_ways, eqb-true}
use Rattle.clap.specs.Lexer.{usize_max}
use Rattle.clap.specs.Kinds.{Kinds, or_else}
use Rattle.clap.specs.Faults.{repeat_fault}
use Rattle.clap.specs.Walk.{Rule, Text, arg_by_id, arg_by_short}
use Rattle.clap.specs.Simple.{filled, filled_from, with_index}
use Rattle.cmd_reading.specs.Form.{WordForm, IsForm, names_of_form, is_distinct}
use Rattle.cmd_reading.specs.FormApp.{place_rule, option_rule, form_rules}
use Rattle.cmd_reading.proofs.Members.{In, distinct-parts, find-in, here, in-map, later, none-in, same-text}
use Rattle.cmd_reading.proofs.Walks.{AllSettled, IsOne, IsPlain, IsSettled}

-- ---- the settled rules

abbrev pub settled_place : ℕ → Text → Rule
settled_place k id = with_index k (filled (place_rule id))

abbrev pub settled_option : Bool → Text → Rule
settled_option required id = with_index 0 (filled (option_rule required id))

abbrev pub places_from : ℕ → List Text → List Rule
places_from k [] = []
places_from k (id ∷ ids) = settled_place k id ∷ places_from (k + 1) ids

abbrev pub settled_rules : WordForm → List Rule
settled_rules f = places_from 1 f.places ++ (map (settled_option true) f.needed ++ map (settled_option false) f.free)

next_index : (k : ℕ) → k < 1000 → min (k + 1) usize_max ≡ k + 1
next_index k l = omega (arith, l)

filled-options : (r : Bool) (k : ℕ) (ids : List Text) → filled_from k (map (option_rule r) ids) ≡ map (settled_option r) ids
filled-options r k [] = refl
filled-options r k (id ∷ ids) = ap (λ (c : List Rule). settled_option r id ∷ c) (filled-options r k ids)

filled-options-then : (r : Bool) (k : ℕ) (ids : List Text) (rest : List Rule)
    → filled_from k (map (option_rule r) ids ++ rest) ≡ map (settled_option r) ids ++ filled_from k rest
filled-options-then r k [] rest = refl
filled-options-then r k (id ∷ ids) rest = ap (λ (c : List Rule). settled_option r id ∷ c) (filled-options-then r k ids rest)

filled-places : (k : ℕ) (ids : List Text) (rest : List Rule) (done : List Rule) → k + length ids < 1000 → ((j : ℕ) → filled_from j rest ≡ done)
    → filled_from k (map place_rule ids ++ rest) ≡ places_from k ids ++ done
filled-places k [] rest done l e = e k
filled-places k (id ∷ ids) rest done l e =
    ap (λ (c : List Rule). settled_place k id ∷ c)
    (ap (λ j. filled_from j (map place_rule ids ++ rest)) (next_index k (omega (arith, l)))
    ∙ filled-places (k + 1) ids rest done (omega (arith, l)) e)

pub form-filled : (f : WordForm) → IsForm f → filled_from 1 (form_rules f) ≡ settled_rules f
form-filled f h = filled-places 1 f.places _ _ (let l = h.few in omega (arith, l))
    (λ j. filled-options-then true j f.needed _ ∙ ap (λ c. map (settled_option true) f.needed ++ c) (filled-options false j f.free))

-- ---- what each of them is

or-nil : (k : Kinds) → or_else k [] ≡ k
or-nil = elim [ [] ↦ refl | x ∷ xs ↦ refl ]

-- an option or a place, whatever its long name and its number
settled : (l : Option Text) (r : Bool) (n : Option ℕ) (id : Text)
    → ((i : ℕ) → option_map_or (λ k. k == i) n false ≡ true → min (i + 1) usize_max ≡ suc i)
    → IsSettled (record (settled_option false id) { long = l; required = r; index = n })
settled l r n id index = record {
  takes = refl;
  several = refl;
  append = refl;
  trailing = refl;
  most = refl;
  none = λ rows. refl;
  once = λ v rows. or-nil (repeat_fault false id rows);
  used_once = λ v rows. refl;
  short = λ x. refl;
  defaults = refl;
  simple = refl;
  free = refl;
  index = index;
}

place-settled : (k : ℕ) (id : Text) → k < 1000 → IsSettled (settled_place k id)
place-settled k id l = settled None true (Some k) id (λ i e. let same : k ≡ i = eqb-true k i e in omega (arith, l, same))

all-append : (c d : List Rule) → AllSettled c → AllSettled d → AllSettled (c ++ d)
all-append [] d h k = k
all-append (a ∷ c) d h k = (h.0, all-append c d h.1 k)

all-places : (k : ℕ) (ids : List Text) → k + length ids < 1000 → AllSettled (places_from k ids)
all-places k [] l = tt
all-places k (id ∷ ids) l = (place-settled k id (omega (arith, l)), all-places (k + 1) ids (omega (arith, l)))

all-options : (r : Bool) (ids : List Text) → AllSettled (map (settled_option r) ids)
all-options r [] = tt
all-options r (id ∷ ids) = (settled (Some id) r None id (λ i e. absurd (cc)), all-options r ids)

pub form-settled : (f : WordForm) → IsForm f → AllSettled (settled_rules f)
form-settled f h =
    all-append (places_from 1 f.places) _ (all-places 1 f.places (let l = h.few in omega (arith, l)))
    (all-append (map (settled_option true) f.needed) _ (all-options true f.needed) (all-options false f.free))

-- ---- their ids

abbrev ids_of : List Rule → List Text
ids_of c = map (λ (a : Rule). a.id) c

ids-places : (k : ℕ) (ids : List Text) → ids_of (places_from k ids) ≡ ids
ids-places k [] = refl
ids-places k (id ∷ ids) = ap (λ (c : List Text). id ∷ c) (ids-places (k + 1) ids)

ids-options : (r : Bool) (ids : List Text) → ids_of (map (settled_option r) ids) ≡ ids
ids-options r [] = refl
ids-options r (id ∷ ids) = ap (λ (c : List Text). id ∷ c) (ids-options r ids)

form-ids : (f : WordForm) → ids_of (settled_rules f) ≡ names_of_form f
form-ids f =
    map-append (λ (a : Rule). a.id) (places_from 1 f.places) _
    ∙ ap₂ (λ (x y : List Text). x ++ y) (ids-places 1 f.places)
    (map-append (λ (a : Rule). a.id) (map (settled_option true) f.needed) _
    ∙ ap₂ (λ (x y : List Text). x ++ y) (ids-options true f.needed) (ids-options false f.free))

-- ---- a list of settled rules of distinct ids is plain

settled-in : {a : Rule} {c : List Rule} → In a c → AllSettled c → IsSettled a
settled-in here h = h.0
settled-in (later i) h = settled-in i h.1

found-by-id : {a : Rule} {c : List Rule} → In a c → is_distinct (ids_of c) ≡ true → arg_by_id c a.id ≡ Some a
found-by-id {a} here e = rw (same-text a.id) refl
found-by-id {a} (later {b} {c} i) e =
    let parts = distinct-parts b.id (ids_of c) e in
    rw (none-in (bytes_eq b.id) (in-map (λ (d : Rule). d.id) i) parts.0) (found-by-id i parts.1)

module _ (c : List Rule) (all : AllSettled c) (distinct : is_distinct (ids_of c) ≡ true) where
  one-in : {a : Rule} → In a c → IsOne c a
  one-in i = record { by_id = found-by-id i distinct; is = settled-in i all }

  no-short : (x : ℕ) (o : Option Rule) → arg_by_short c x ≡ o → o ≡ None
  no-short x None e = refl
  no-short x (Some a) e =
      let f = find-in _ c e in
      absurd (both_ways _ ((settled-in f.0 all).short x) (and_parts (not (is_some a.index)) _ f.1).1)

  settled-plain : IsPlain c
  settled-plain = record {
    long = λ x a e. one-in (find-in _ c e).0;
    place = λ i a e. let f = find-in _ c e in (one-in f.0, (settled-in f.0 all).index i f.1);
    short = λ x. no-short x (arg_by_short c x) refl;
  }

pub form-plain : (f : WordForm) → IsForm f → IsPlain (filled_from 1 (form_rules f))
form-plain f h =
    subst IsPlain (sym (form-filled f h))
    (settled-plain (settled_rules f) (form-settled f h) (ap is_distinct (form-ids f) ∙ h.distinct))
