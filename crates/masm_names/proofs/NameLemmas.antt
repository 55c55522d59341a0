-- The places of names, as names come in.
use Rattle.std.proofs.Common.{◌≡◌, ℕ, suc, ◌+◌, ◌<◌, Bool, true, false, cond, List, [], ◌∷◌, ◌++◌, map, take, get_or, length, Option, Some, None, Vec, Global, refl, ap, ◌∙◌, bytes_eq, is_some, add-one, sym, arith}
use Rattle.std.proofs.lemmas.Cmp.{nat_list_eq_equiv}
use Rattle.std.proofs.lemmas.List.{map_more, length-map, length-take-le}
use Rattle.std.proofs.lemmas.Simd.{map-map}
use Rattle.std.specs.Map.{lookup}
use Rattle.std.specs.Option.{option_or, option_map}
use Rattle.indexmap.specs.IndexMap.{IndexMap, get_by, insert_entry}
use Rattle.indexmap.proofs.CallerLemmas.{insert_entry-new}
use Rattle.masm_tree.specs.declared.tree.Proc.{Proc}
use Rattle.masm_tree.specs.Trees.{Procedure}
use Rattle.masm_tree.specs.Views.{procedure_of}
use Rattle.masm_names.specs.Uses.{place_in, first_place}

pub none_from : {X : Type 0} (x : Option X) → is_some x ≡ false → x ≡ None
none_from None e = refl
none_from (Some v) e = cc

choice : {X : Type 0} (test : Bool) (v : X) (later added : Option X)
    → cond test (Some v) (option_or later added) ≡ option_or (cond test (Some v) later) added
choice true v later added = refl
choice false v later added = refl

lookup-push : {K X : Type 0} (test : K → Bool) (es : List (K × X)) (k : K) (v : X)
    → lookup test (es ++ (k, v) ∷ []) ≡ option_or (lookup test es) (cond (test k) (Some v) None)
lookup-push test [] k v = refl
lookup-push test (e ∷ es) k v = ap (λ r. cond (test e.0) (Some e.1) r) (lookup-push test es k v) ∙ choice (test e.0) e.1 (lookup test es) _

-- the places after a name came in that had none
pub place-added : {S : Type 0} (old new : IndexMap (Vec ℕ Global) ℕ S) (key : Vec ℕ Global) (name text : List ℕ) (place : ℕ) → key.items ≡ name
    → new.entries ≡ insert_entry (λ x y. bytes_eq x.items y.items) old.entries key place
    → is_some (get_by (λ k. bytes_eq name k.items) old) ≡ false
    → get_by (λ k. bytes_eq text k.items) new ≡ option_or (get_by (λ k. bytes_eq text k.items) old) (cond (bytes_eq name text) (Some place) None)
place-added old new key name text place is_name inserted absent =
    let none : get_by (λ k. bytes_eq key.items k.items) old ≡ None = rw is_name (none_from _ absent) in
    ap (lookup (λ k. bytes_eq text k.items)) (inserted ∙ insert_entry-new (λ x y. bytes_eq x.items y.items) old key place none)
    ∙ (lookup-push (λ k. bytes_eq text k.items) old.entries key place
    ∙ ap (λ b. option_or (get_by (λ k. bytes_eq text k.items) old) (cond b (Some place) None))
    (ap (bytes_eq text) is_name ∙ nat_list_eq_equiv.symm text name))

one_more : (later : Option ℕ) (test : Bool) (n : ℕ)
    → option_map (λ i. i + 1) (option_or later (cond test (Some n) None)) ≡ option_or (option_map (λ i. i + 1) later) (cond test (Some (suc n)) None)
one_more None true n = rw add-one refl
one_more None false n = refl
one_more (Some k) test n = refl

-- the places after a name came in
place_in-push : (names : List (List ℕ)) (name text : List ℕ)
    → place_in (names ++ name ∷ []) text ≡ option_or (place_in names text) (cond (bytes_eq name text) (Some (length names)) None)
place_in-push [] name text = refl
place_in-push (n ∷ names) name text =
    ap (λ r. cond (bytes_eq n text) (Some 0) (option_map (λ i. i + 1) r)) (place_in-push names name text)
    ∙ (ap (λ r. cond (bytes_eq n text) (Some 0) r) (one_more (place_in names text) (bytes_eq name text) (length names))
    ∙ choice (bytes_eq n text) 0 (option_map (λ i. i + 1) (place_in names text)) _)

-- the places of one more of a list's names
pub place_in-more : {X : Type 0} (name : X → List ℕ) (items : List X) (i : ℕ) (d : X) (text : List ℕ) → i < length items
    → place_in (map name (take (i + 1) items)) text
    ≡ option_or (place_in (map name (take i items)) text) (cond (bytes_eq (name (get_or items i d)) text) (Some i) None)
place_in-more name items i d text within =
    ap (λ names. place_in names text) (map_more name items i d within)
    ∙ (place_in-push (map name (take i items)) (name (get_or items i d)) text
    ∙ ap (λ n. option_or (place_in (map name (take i items)) text) (cond (bytes_eq (name (get_or items i d)) text) (Some n) None))
    (length-map (take i items) name ∙ length-take-le i items (omega arith)))

-- the places of the procedures' names
pub names_places : (f : List ℕ → Option ℕ) (xs procs : List Proc) → xs ≡ procs → ((name : List ℕ) → f name ≡ place_in (map (λ p. p.name) xs) name)
    → (name : List ℕ) → f name ≡ first_place (map procedure_of procs) name
names_places f xs procs same places name =
    places name ∙ ap (λ names. place_in names name) (ap (map (λ p. p.name)) same ∙ sym (map-map (λ (q : Procedure). q.name) procedure_of procs))
