-- A library in memory: its names, their places and its procedures.
use Rattle.std.proofs.Common.{◌≡◌, ◌↔◌, ℕ, zero, suc, ◌+◌, ◌<◌, ◌≤◌, Bool, true, false, cond, ◌&&◌, ◌||◌, nat_lt, List, [], ◌∷◌, ◌++◌, map, length, take, get_or, replicate, append-nil, set, slice_get, position, Option, Some, None, inl, inr, Vec, Global, refl, sym, ap, ap₂, subst, ◌∙◌, bytes_eq, is_some, not, arith}
use Rattle.std.proofs.lemmas.Bool.{cases_Bool}
use Rattle.std.proofs.lemmas.Bool.Decides.{nat_tests}
use Rattle.std.proofs.lemmas.Cmp.{nat_list_eq_equiv}
use Rattle.std.proofs.lemmas.List.{append_assoc, get_or-map, map-append, map_more, take_all}
use Rattle.std.proofs.lemmas.List.Elements.{filter_more}
use Rattle.std.proofs.lemmas.List.Folds.{list_all-append, list_any-append}
use Rattle.std.proofs.lemmas.Map.Keys.{IsDistinct-head, IsDistinct-tail}
use Rattle.std.proofs.lemmas.Option.{same_Some, slice_get-get_or}
use Rattle.std.proofs.lemmas.Slice.Eq.{bytes_eq-Decides}
use Rattle.std.specs.List.{AllByRecursion, IsDistinct, filter, list_all, position_or_len}
use Rattle.std.specs.Map.{keys_of, lookup}
use Rattle.std.specs.Option.{option_map}
use Rattle.indexmap.specs.IndexMap.{IndexMap, insert_entry}
use Rattle.indexmap.proofs.CallerLemmas.{insert_entry-new}
use Rattle.masm_instr.specs.Instructions.{Instruction}
use Rattle.masm_tree.specs.declared.terminal.Leaf.TheVariants as leaves
use Rattle.masm_tree.specs.declared.tree.Ast.{Ast}
use Rattle.masm_tree.specs.declared.tree.Proc.{Proc}
use Rattle.masm_tree.specs.Trees.{Body, Leaf_then, Procedure, append}
use Rattle.masm_tree.specs.Views.{procedure_of, source_of}
use Rattle.masm_names.proofs.NameLemmas.{none_from}
use Rattle.masm_names.specs.Uses.{place_in}
use Rattle.masm_uses.proofs.UsedLemmas.{mapped, named_at}
use Rattle.masm_link.specs.Libraries.{LibraryProcedure, is_plain, are_plain, is_among, has_name, defines, library_of, nowhere, plain_body, procedure_in, with_library}

abbrev Entry : Type 0
Entry = Vec ℕ Global × Vec Instruction Global

abbrev is_key : List ℕ → Vec ℕ Global → Bool
is_key name key = bytes_eq name key.items

abbrev pub same_key : Vec ℕ Global → Vec ℕ Global → Bool
same_key x y = bytes_eq x.items y.items

-- a name is looked up where a procedure has it
pub looked_up : (entries : List Entry) (name : List ℕ) → is_some (lookup (is_key name) entries) ≡ has_name (library_of entries) name
looked_up [] name = refl
looked_up (e ∷ entries) name =
    by (bytes_eq name e.0.items) (looked_up entries name)
    ∙ ap (λ b. b || has_name (library_of entries) name) (nat_list_eq_equiv.symm name e.0.items)
  where
    by : (b : Bool) → is_some (lookup (is_key name) entries) ≡ has_name (library_of entries) name
        → is_some (cond b (Some e.1) (lookup (is_key name) entries)) ≡ (b || has_name (library_of entries) name)
    by true later = refl
    by false later = later

-- a new procedure stands at the end
pub added : {S : Type 0} (old new : IndexMap (Vec ℕ Global) (Vec Instruction Global) S) (key : Vec ℕ Global) (instructions : Vec Instruction Global)
    (name : List ℕ) → key.items ≡ name → new.entries ≡ insert_entry same_key old.entries key instructions → has_name (library_of old.entries) name ≡ false
    → library_of new.entries ≡ library_of old.entries ++ record { name = name; instructions = instructions.items } ∷ []
added old new key instructions name is_name inserted absent =
    let unnamed = looked_up old.entries key.items ∙ ap (has_name (library_of old.entries)) is_name ∙ absent in
    let none : lookup (is_key key.items) old.entries ≡ None = none_from _ unnamed in
    ap library_of (inserted ∙ insert_entry-new same_key old key instructions none)
    ∙ (map-append (λ (e : Entry). record { name = e.0.items; instructions = e.1.items }) old.entries ((key, instructions) ∷ [])
    ∙ ap (λ n. library_of old.entries ++ record { name = n; instructions = instructions.items } ∷ []) is_name)

pub plain_more : (library : List LibraryProcedure) (p : LibraryProcedure) → are_plain library ≡ true → list_all is_plain p.instructions ≡ true
    → are_plain (library ++ p ∷ []) ≡ true
plain_more library p all one =
    list_all-append (λ (q : LibraryProcedure). list_all is_plain q.instructions) library (p ∷ [])
    ∙ ap₂ (λ a b. a && (b && true)) all one

-- the place of a key is that of its name
position_cons : {X : Type 0} (test : X → Bool) (x : X) (xs : List X)
    → position test (x ∷ xs) ≡ cond (test x) (Some 0) (option_map (λ i. i + 1) (position test xs))
position_cons test x xs = by (test x) (position_or_len test xs)
  where
    by : (b : Bool) (n : ℕ) → cond (nat_lt (cond (not b) (1 + n) 0) (suc (length xs))) (Some (cond (not b) (1 + n) 0)) None
        ≡ cond b (Some 0) (option_map (λ i. i + 1) (cond (nat_lt n (length xs)) (Some n) None))
    by true n = grind (arith, nat_tests)
    by false n = grind (arith, nat_tests)

key_place : (entries : List Entry) (name : List ℕ)
    → position (is_key name) (keys_of entries) ≡ place_in (map (λ (p : LibraryProcedure). p.name) (library_of entries)) name
key_place [] name = refl
key_place (e ∷ entries) name =
    position_cons (is_key name) e.0 (keys_of entries)
    ∙ ap₂ (λ b o. cond b (Some 0) (option_map (λ i. i + 1) o)) (nat_list_eq_equiv.symm name e.0.items) (key_place entries name)

AreApart : List (List ℕ) → Type 0
AreApart [] = Unit {0}
AreApart (n ∷ names) = AllByRecursion (λ m. bytes_eq n m ≡ false) names × AreApart names

apart_at : (names : List (List ℕ)) (n name : List ℕ) (i : ℕ) → AllByRecursion (λ m. bytes_eq n m ≡ false) names
    → slice_get names i ≡ Some name → bytes_eq n name ≡ false
apart_at [] n name i all e = cc
apart_at (m ∷ names) n name zero all e = subst (λ k. bytes_eq n k ≡ false) (same_Some m name e) all.0
apart_at (m ∷ names) n name (suc i) all e = apart_at names n name i all.1 e

-- where no name stands twice, it is the only one
leads_place : (names : List (List ℕ)) (name : List ℕ) (i : ℕ) → AreApart names → slice_get names i ≡ Some name → place_in names name ≡ Some i
unfolding AreApart
leads_place [] name i apart e = cc
leads_place (n ∷ names) name zero apart e =
    ap (λ b. cond b (Some 0) (option_map (λ k. k + 1) (place_in names name))) ((bytes_eq-Decides n name).1 (same_Some n name e))
leads_place (n ∷ names) name (suc i) apart e =
    ap₂ (λ b o. cond b (Some 0) (option_map (λ k. k + 1) o)) (apart_at names n name i apart.0 e) (leads_place names name i apart.1 e)
    ∙ ap Some (let x = i in omega arith)

names_apart : (entries : List Entry) → IsDistinct same_key (keys_of entries) → AreApart (map (λ (p : LibraryProcedure). p.name) (library_of entries))
unfolding AreApart
names_apart [] distinct = tt
names_apart (e ∷ entries) distinct = (
  others entries (IsDistinct-head same_key e.0 (keys_of entries) distinct),
  names_apart entries (IsDistinct-tail same_key e.0 (keys_of entries) distinct),
)
  where
    others : (es : List Entry) → AllByRecursion (λ k. same_key e.0 k ≡ false) (keys_of es)
        → AllByRecursion (λ m. bytes_eq e.0.items m ≡ false) (map (λ (p : LibraryProcedure). p.name) (library_of es))
    others [] all = tt
    others (f ∷ es) all = (all.0, others es all.1)

pub placed : (entries : List Entry) (name : List ℕ) (found : Option ℕ) → IsDistinct same_key (keys_of entries)
    → found ≡ position (is_key name) (keys_of entries) → (place : ℕ) → (found ≡ Some place) ↔ (slice_get (map (λ (p : LibraryProcedure). p.name) (library_of entries)) place ≡ Some name)
placed entries name found distinct is place =
    let names = map (λ (p : LibraryProcedure). p.name) (library_of entries) in (
      λ e. named_at names name place (sym (key_place entries name) ∙ (sym is ∙ e)),
      λ e. is ∙ (key_place entries name ∙ leads_place names name place (names_apart entries distinct) e),
    )

-- The marks of the procedures whose names stand among others.
abbrev pub marks : List (List ℕ) → List LibraryProcedure → List Bool
marks others library = map (λ (p : LibraryProcedure). is_among others p.name) library

pub marks_none : (library : List LibraryProcedure) → replicate (length library) false ≡ marks [] library
marks_none [] = refl
marks_none (p ∷ library) = ap (λ bs. false ∷ bs) (marks_none library)

mark_more : (others : List (List ℕ)) (name n : List ℕ) → is_among (others ++ name ∷ []) n ≡ (is_among others n || (bytes_eq name n || false))
mark_more others name n = list_any-append (λ m. bytes_eq m n) others (name ∷ [])

or_false : (b : Bool) → (b || (false || false)) ≡ b
or_false true = refl
or_false false = refl

or_true : (b : Bool) → (b || (true || false)) ≡ true
or_true true = refl
or_true false = refl

unmarked : (others : List (List ℕ)) (name n : List ℕ) → ¬ (n ≡ name) → is_among (others ++ name ∷ []) n ≡ is_among others n
unmarked others name n differ = elim (cases_Bool (bytes_eq name n)) [
  | inl same ↦ absurd (differ (sym ((bytes_eq-Decides name n).0 same)))
  | inr other ↦ mark_more others name n ∙ (ap (λ b. is_among others n || (b || false)) other ∙ or_false (is_among others n))
]

pub marks_nowhere : (library : List LibraryProcedure) (others : List (List ℕ)) (name : List ℕ)
    → ((i : ℕ) → ¬ (slice_get (map (λ (p : LibraryProcedure). p.name) library) i ≡ Some name)) → marks (others ++ name ∷ []) library ≡ marks others library
marks_nowhere [] others name none = refl
marks_nowhere (p ∷ library) others name none =
    ap₂ (λ b bs. b ∷ bs) (unmarked others name p.name (λ same. none 0 (ap Some same))) (marks_nowhere library others name (λ i e. none (suc i) e))

pub marks_at : (library : List LibraryProcedure) (others : List (List ℕ)) (name : List ℕ) (place : ℕ)
    → slice_get (map (λ (p : LibraryProcedure). p.name) library) place ≡ Some name
    → ((i : ℕ) → slice_get (map (λ (p : LibraryProcedure). p.name) library) i ≡ Some name → place ≡ i)
    → marks (others ++ name ∷ []) library ≡ set (marks others library) place true
marks_at [] others name place here only = cc
marks_at (p ∷ library) others name zero here only =
    let marked : is_among (others ++ name ∷ []) p.name ≡ true =
    mark_more others name p.name
    ∙ (ap (λ b. is_among others p.name || (b || false)) ((bytes_eq-Decides name p.name).1 (sym (same_Some p.name name here)))
    ∙ or_true (is_among others p.name)) in
    ap₂ (λ b bs. b ∷ bs) marked (marks_nowhere library others name (λ i e. let wrong = only (suc i) e in omega arith))
marks_at (p ∷ library) others name (suc place) here only =
    ap₂ (λ b bs. b ∷ bs) (unmarked others name p.name (λ same. let wrong = only 0 (ap Some same) in omega arith))
    (marks_at library others name place here (λ i e. let next = only (suc i) e in omega arith))

-- the names of one procedure more
names_more : (procs : List Proc) (i : ℕ) (q : Proc) (name : List ℕ) → i < length procs → q ≡ get_or procs i q → name ≡ q.name
    → map (λ (p : Procedure). p.name) (map procedure_of (take (i + 1) procs))
    ≡ map (λ (p : Procedure). p.name) (map procedure_of (take i procs)) ++ name ∷ []
names_more procs i q name within is named =
    ap (map (λ (p : Procedure). p.name)) (map_more procedure_of procs i q within)
    ∙ (map-append (λ (p : Procedure). p.name) (map procedure_of (take i procs)) (procedure_of (get_or procs i q) ∷ [])
    ∙ ap (λ n. map (λ (p : Procedure). p.name) (map procedure_of (take i procs)) ++ n ∷ []) (sym (named ∙ ap (λ (r : Proc). r.name) is)))

-- the marks behind one procedure more, whose name is that of the library's procedure at a place, or of none
module _ (library : List LibraryProcedure) (procs : List Proc) (i : ℕ) (q : Proc) (name : List ℕ) (within : i < length procs) (is : q ≡ get_or procs i q)
    (named : name ≡ q.name) (found : Option ℕ)
    (leads : (place : ℕ) → (found ≡ Some place) ↔ (slice_get (map (λ (p : LibraryProcedure). p.name) library) place ≡ Some name)) where
  abbrev names_before : List (List ℕ)
  names_before = map (λ (p : Procedure). p.name) (map procedure_of (take i procs))

  pub marked : (old : List Bool) (place : ℕ) → found ≡ Some place → old ≡ marks names_before library
      → set old place true ≡ map (λ (p : LibraryProcedure). defines (map procedure_of (take (i + 1) procs)) p.name) library
  marked old place there before =
      ap (λ bs. set bs place true) before
      ∙ sym (ap (λ ns. marks ns library) (names_more procs i q name within is named)
      ∙ marks_at library names_before name place ((leads place).0 there) (λ k e. same_Some place k (sym there ∙ (leads k).1 e)))

  pub not_marked : (old : List Bool) → found ≡ None → old ≡ marks names_before library
      → old ≡ map (λ (p : LibraryProcedure). defines (map procedure_of (take (i + 1) procs)) p.name) library
  not_marked old nowhere' before =
      before
      ∙ sym (ap (λ ns. marks ns library) (names_more procs i q name within is named)
      ∙ marks_nowhere library names_before name (λ k e. let there = (leads k).1 e in cc))

-- a procedure of the library as one of a source
pub procedure_at : (entries : List Entry) (place : ℕ) (key : Vec ℕ Global) (instructions : Vec Instruction Global) (library : List LibraryProcedure)
    → library_of entries ≡ library → slice_get entries place ≡ Some (key, instructions) → (name : List ℕ) → name ≡ key.items
    → (body : Body) → body ≡ plain_body instructions.items
    → slice_get (map procedure_in library) place
    ≡ Some (record { name = name; locals = 0; exported = false; body = body; line = 0; column = 0 })
procedure_at entries place key instructions library view at name is_name body is_body =
    ap (λ l. slice_get (map procedure_in l) place) (sym view)
    ∙ (mapped procedure_in (library_of entries) place (record { name = key.items; instructions = instructions.items })
    (mapped (λ (e : Entry). record { name = e.0.items; instructions = e.1.items }) entries place (key, instructions) at)
    ∙ ap₂ (λ n b. Some (record { name = n; locals = 0; exported = false; body = b; line = 0; column = 0 })) (sym is_name) (sym is_body))

-- The whole of a source and the library, as its procedures come in.
module _ (library : List LibraryProcedure) (own : List Procedure) where
  abbrev keep : LibraryProcedure → Bool
  keep p = not (defines own p.name)

  abbrev nothing : LibraryProcedure
  nothing = record { name = []; instructions = [] }

  module _ (i : ℕ) (hides : List Bool) (within : i < length library)
      (are : hides ≡ map (λ (p : LibraryProcedure). defines own p.name) library) (now : List Procedure)
      (before : now ≡ own ++ map procedure_in (filter keep (take i library))) where
    abbrev here : LibraryProcedure
    here = get_or library i nothing

    keeps : keep here ≡ not (get_or hides i false)
    keeps = ap not (sym (ap (λ bs. get_or bs i false) are ∙ get_or-map (λ (p : LibraryProcedure). defines own p.name) library i nothing false within))

    pub whole_skips : get_or hides i false ≡ true → now ≡ own ++ map procedure_in (filter keep (take (i + 1) library))
    whole_skips skipped =
        before
        ∙ ap (λ ps. own ++ map procedure_in ps)
        (sym (filter_more keep library i nothing within
        ∙ (ap (λ b. filter keep (take i library) ++ cond b (here ∷ []) []) (keeps ∙ ap not skipped) ∙ append-nil (filter keep (take i library)))))

    pub whole_takes : get_or hides i false ≡ false → (p : Procedure) → slice_get (map procedure_in library) i ≡ Some p
        → now ++ p ∷ [] ≡ own ++ map procedure_in (filter keep (take (i + 1) library))
    whole_takes taken p at =
        let there : slice_get (map procedure_in library) i ≡ Some (procedure_in here) =
        mapped procedure_in library i here (slice_get-get_or library i nothing within) in
        let same : p ≡ procedure_in here = same_Some p (procedure_in here) (sym at ∙ there) in
        let kept = filter keep (take i library) in
        ap₂ (λ ps q. ps ++ q ∷ []) before same
        ∙ (append_assoc own (map procedure_in kept) (procedure_in here ∷ [])
        ∙ ap (λ ps. own ++ ps)
        (sym (map-append procedure_in kept (here ∷ []))
        ∙ ap (map procedure_in)
        (sym (filter_more keep library i nothing within ∙ ap (λ b. kept ++ cond b (here ∷ []) []) (keeps ∙ ap not taken)))))

pub whole_is : (library : List LibraryProcedure) (source whole : Ast) (i : ℕ) → length library ≤ i → whole.consts ≡ source.consts → whole.main ≡ source.main
    → map procedure_of whole.procs.items ≡ map procedure_of source.procs.items
    ++ map procedure_in (filter (λ (p : LibraryProcedure). not (defines (map procedure_of source.procs.items) p.name)) (take i library))
    → source_of whole ≡ with_library library (source_of source)
whole_is library source whole i all consts main procs =
    let every = procs ∙ ap (λ l. map procedure_of source.procs.items
    ++ map procedure_in (filter (λ (p : LibraryProcedure). not (defines (map procedure_of source.procs.items) p.name)) l)) (take_all i library all) in
    ap₂ (λ cs ps. record { consts = cs; procs = ps; main = option_map procedure_of whole.main }) consts every
    ∙ ap (λ m. record { consts = source.consts; procs = (with_library library (source_of source)).procs; main = option_map procedure_of m }) main

-- a body of one instruction more
pub plain_body-push : (instructions : List Instruction) (instr : Instruction)
    → plain_body (instructions ++ instr ∷ []) ≡ append (plain_body instructions) (plain_body (instr ∷ []))
plain_body-push [] instr = refl
plain_body-push (i ∷ more) instr = ap (λ b. Leaf_then nowhere (leaves.Instr i) b) (plain_body-push more instr)
