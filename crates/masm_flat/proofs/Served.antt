-- What a table serves, use by use.
use Rattle.masm_flat.proofs.Words.{◌≡◌, ◌≢◌, ℕ, ◌+◌, ◌-◌, ◌<◌, ◌≤◌, false, List, [], ◌∷◌, ◌++◌, length, set, get_or, Option, Some, None, Result, Ok, Err, Vec}
use Rattle.masm_flat.proofs.Words.{Global, zero, suc, inl, inr, refl, sym, ap, ap₂, subst, ◌∙◌, append_assoc, arith, cases_lt, eqb_tells, get_or-set_same}
use Rattle.masm_flat.proofs.Words.{get_or-set_other, get_or_past, length-set, Contains-append_right, Contains, cons_option, option_map, slice_get_read}
use Rattle.masm_flat.proofs.Words.{slice_get_past, Tree, Position, Stmt, Body, Empty, stmt_view, body_of, as_tree, Known, flat_with, list_at, digest_at, tree_at}
use Rattle.masm_flat.proofs.Words.{dispatch_in, left_at, TakesList, Keeps, Serves, ComesTo, pieces_of, place_at, Use, Own, Kernel, use_at, ref_at, uses_of}
use Rattle.std.proofs.lemmas.List.{append-nil}
use Rattle.std.specs.Prelude.{unwrap_or, slice_get, OnOk}
use Rattle.masm_flat.specs.declared.known.Scope.{Scope}
use Rattle.masm_flat.specs.declared.table.Table.{Table}
use Rattle.masm_flat.specs.declared.piece.Piece as code
use Rattle.masm_flat.specs.Blocks.{Piece}
use Rattle.masm_names.specs.UsedPlaces.{place_used, places_used, times_among}
use Rattle.masm_names.proofs.TimesAmong.{times_yes, times_no, times_some}

-- lists that stay

pub keeps_same : {t : Table} → Keeps t t
keeps_same = record { lists = λ q h. refl; left = λ q h. h; count = refl; left_count = refl }

pub keeps_then : {a b c : Table} → Keeps a b → Keeps b c → Keeps a c
keeps_then first second = record {
  lists = λ q h. second.lists q (first.left q h) ∙ first.lists q h;
  left = λ q h. second.left q (first.left q h);
  count = second.count ∙ first.count;
  left_count = second.left_count ∙ first.left_count;
}

-- a use of a list, which is the next of those that are left

module _ {place : ℕ} {old new : Table} (takes : TakesList place old new) where
  left_here : left_at new place ≡ left_at old place - 1
  left_here = elim (cases_lt place (length old.left.items)) [
    | inl low ↦ ap (λ xs. get_or xs place 0) takes.left ∙ get_or-set_same old.left.items place (left_at old place - 1) 0 low
    | inr past ↦
        let count = ap length takes.left in
        let same = length-set old.left.items place (left_at old place - 1) in
        let now = get_or_past new.left.items place 0 (omega arith) in
        let was = get_or_past old.left.items place 0 past in omega arith
  ]

  left_there : (q : ℕ) → q ≢ place → left_at new q ≡ left_at old q
  left_there q apart = ap (λ xs. get_or xs q 0) takes.left ∙ get_or-set_other old.left.items place q (left_at old place - 1) 0 apart

  pub keeps_taking : Keeps old new
  keeps_taking = record {
    lists = λ q h. elim (eqb_tells q place) [
      | inl same ↦ ap (λ v. slice_get v.items q) (takes.stays (λ one. absurd (omega (arith, one, ap (left_at old) (sym same.1) ∙ h))))
      | inr apart ↦ takes.others q apart.1
    ];
    left = λ q h. elim (eqb_tells q place) [
      | inl same ↦ let here = left_here in let at = ap (left_at new) same.1 in let was = ap (left_at old) (sym same.1) ∙ h in omega arith
      | inr apart ↦ left_there q apart.1 ∙ h
    ];
    count = takes.count;
    left_count = ap length takes.left ∙ length-set old.left.items place (left_at old place - 1);
  }

same_list : (old new : Table) (q : ℕ) → slice_get new.lists.items q ≡ slice_get old.lists.items q
    → list_at new.lists.items (Some q) ≡ list_at old.lists.items (Some q)
same_list old new q same = ap (λ o. unwrap_or (option_map (λ v. pieces_of v.items) o) []) same

abbrev own : Scope → List ℕ → Option ℕ
own scope = place_at scope.names.now

module _ {scope : Scope} {known : Known Tree} {rest : List Use} {u : Use} where
  -- a use that leads to no list
  pub serves_none : {table : Table} → place_used (own scope) u.kind u.refers u.name ≡ None → Serves scope known table (u ∷ rest)
      → Serves scope known table rest
  serves_none none serves = record {
    exported = serves.exported;
    dispatch = serves.dispatch;
    lists = λ v has kind runs. serves.lists v (Contains-append_right (u ∷ []) rest v has) kind runs;
    digests = λ v has kind refers. serves.digests v (Contains-append_right (u ∷ []) rest v has) kind refers;
    left = λ q. elim (serves.left q) [
      | inl stays ↦ inl stays
      | inr counted ↦ inr (counted ∙ ap (λ o. times_among (cons_option o (places_used (own scope) rest)) q) none)
    ];
  }

  -- a use of the list at a place
  module _ {place : ℕ} {old new : Table} (leads : place_used (own scope) u.kind u.refers u.name ≡ Some place)
      (takes : TakesList place old new) (serves : Serves scope known old (u ∷ rest)) where
    abbrev places : List ℕ
    places = places_used (own scope) rest

    counted_here : times_among (places_used (own scope) (u ∷ rest)) place ≡ 1 + times_among places place
    counted_here = elim (eqb_tells place place) [
      | inl same ↦ ap (λ o. times_among (cons_option o places) place) leads ∙ times_yes place places place same.0
      | inr apart ↦ absurd (apart.1 refl)
    ]

    -- where the list is used again it stays
    stays_for : 1 ≤ times_among places place → left_at old place ≢ 1
    stays_for more one = elim (serves.left place) [
      | inl none ↦ absurd (omega (arith, none, one))
      | inr counted ↦ absurd (omega (arith, counted, one, more, counted_here))
    ]

    list_of : (v : Use) → Contains rest v → v.kind ≡ Own → v.refers ≡ false → (o : Option ℕ) → own scope v.name ≡ o
        → list_at new.lists.items o ≡ list_at old.lists.items o
    list_of v has kind runs None none = refl
    list_of v has kind runs (Some q) found = elim (eqb_tells q place) [
      | inl same ↦
          ap (λ lists. list_at lists.items (Some q))
          (takes.stays (stays_for (times_some (own scope) rest v place has kind runs (found ∙ ap Some same.1))))
      | inr apart ↦ same_list old new q (takes.others q apart.1)
    ]

    pub serves_next : Serves scope known new rest
    serves_next = record {
      exported = serves.exported;
      dispatch = serves.dispatch;
      lists = λ v has kind runs. list_of v has kind runs (own scope v.name) refl ∙ serves.lists v (Contains-append_right (u ∷ []) rest v has) kind runs;
      digests = λ v has kind refers. serves.digests v (Contains-append_right (u ∷ []) rest v has) kind refers;
      left = λ q. elim (eqb_tells q place) [
        | inl same ↦ elim (serves.left place) [
          | inl none ↦ inl (let here = left_here takes in let at = ap (left_at new) same.1 in omega arith)
          | inr counted ↦ inr (ap (left_at new) same.1 ∙ (left_here takes
              ∙ (minus_one (left_at old place) _ (counted ∙ counted_here) ∙ ap (times_among places) (sym same.1))))
        ]
        | inr apart ↦ elim (serves.left q) [
          | inl none ↦ inl (left_there takes q apart.1 ∙ none)
          | inr counted ↦ inr (left_there takes q apart.1 ∙ (counted
              ∙ (ap (λ o. times_among (cons_option o places) q) leads ∙ times_no place places q apart.0)))
        ]
      ];
    }
      where
        minus_one : (n m : ℕ) → n ≡ 1 + m → n - 1 ≡ m
        minus_one n m e = omega arith

-- results of one step behind another

module _ {A : Type 0} {scope : Scope} where
  pub comes_same : {table : Table} (a : A) → ComesTo scope [] (λ known. a) table table a
  comes_same a = record { gives = λ known rest serves. (refl, serves); keeps = keeps_same }

  pub comes_then : {B C : Type 0} {us vs : List Use} {f : Known Tree → A} {g : Known Tree → B} {old mid new : Table} {a : A} {b : B} (h : A → B → C)
      → ComesTo scope us f old mid a → ComesTo scope vs g mid new b → ComesTo scope (us ++ vs) (λ known. h (f known) (g known)) old new (h a b)
  comes_then {us = us} {vs = vs} {old = old} h first second = record {
    gives = λ known rest serves.
        let one = first.gives known (vs ++ rest) (subst (Serves scope known old) (append_assoc us vs rest) serves) in
        let two = second.gives known rest one.1 in
        (ap₂ h one.0 two.0, two.1);
    keeps = keeps_then first.keeps second.keeps;
  }

  -- the same uses, and a value that is made of the other
  pub comes_as : {B : Type 0} {us vs : List Use} {f : Known Tree → A} {g : Known Tree → B} {old new : Table} {a : A} {b : B} (h : A → B)
      → ComesTo scope us f old new a → vs ≡ us → ((known : Known Tree) → h (f known) ≡ g known) → b ≡ h a → ComesTo scope vs g old new b
  comes_as {old = old} h comes same value is = record {
    gives = λ known rest serves.
        let one = comes.gives known rest (subst (λ xs. Serves scope known old (xs ++ rest)) same serves) in
        (is ∙ (ap h one.0 ∙ value known), one.1);
    keeps = comes.keeps;
  }

  pub comes_end : {us : List Use} {f : Known Tree → A} {old new : Table} {a : A} → ComesTo scope us f old new a → ComesTo scope (us ++ []) f old new a
  comes_end {us} comes = comes_as (λ x. x) comes (append-nil us) (λ known. refl) refl

-- The list of one statement, as it is seen.
pub comes_statement : {A : Type 0} {scope : Scope} {f : Known Tree → A} {old new : Table} {a : A} {b : Body} (s : Stmt) (locals : ℕ)
    (before : List (Piece Tree)) {after : List (Piece Tree)} → stmt_view s Empty ≡ b → (h : A → List (Piece Tree))
    → ComesTo scope (uses_of b) f old new a → ((known : Known Tree) → h (f known) ≡ before ++ flat_with as_tree known locals b) → after ≡ h a
    → ComesTo scope (uses_of (stmt_view s Empty)) (λ known. before ++ flat_with as_tree known locals (stmt_view s Empty)) old new after
comes_statement {scope = scope} {old = old} {new = new} s locals before {after} view h comes flat is =
    subst (λ c. ComesTo scope (uses_of c) (λ known. before ++ flat_with as_tree known locals c) old new after) (sym view)
    (comes_as h comes refl flat is)

-- the list of a body, as it is lent
pub comes_body : {scope : Scope} (locals : ℕ) {lent body : List Stmt} {old new : Table} {pieces : List (Piece Tree)} → lent ≡ body
    → ComesTo scope (uses_of (body_of lent)) (λ known. flat_with as_tree known locals (body_of lent)) old new pieces
    → ComesTo scope (uses_of (body_of body)) (λ known. flat_with as_tree known locals (body_of body)) old new pieces
comes_body {scope} locals {old = old} {new = new} {pieces = pieces} same comes =
    subst (λ b. ComesTo scope (uses_of (body_of b)) (λ known. flat_with as_tree known locals (body_of b)) old new pieces) same comes

module _ {scope : Scope} where
  -- the list of a name
  pub comes_used : (at : Position) (name : List ℕ) {place : ℕ} {old new : Table} (before : List (Piece Tree)) {after : List (Piece Tree)}
      → own scope name ≡ Some place → TakesList place old new → after ≡ before ++ list_at old.lists.items (Some place)
      → ComesTo scope (use_at at Own name ∷ []) (λ known. before ++ known.list name) old new after
  comes_used at name {old = old} before leads takes is = record {
    gives = λ known rest serves. (
      is ∙ ap (λ xs. before ++ xs)
          (ap (list_at old.lists.items) (sym leads) ∙ serves.lists (use_at at Own name) (0, omega arith, refl) refl refl),
      serves_next leads takes serves,
    );
    keeps = keeps_taking takes;
  }

  pub comes_unused : (at : Position) (name : List ℕ) {table : Table} (before : List (Piece Tree)) → own scope name ≡ None
      → ComesTo scope (use_at at Own name ∷ []) (λ known. before ++ known.list name) table table before
  comes_unused at name {table} before leads = record {
    gives = λ known rest serves. (
      sym (append-nil before) ∙ ap (λ xs. before ++ xs)
          (ap (list_at table.lists.items) (sym leads) ∙ serves.lists (use_at at Own name) (0, omega arith, refl) refl refl),
      serves_none leads serves,
    );
    keeps = keeps_same;
  }

  -- a system call, whose block the kernel has
  pub comes_exported : (at : Position) (name : List ℕ) {table : Table} (f : Tree → Tree) {result : Tree}
      → result ≡ f (tree_at scope.outside.now.exports.now name)
      → ComesTo scope (use_at at Kernel name ∷ []) (λ known. f (known.exported name)) table table result
  comes_exported at name f is = record {
    gives = λ known rest serves. (is ∙ ap f (sym (serves.exported name)), serves_none refl serves);
    keeps = keeps_same;
  }

  -- a procref, whose digest is known
  pub comes_referred : (at : Position) (name : List ℕ) {table : Table}
      → ComesTo scope (ref_at at name ∷ []) (λ known. known.digest name) table table (digest_at scope.digests.now (own scope name))
  comes_referred at name = record {
    gives = λ known rest serves. (serves.digests (ref_at at name) (0, omega arith, refl) refl refl, serves_none refl serves);
    keeps = keeps_same;
  }

  -- a dynexec, whose tree is known
  pub comes_dispatched : {table : Table} {result : Tree} → result ≡ dispatch_in scope.dispatch.now
      → ComesTo scope [] (λ known. known.dispatch) table table result
  comes_dispatched is = record { gives = λ known rest serves. (is ∙ sym serves.dispatch, serves); keeps = keeps_same }

pub on_ok : {X E : Type 0} (r : Result X E) {P Q : Type 0} → (P → Q) → OnOk r P → OnOk r Q
on_ok (Ok x) f h = f h
on_ok (Err e) f h = h

pub on_both : {X E : Type 0} (r : Result X E) {P Q R : Type 0} → (P → Q → R) → OnOk r P → OnOk r Q → OnOk r R
on_both (Ok x) f h k = f h k
on_both (Err e) f h k = h

-- lists at their places
pub got_other : {X : Type 0} (xs : List X) (i q : ℕ) (x : X) → q ≢ i → slice_get (set xs i x) q ≡ slice_get xs q
got_other [] i q x apart = refl
got_other (y ∷ xs) zero zero x apart = absurd (apart refl)
got_other (y ∷ xs) zero (suc q) x apart = refl
got_other (y ∷ xs) (suc i) zero x apart = refl
got_other (y ∷ xs) (suc i) (suc q) x apart = got_other xs i q x (λ same. apart (ap suc same))

pub list_read : (lists : List (Vec code.Piece Global)) (place : ℕ) (v : Vec code.Piece Global) → place < length lists → v ≡ get_or lists place v
    → list_at lists (Some place) ≡ pieces_of v.items
list_read lists place v low is =
    ap (λ o. unwrap_or (option_map (λ (w : Vec code.Piece Global). pieces_of w.items) o) []) (slice_get_read lists (length lists) place v refl low is)

pub list_past : (lists : List (Vec code.Piece Global)) (place : ℕ) → length lists ≤ place → list_at lists (Some place) ≡ []
list_past lists place past =
    ap (λ o. unwrap_or (option_map (λ (w : Vec code.Piece Global). pieces_of w.items) o) []) (slice_get_past lists place past)
