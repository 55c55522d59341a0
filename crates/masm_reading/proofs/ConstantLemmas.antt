-- The index of the constants, as names come in.
use Rattle.std.proofs.Common.{◌≡◌, ℕ, Bool, true, false, cond, List, [], ◌∷◌, ◌++◌, Option, Some, None, Vec, Global, inl, inr, refl, sym, ◌∙◌, bytes_eq, is_some}
use Rattle.std.proofs.lemmas.Bool.{cases_Bool}
use Rattle.std.proofs.lemmas.Map.Text.{is_eq-slice_cmp}
use Rattle.std.proofs.lemmas.Slice.Eq.{bytes_eq-Decides}
use Rattle.std.specs.BTreeMap.{BTreeMap, Updates}
use Rattle.std.specs.Cmp.{eq_by_cmp_equiv}
use Rattle.std.specs.Cmp.Lexicographic.{slice_cmp, nat_list_cmp_total, nat_list_eq_equiv}
use Rattle.std.specs.Map.{KeepsOthers, lookup}
use Rattle.std.specs.Option.{option_or}
use Rattle.std.specs.Ordering.{nat_cmp, is_eq, eq_by_cmp}
use Rattle.masm_reading.specs.declared.constant.Const.{Const}
use Rattle.masm_reading.specs.Constants.{constant_of, value_at}

option_or-none : (x : Option ℕ) → option_or x None ≡ x
option_or-none None = refl
option_or-none (Some v) = refl

none_from : (x : Option ℕ) → is_some x ≡ false → x ≡ None
none_from None e = refl
none_from (Some v) e = cc

-- a key at one text is at no other
apart : (name text key : List ℕ) → bytes_eq name text ≡ false → is_eq (slice_cmp nat_cmp name key) ≡ true
    → is_eq (slice_cmp nat_cmp text key) ≡ false
apart name text key other here =
    is_eq-slice_cmp text key
    ∙ (nat_list_eq_equiv.symm text key
    ∙ (sym (nat_list_eq_equiv.congr name key text (sym (is_eq-slice_cmp name key) ∙ here)) ∙ other))

-- the other texts keep their values
kept : (old new : List (Vec ℕ Global × ℕ)) (name text : List ℕ)
    → KeepsOthers (eq_by_cmp (λ x y. slice_cmp nat_cmp x.items y.items)) (λ y. is_eq (slice_cmp nat_cmp name y.items)) old new
    → bytes_eq name text ≡ false
    → lookup (λ y. is_eq (slice_cmp nat_cmp text y.items)) new ≡ lookup (λ y. is_eq (slice_cmp nat_cmp text y.items)) old
unfolding KeepsOthers
kept old new name text keeps other =
    keeps _ (λ x y. (eq_by_cmp_equiv nat_list_cmp_total).congr text x.items y.items) (λ k. apart name text k.items other)

-- the values after a name came in that had none
pub value_at-added : (old new : BTreeMap (Vec ℕ Global) ℕ) (key : Vec ℕ Global) (name text : List ℕ) (value : ℕ) → key.items ≡ name
    → Updates (λ x y. slice_cmp nat_cmp x.items y.items) old new key (Some value) → is_some (value_at old name) ≡ false
    → value_at new text ≡ option_or (value_at old text) (cond (bytes_eq name text) (Some value) None)
value_at-added old new key name text value is_name updates absent =
    elim (cases_Bool (bytes_eq name text)) [
      | inl same ↦
          let is_text : name ≡ text = (bytes_eq-Decides name text).0 same in
          let none : value_at old text ≡ None = rw (← is_text) (none_from (value_at old name) absent) in
          let here : value_at new text ≡ Some value = rw (← is_text, ← is_name) updates.1 in
          rw (same, none) here
      | inr other ↦
          let stays : value_at new text ≡ value_at old text =
          kept old.entries new.entries name text (rw is_name at updates.3) other in
          rw (other, option_or-none) stays
    ]

choice : (test : Bool) (here later added : Option ℕ) (v : ℕ) → here ≡ Some v
    → cond test here (option_or later added) ≡ option_or (cond test here later) added
choice true here later added v e = rw e refl
choice false here later added v e = refl

-- the values after a constant came in
pub constant_of-push : (consts : List Const) (c : Const) (name : List ℕ)
    → constant_of (consts ++ c ∷ []) name ≡ option_or (constant_of consts name) (cond (bytes_eq c.name name) (Some c.value) None)
constant_of-push [] c name = refl
constant_of-push (d ∷ consts) c name =
    rw (constant_of-push consts c name) (choice (bytes_eq d.name name) (Some d.value) (constant_of consts name) _ d.value refl)
