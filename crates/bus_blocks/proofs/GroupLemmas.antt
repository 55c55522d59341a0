-- What a row gives and asks of groups, by its operation.
use Rattle.std.proofs.Common.{ap, ◌≡◌, ℕ, suc, ◌+◌, ◌-◌, ◌<◌, ◌≤◌, ◌==◌, ◌&&◌, true, false, cond, List, [], ◌∷◌, Result, Ok, OnOk, refl, sym, ◌∙◌, subst, arith, add-one}
use Rattle.buses.specs.Counts.{once}
use Rattle.bus_kit.specs.Adding.{Tallied, IsCounted}
use Rattle.bus_kit.proofs.AddingLemmas.{counted_within, none_counted}
use Rattle.air_kit.specs.Flags.{is_op, op_of}
use Rattle.air_kit.specs.MainTuples.{groups_asked, groups_from, groups_given, is_batch_op, positions}
use Rattle.air_kit.specs.SpanValues.{rest_flag}
use Rattle.vm_ops.specs.Codes.{is_ordinary_op}
use Rattle.vm_ops.specs.declared.op.Op.{Op}
use Rattle.vm_ops.specs.declared.op.Op.TheVariants as ops
use Rattle.vm_table.specs.MainColumns.{gc, h, ha, s, sp}
use Rattle.bus_blocks.proofs.TwoLemmas.{given_first}

module _ {E : Type 0} (n : ℕ) (a b : Tallied) (r : Result (Unit {0}) E) (x y : List ℕ) where
  abbrev GroupsBy : Op → Type 0
  GroupsBy op =
      OnOk r (IsCounted n a b
      (cond (is_op op ops.Push) (once (ha x ∷ gc x ∷ s y 0 ∷ []) ∷ [])
      (cond (is_ordinary_op op && (rest_flag x == 0) && (sp y == 1)) (once (ha x ∷ gc x ∷ h y 0 ∷ []) ∷ []) []))
      (cond (is_batch_op op) (groups_from x y 1 (positions x - 1)) []))

  groups_by : (op : Op) → op ≡ op_of x → GroupsBy op → OnOk r (IsCounted n a b (groups_asked x y) (groups_given x y))
  unfolding groups_asked groups_given
  groups_by op is p = subst GroupsBy is p

  -- a batch's
  pub batch_given : (op own : Op) → op ≡ op_of x → op ≡ own → false ≡ is_op own ops.Push → false ≡ is_ordinary_op own → true ≡ is_batch_op own
      → OnOk r (IsCounted n a b [] (groups_from x y 1 (positions x - 1))) → OnOk r (IsCounted n a b (groups_asked x y) (groups_given x y))
  batch_given op own is same e0 e1 e2 p = groups_by own (sym same ∙ is) (rw (← e0, ← e1, ← e2) p)

  pub immediate_taken : (op : Op) (t : List ℕ) (e : ℕ) → op ≡ op_of x → op ≡ ops.Push → t ≡ ha x ∷ gc x ∷ e ∷ [] → e ≡ s y 0
      → OnOk r (IsCounted n a b (once t ∷ []) []) → OnOk r (IsCounted n a b (groups_asked x y) (groups_given x y))
  immediate_taken op t e is same tuple element p = groups_by ops.Push (sym same ∙ is) (rw (← element, ← tuple) p)

  pub group_taken : (op : Op) (t : List ℕ) (e : ℕ) → op ≡ op_of x → false ≡ is_op op ops.Push → false ≡ is_batch_op op
      → true ≡ (is_ordinary_op op && (rest_flag x == 0) && (sp y == 1)) → t ≡ ha x ∷ gc x ∷ e ∷ [] → e ≡ h y 0
      → OnOk r (IsCounted n a b (once t ∷ []) []) → OnOk r (IsCounted n a b (groups_asked x y) (groups_given x y))
  group_taken op t e is e0 e1 holds tuple element p = groups_by op is (rw (← e0, ← e1, ← holds, ← element, ← tuple) p)

-- the same where an operation has no tuple
pub no_group : (n : ℕ) (a : Tallied) (x y : List ℕ) (op : Op) → op ≡ op_of x → false ≡ is_op op ops.Push → false ≡ is_batch_op op
    → false ≡ (is_ordinary_op op && (rest_flag x == 0) && (sp y == 1)) → IsCounted n a a (groups_asked x y) (groups_given x y)
no_group n a x y op is e0 e1 fails = groups_by {E = Unit {0}} n a a (Ok tt) x y op is (rw (← e0, ← e1, ← fails) (none_counted n a))

pub not_push : (op : Op) → (op ≡ ops.Push → ⊥) → false ≡ is_op op ops.Push
not_push ops.Push h = absurd (h refl)
not_push op h = refl

pub not_batch : (op : Op) → (op ≡ ops.Span → ⊥) → (op ≡ ops.Respan → ⊥) → false ≡ is_batch_op op
not_batch ops.Span h k = absurd (h refl)
not_batch ops.Respan h k = absurd (k refl)
not_batch op h k = refl

-- The positions before q are given: who gives the others gives all.
pub record AreGivenBelow (x y : List ℕ) (count q : ℕ) (old now : Tallied) : Type 0 where
  pub rest : (new : Tallied) → IsCounted (count - q) now new [] (groups_from x y q (count - q))
      → IsCounted (count - 1) old new [] (groups_from x y 1 (count - 1))
  pub grows : (u : List ℕ) → (now u).1 + 1 ≤ (old u).1 + q

-- one position more
one_more_group : (x y : List ℕ) (q m : ℕ) (now mid new : Tallied) (t : List ℕ) → t ≡ ha y ∷ suc m ∷ h x q ∷ [] → IsCounted 1 now mid [] (once t ∷ [])
    → IsCounted m mid new [] (groups_from x y (suc q) m) → IsCounted (suc m) now new [] (groups_from x y q (suc m))
unfolding groups_from
one_more_group x y q m now mid new t tuple p rest =
    rw (← tuple) (given_first 1 m (suc m) now mid new (once t ∷ []) [] (groups_from x y (suc q) m) p rest (omega arith))

pub given_below_more : (x y : List ℕ) (count q left : ℕ) (old now mid : Tallied) (t : List ℕ) → q < count → left ≡ count - q
    → t ≡ ha y ∷ left ∷ h x q ∷ []
    → IsCounted 1 now mid [] (once t ∷ []) → AreGivenBelow x y count q old now → AreGivenBelow x y count (q + 1) old mid
given_below_more x y count q left old now mid t within is tuple p before =
    let here : count - q ≡ suc (count - (q + 1)) = omega arith in
    let named : t ≡ ha y ∷ suc (count - (q + 1)) ∷ h x q ∷ [] = tuple ∙ ap (λ k. ha y ∷ k ∷ h x q ∷ []) (is ∙ here) in
    record {
      rest = λ new rest. before.rest new (rw here (one_more_group x y q (count - (q + 1)) now mid new t named p
          (subst (λ k. IsCounted (count - (q + 1)) mid new [] (groups_from x y k (count - (q + 1)))) (add-one q) rest)));
      grows = λ u. let grown = p.given_grows u in let had = before.grows u in omega arith;
    }

pub given_all : (x y : List ℕ) (count q all : ℕ) (old now : Tallied) → count ≤ q → count ≡ all → all ≤ 8 → AreGivenBelow x y count q old now
    → IsCounted 8 old now [] (groups_from x y 1 (all - 1))
unfolding groups_from
given_all x y count q all old now past is few below =
    let none : count - q ≡ 0 = omega arith in
    rw (← is) (counted_within (count - 1) 8 old now [] (groups_from x y 1 (count - 1)) (below.rest now (rw none (none_counted 0 now))) (omega arith))
