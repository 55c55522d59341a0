-- What a row gives and asks of the cells below the sixteenth, by its operation.
use Rattle.std.proofs.Common.{◌≡◌, ℕ, ◌==◌, ◌&&◌, ◌||◌, true, false, cond, List, [], ◌∷◌, Result, Ok, OnOk, refl, ap, ◌∙◌, subst}
use Rattle.buses.specs.Counts.{Counted, once}
use Rattle.bus_kit.specs.Adding.{Tallied, IsCounted}
use Rattle.bus_kit.proofs.AddingLemmas.{none_counted}
use Rattle.air_kit.specs.Flags.{is_op, is_shift, op_of}
use Rattle.air_kit.specs.MainTuples.{overflow_asked, overflow_given}
use Rattle.vm_ops.specs.Moves.{shift_of}
use Rattle.vm_ops.specs.declared.op.Op.{Op}
use Rattle.vm_ops.specs.declared.op.Op.TheVariants as ops
use Rattle.vm_ops.specs.declared.op.Shift.{Shift}
use Rattle.vm_ops.specs.declared.op.Shift.TheVariants.{Left, Stay, Right}
use Rattle.vm_table.specs.MainColumns.{clk, depth, h, key, s}

-- END moves no cell
end_stays : (op : Op) → Right ≡ shift_of op → false ≡ is_op op ops.End
end_stays ops.End e = absurd (cc)
end_stays op e = refl

-- the cell that comes back behind a left shift
abbrev pub comes : List ℕ → List ℕ → List Counted
comes x y = cond (depth x == 16) [] (once (key x ∷ s y 15 ∷ key y ∷ []) ∷ [])

pub none_comes : (a : Tallied) (x y : List ℕ) (d e : ℕ) → d ≡ depth x → e ≡ 16 → true ≡ (d == e) → IsCounted 1 a a (comes x y) []
none_comes a x y d e is sixteen same =
    let test : true ≡ (depth x == 16) = same ∙ ap (λ k. k == e) is ∙ ap (λ k. depth x == k) sixteen in
    rw (← test) (none_counted 1 a)

module _ {E : Type 0} (n : ℕ) (a b : Tallied) (r : Result (Unit {0}) E) (x y : List ℕ) where
  -- the bus of cells, by the operation and its shift
  abbrev OverflowBy : Op → Shift → Type 0
  OverflowBy op shift =
      OnOk r (IsCounted n a b (cond (is_shift Left shift || (is_op op ops.End && (h x 4 == 1))) (comes x y) [])
      (cond (is_shift Right shift) (once (clk x ∷ s x 15 ∷ key x ∷ []) ∷ []) []))

  overflow_by : (op : Op) (shift : Shift) → op ≡ op_of x → shift ≡ shift_of op → OverflowBy op shift
      → OnOk r (IsCounted n a b (overflow_asked x y) (overflow_given x y))
  unfolding overflow_asked overflow_given
  overflow_by op shift is moves p = subst (λ o. OverflowBy o (shift_of o)) is (subst (OverflowBy op) moves p)

  pub cell_goes : (op : Op) (u : List ℕ) → op ≡ op_of x → Right ≡ shift_of op → u ≡ clk x ∷ s x 15 ∷ key x ∷ []
      → OnOk r (IsCounted n a b [] (once u ∷ [])) → OnOk r (IsCounted n a b (overflow_asked x y) (overflow_given x y))
  cell_goes op u is moves tuple p = let fails = end_stays op moves in overflow_by op Right is moves (rw (← fails, ← tuple) p)

  pub cell_comes : (op : Op) → op ≡ op_of x → Left ≡ shift_of op
      → OnOk r (IsCounted n a b (comes x y) []) → OnOk r (IsCounted n a b (overflow_asked x y) (overflow_given x y))
  cell_comes op is moves p = overflow_by op Left is moves p

  pub condition_goes : (op : Op) → op ≡ op_of x → Stay ≡ shift_of op → true ≡ (is_op op ops.End && (h x 4 == 1))
      → OnOk r (IsCounted n a b (comes x y) []) → OnOk r (IsCounted n a b (overflow_asked x y) (overflow_given x y))
  condition_goes op is moves holds p = overflow_by op Stay is moves (rw (← holds) p)

-- The same where an operation has no tuple.
module _ (n : ℕ) (a : Tallied) (x y : List ℕ) (op : Op) (is : op ≡ op_of x) where
  pub no_cell : Stay ≡ shift_of op → false ≡ (is_op op ops.End && (h x 4 == 1)) → IsCounted n a a (overflow_asked x y) (overflow_given x y)
  no_cell moves e0 = overflow_by {E = Unit {0}} n a a (Ok tt) x y op Stay is moves (rw (← e0) (none_counted n a))
