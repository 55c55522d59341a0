-- The terms of the cells that an operation leaves, and the places from which a shift brings cells.
use Rattle.std.proofs.Common.{◌≡◌, ◌≢◌, ℕ, suc, ◌+◌, ◌-◌, ◌<◌, ◌≤◌, ◌%◌, Bool, true, false, ◌&&◌, cond, eqb, nat_lt, List, map, get_or, length, refl, sym, ◌∙◌, arith}
use Rattle.std.proofs.lemmas.List.{get_or-map}
use Rattle.std.proofs.lemmas.Bool.Decides.{nat_tests}
use Rattle.std.specs.List.{All}
use Rattle.vm_field.specs.Field.{prime, felt_sub}
use Rattle.vm_ops.specs.declared.op.Op.{Op}
use Rattle.vm_ops.specs.declared.op.Op.TheVariants as ops
use Rattle.vm_ops.specs.Moves.{takes_of, leaves_of, sources_of}
use Rattle.vm_ops.specs.Step.{left_cells}
use Rattle.vm_ops.specs.Values.{computed}
use Rattle.vm_table.specs.MainColumns.{s}
use Rattle.air_kit.specs.Flags.{HasOp, flag, is_left, sum_over}
use Rattle.air_kit.specs.StackValues.{cells, seen_of, is_free, left_value, top_term, term, entry_119}
use Rattle.air_kit.proofs.FlagLemmas.{at_op, sum_over-hot}

-- cell k of the sixteen
pub cell_of : (x : List ℕ) (k : ℕ) → k < 16 → get_or (cells x) k 0 ≡ s x k
unfolding cells
cell_of x (suc (suc (suc (suc (suc (suc (suc (suc (suc (suc (suc (suc (suc (suc (suc (suc k)))))))))))))))) h = absurd (omega arith)
cell_of x k h = refl

-- the operations that compute no value of their own leave copies of cells, or what other entries and buses fix
pub moved_term : (j : ℕ) (x y : List ℕ) (op : Op) → op ≢ ops.Eqz → op ≢ ops.Eq → op ≢ ops.Inv → op ≢ ops.CSwap → op ≢ ops.CSwapW
    → op ≢ ops.Neg → op ≢ ops.Incr → op ≢ ops.Not → op ≢ ops.FmpAdd → op ≢ ops.Caller → op ≢ ops.Add → op ≢ ops.Mul → op ≢ ops.And
    → op ≢ ops.Or → op ≢ ops.Pad → op ≢ ops.SDepth → op ≢ ops.Clk
    → top_term j x y op ≡ cond (is_free op) 0 (felt_sub (s y j) (get_or (map (λ k. get_or (cells x) k 0) (sources_of op)) j 0))
unfolding top_term left_value left_cells computed seen_of
moved_term j x y ops.Eqz n0 n1 n2 n3 n4 n5 n6 n7 n8 n9 n10 n11 n12 n13 n14 n15 n16 = absurd (n0 refl)
moved_term j x y ops.Eq n0 n1 n2 n3 n4 n5 n6 n7 n8 n9 n10 n11 n12 n13 n14 n15 n16 = absurd (n1 refl)
moved_term j x y ops.Inv n0 n1 n2 n3 n4 n5 n6 n7 n8 n9 n10 n11 n12 n13 n14 n15 n16 = absurd (n2 refl)
moved_term j x y ops.CSwap n0 n1 n2 n3 n4 n5 n6 n7 n8 n9 n10 n11 n12 n13 n14 n15 n16 = absurd (n3 refl)
moved_term j x y ops.CSwapW n0 n1 n2 n3 n4 n5 n6 n7 n8 n9 n10 n11 n12 n13 n14 n15 n16 = absurd (n4 refl)
moved_term j x y ops.Neg n0 n1 n2 n3 n4 n5 n6 n7 n8 n9 n10 n11 n12 n13 n14 n15 n16 = absurd (n5 refl)
moved_term j x y ops.Incr n0 n1 n2 n3 n4 n5 n6 n7 n8 n9 n10 n11 n12 n13 n14 n15 n16 = absurd (n6 refl)
moved_term j x y ops.Not n0 n1 n2 n3 n4 n5 n6 n7 n8 n9 n10 n11 n12 n13 n14 n15 n16 = absurd (n7 refl)
moved_term j x y ops.FmpAdd n0 n1 n2 n3 n4 n5 n6 n7 n8 n9 n10 n11 n12 n13 n14 n15 n16 = absurd (n8 refl)
moved_term j x y ops.Caller n0 n1 n2 n3 n4 n5 n6 n7 n8 n9 n10 n11 n12 n13 n14 n15 n16 = absurd (n9 refl)
moved_term j x y ops.Add n0 n1 n2 n3 n4 n5 n6 n7 n8 n9 n10 n11 n12 n13 n14 n15 n16 = absurd (n10 refl)
moved_term j x y ops.Mul n0 n1 n2 n3 n4 n5 n6 n7 n8 n9 n10 n11 n12 n13 n14 n15 n16 = absurd (n11 refl)
moved_term j x y ops.And n0 n1 n2 n3 n4 n5 n6 n7 n8 n9 n10 n11 n12 n13 n14 n15 n16 = absurd (n12 refl)
moved_term j x y ops.Or n0 n1 n2 n3 n4 n5 n6 n7 n8 n9 n10 n11 n12 n13 n14 n15 n16 = absurd (n13 refl)
moved_term j x y ops.Pad n0 n1 n2 n3 n4 n5 n6 n7 n8 n9 n10 n11 n12 n13 n14 n15 n16 = absurd (n14 refl)
moved_term j x y ops.SDepth n0 n1 n2 n3 n4 n5 n6 n7 n8 n9 n10 n11 n12 n13 n14 n15 n16 = absurd (n15 refl)
moved_term j x y ops.Clk n0 n1 n2 n3 n4 n5 n6 n7 n8 n9 n10 n11 n12 n13 n14 n15 n16 = absurd (n16 refl)
moved_term j x y op n0 n1 n2 n3 n4 n5 n6 n7 n8 n9 n10 n11 n12 n13 n14 n15 n16 = refl

-- an operation that leaves as many cells as it has sources leaves copies of them, and computes nothing
module _ (j : ℕ) (x y : List ℕ) where
  pub copied_term : (op : Op) → length (sources_of op) ≡ leaves_of op
      → top_term j x y op ≡ felt_sub (s y j) (get_or (map (λ k. get_or (cells x) k 0) (sources_of op)) j 0)
  unfolding top_term left_value left_cells computed seen_of
  copied_term ops.Eqz is = absurd (omega arith)
  copied_term ops.Eq is = absurd (omega arith)
  copied_term ops.Inv is = absurd (omega arith)
  copied_term ops.CSwap is = absurd (omega arith)
  copied_term ops.CSwapW is = absurd (omega arith)
  copied_term ops.Neg is = absurd (omega arith)
  copied_term ops.Incr is = absurd (omega arith)
  copied_term ops.Not is = absurd (omega arith)
  copied_term ops.FmpAdd is = absurd (omega arith)
  copied_term ops.Caller is = absurd (omega arith)
  copied_term ops.Add is = absurd (omega arith)
  copied_term ops.Mul is = absurd (omega arith)
  copied_term ops.And is = absurd (omega arith)
  copied_term ops.Or is = absurd (omega arith)
  copied_term ops.Pad is = absurd (omega arith)
  copied_term ops.SDepth is = absurd (omega arith)
  copied_term ops.Clk is = absurd (omega arith)
  copied_term ops.Push is = absurd (omega arith)
  copied_term ops.AdvPop is = absurd (omega arith)
  copied_term ops.AdvPopW is = absurd (omega arith)
  copied_term ops.MLoad is = absurd (omega arith)
  copied_term ops.MLoadW is = absurd (omega arith)
  copied_term ops.HPerm is = absurd (omega arith)
  copied_term ops.U32And is = absurd (omega arith)
  copied_term ops.U32Xor is = absurd (omega arith)
  copied_term ops.U32Split is = absurd (omega arith)
  copied_term ops.U32Add is = absurd (omega arith)
  copied_term ops.U32Sub is = absurd (omega arith)
  copied_term ops.U32Mul is = absurd (omega arith)
  copied_term ops.U32Div is = absurd (omega arith)
  copied_term ops.U32Add3 is = absurd (omega arith)
  copied_term ops.U32MAdd is = absurd (omega arith)
  copied_term op is = refl

-- no shift is by more than one cell
nearly : (op : Op) → takes_of op ≤ leaves_of op + 1
nearly ops.Noop = omega arith
nearly op = omega arith

left_is : (op : Op) → is_left op ≡ nat_lt (leaves_of op) (takes_of op)
left_is ops.Noop = refl
left_is op = refl

not_less : (a b : ℕ) → nat_lt a b ≡ false → b ≤ a
not_less a b e = grind (arith, nat_tests)

not_last : (j : ℕ) → j < 16 → eqb j 15 ≡ false → j < 15
not_last j h e = grind (arith, nat_tests)

pub place_bounds : (op : Op) (j : ℕ) → j < 16 → is_left op && eqb j 15 ≡ false → j + takes_of op - leaves_of op < 16
place_bounds op j h e = go (is_left op) refl e
  where
    go : (left : Bool) → is_left op ≡ left → left && eqb j 15 ≡ false → j + takes_of op - leaves_of op < 16
    go true l f = omega (arith, not_last j h f, nearly op)
    go false l f = omega (arith, h, not_less (leaves_of op) (takes_of op) (sym (left_is op) ∙ l))

-- the cell that a move brings to a place
pub moved_at : (sources x : List ℕ) (j : ℕ) → All (λ i. i < 16) sources → j < length sources
    → s x (get_or sources j 0) ≡ get_or (map (λ k. get_or (cells x) k 0) sources) j 0
moved_at sources x j visible h =
    sym (get_or-map (λ k. get_or (cells x) k 0) sources j 0 0 h ∙ cell_of x (get_or sources j 0) (visible j 0 h))

-- cell j of a row that has an operation
pub cell_decoded : (j : ℕ) (x y : List ℕ) (op : Op) (value : ℕ) → HasOp x op → value ≡ term j x y op → value < prime
    → value ≡ entry_119 j (flag x) (flag y) x y
unfolding entry_119
cell_decoded j x y op value has is low =
    sym (at_op has (λ fl. sum_over fl (term j x y)) ∙ sum_over-hot op (term j x y) ∙ small (term j x y op) value is low)
  where
    small : (a b : ℕ) → b ≡ a → b < prime → a % prime ≡ b
    small a b e l = omega (arith, e, l)
