-- The facts of the stack, from entries that are 0, and back.
use Rattle.facts_main.proofs.Words.{◌≡◌, ◌≢◌, ◌⊎◌, ℕ, zero, suc, ◌<◌, ◌≤◌, Bool, true, false, ◌&&◌, not, cond, eqb, nat_lt, List, refl, sym, ap, ◌∙◌}
use Rattle.facts_main.proofs.Words.{inl, inr, ⊎_elim, arith, lit<, lit≤, nat_tests, prime, felt_add, felt_sub, felt_mul, felt_inv, left_cells}
use Rattle.facts_main.proofs.Words.{Op, h, s, w, on_row, is_op, is_left, op_of, Spot, stack_values, IsBlockRow, HasOps, ShiftsCells, LeavesCells, ShowsStack}
use Rattle.facts_main.proofs.Words.{mover, tests_top, tests_two}
use Rattle.vm_field.proofs.Algebra.{felt_mul-zero_first}
use Rattle.vm_field.proofs.Inverses.{felt_mul-felt_inv, felt_inv-unique}
use Rattle.vm_ops.specs.Moves.{leaves_of}
use Rattle.vm_ops.specs.Values.{computed}
use Rattle.vm_ops.specs.declared.op.Op.TheVariants as ops
use Rattle.vm_ops.proofs.MoveLemmas.{leaves_of-below}
use Rattle.air_kit.specs.StackValues.{cells, seen_of, left_value, cell_values, operand_values, entry_119, entry_135, entry_136, entry_137, entry_138, entry_139}
use Rattle.facts_main.proofs.Zeros.{zero_back}
use Rattle.facts_main.proofs.Says.{Says, off, never, zero_says, sub_says, gate, gate_bit, gate_mul, either_or, eqb_of}
use Rattle.facts_main.proofs.Hot.{hot}
use Rattle.facts_main.proofs.Means.{Means, ◌▸◌, ◌⧺◌, ◌&◌, each, given, means_as, nothing, part_then}
use Rattle.facts_main.proofs.SpotSays.{row_at, pair_at}
use Rattle.facts_main.proofs.BlockFacts.{Low}
use Rattle.facts_main.proofs.DepthFacts.{depth_means}
use Rattle.facts_main.proofs.CellFacts.{TopFact, BelowFact, CellFact, less_of, cell_says}

-- ---- comparisons and inverses

apart_is : (i k : ℕ) → i ≢ k → eqb i k ≡ false
apart_is i k apart = grind (arith, nat_tests)

-- The answer of a comparison is 1 where the operands are the same. Where they differ, their difference v has an inverse.
abbrev Compared : ℕ → ℕ → ℕ → ℕ → ℕ → Type 0
Compared i k v a u = (a ≡ cond (eqb i k) 1 0) × (i ≢ k → felt_mul v u ≡ 1)

module _ (i k v a u : ℕ) (same : i ≡ k → v ≡ 0) where
  compared : a < prime → felt_add a (felt_mul v u) ≡ 1 → (i ≡ k) ⊎ (a ≡ 0) → Compared i k v a u
  compared low sum (inl e) =
      let none = felt_mul-zero_first v u (same e) in
      let one_is : a ≡ 1 = omega arith in
      (one_is ∙ ap (λ t. cond t 1 0) (sym (eqb_of i k e)), λ apart. absurd (apart e))
  compared low sum (inr e) = by (either_or i k)
    where
      by : (i ≡ k) ⊎ (i ≢ k) → Compared i k v a u
      by (inl is) = let none = felt_mul-zero_first v u (same is) in absurd (omega arith)
      by (inr apart) = (e ∙ ap (λ t. cond t 1 0) (sym (apart_is i k apart)), λ _. omega arith)

  compared_sum : Compared i k v a u → felt_add a (felt_mul v u) ≡ 1
  compared_sum c = by (either_or i k)
    where
      by : (i ≡ k) ⊎ (i ≢ k) → felt_add a (felt_mul v u) ≡ 1
      by (inl e) =
          let none = felt_mul-zero_first v u (same e) in
          let one_is : a ≡ 1 = c.0 ∙ ap (λ t. cond t 1 0) (eqb_of i k e) in omega arith
      by (inr apart) =
          let one_is = c.1 apart in
          let none : a ≡ 0 = c.0 ∙ ap (λ t. cond t 1 0) (apart_is i k apart) in omega arith

  compared_or : Compared i k v a u → (i ≡ k) ⊎ (a ≡ 0)
  compared_or c = ⊎_elim (λ e. inl e) (λ apart. inr (c.0 ∙ ap (λ t. cond t 1 0) (apart_is i k apart))) (either_or i k)

difference_same : (i k : ℕ) → i < prime → i ≡ k → felt_sub i k ≡ 0
difference_same i k low e = omega arith

eqz_cell : (x : List ℕ) → left_value ops.Eqz 0 x ≡ cond (eqb (s x 0) 0) 1 0
unfolding left_value left_cells computed seen_of cells
eqz_cell x = refl

eq_cell : (x : List ℕ) → left_value ops.Eq 0 x ≡ cond (eqb (s x 0) (s x 1)) 1 0
unfolding left_value left_cells computed seen_of cells
eq_cell x = refl

inv_cell : (x : List ℕ) → left_value ops.Inv 0 x ≡ felt_inv (s x 0)
unfolding left_value left_cells computed seen_of cells
inv_cell x = refl

above_zero : (n : ℕ) → n ≢ 0 → 0 < n
above_zero n apart = omega arith

inverse_of : (i k : ℕ) → i < prime → k < prime → felt_mul i k ≡ 1 → (i ≢ 0) × (k ≡ felt_inv i)
inverse_of i k li lk one = (apart, felt_inv-unique i k (above_zero i apart) li lk one)
  where
    apart : i ≢ 0
    apart e = let none = felt_mul-zero_first i k e in omega arith

-- ---- the cells that the operation leaves

-- what the entries of comparisons say
record Compares (op : Op) (x y : List ℕ) : Type 0 where
  zero_or : is_op op ops.Eqz ≡ true → (s x 0 ≡ 0) ⊎ (s y 0 ≡ 0)
  same_or : is_op op ops.Eq ≡ true → (s x 0 ≡ s x 1) ⊎ (s y 0 ≡ 0)

first_alone : (P : ℕ → Type 0) → P 0 → (j : ℕ) → j < 1 → P j
first_alone P p zero few = p
first_alone P p (suc j) few = absurd (omega arith)

module _ (x y : List ℕ) (low : Low x) where
  leaves_shown : (op : Op) → Low y → Compares op x y → ((j : ℕ) → j < leaves_of op → TopFact op j x y) → LeavesCells op x y
  leaves_shown ops.Eqz low_next k tops =
      let c = compared (s x 0) 0 (s x 0) (s y 0) (w x 0) (λ e. e) (low_next 30) (tops 0 (lit< tt)) (k.zero_or refl) in
      record {
        cells = λ free. first_alone (λ j. s y j ≡ left_value ops.Eqz j x) (c.0 ∙ sym (eqz_cell x));
        not_zero = λ is. c.1;
        not_same = λ is. off is;
        inverted = λ is. off is;
      }
  leaves_shown ops.Eq low_next k tops =
      let c =
      compared (s x 0) (s x 1) (felt_sub (s x 0) (s x 1)) (s y 0) (w x 0) (difference_same _ _ (low 30)) (low_next 30) (tops 0 (lit< tt)) (k.same_or refl)
      in record {
        cells = λ free. first_alone (λ j. s y j ≡ left_value ops.Eq j x) (c.0 ∙ sym (eq_cell x));
        not_zero = λ is. off is;
        not_same = λ is. c.1;
        inverted = λ is. off is;
      }
  leaves_shown ops.Inv low_next k tops =
      let found = inverse_of (s x 0) (s y 0) (low 30) (low_next 30) (tops 0 (lit< tt)) in
      record {
        cells = λ free. first_alone (λ j. s y j ≡ left_value ops.Inv j x) (found.1 ∙ sym (inv_cell x));
        not_zero = λ is. off is;
        not_same = λ is. off is;
        inverted = λ is. found.0;
      }
  leaves_shown op low_next k tops =
      record { cells = λ free j few. tops j few free; not_zero = λ is. off is; not_same = λ is. off is; inverted = λ is. off is }

  zero_compared : LeavesCells ops.Eqz x y → Compared (s x 0) 0 (s x 0) (s y 0) (w x 0)
  zero_compared l = (l.cells refl 0 (lit< tt) ∙ eqz_cell x, l.not_zero refl)

  same_compared : LeavesCells ops.Eq x y → Compared (s x 0) (s x 1) (felt_sub (s x 0) (s x 1)) (s y 0) (w x 0)
  same_compared l = (l.cells refl 0 (lit< tt) ∙ eq_cell x, l.not_same refl)

  compares_from : (op : Op) → LeavesCells op x y → Compares op x y
  compares_from ops.Eqz l = record { zero_or = λ is. compared_or _ _ (s x 0) _ (w x 0) (λ e. e) (zero_compared l); same_or = λ is. off is }
  compares_from ops.Eq l =
      record { zero_or = λ is. off is; same_or = λ is. compared_or _ _ _ _ (w x 0) (difference_same _ _ (low 30)) (same_compared l) }
  compares_from op l = record { zero_or = λ is. off is; same_or = λ is. off is }

  top_back : (op : Op) (j : ℕ) → LeavesCells op x y → j < leaves_of op → TopFact op j x y
  top_back ops.Eqz j l few = compared_sum (s x 0) 0 (s x 0) (s y 0) (w x 0) (λ e. e) (zero_compared l)
  top_back ops.Eq j l few =
      compared_sum (s x 0) (s x 1) (felt_sub (s x 0) (s x 1)) (s y 0) (w x 0) (difference_same _ _ (low 30)) (same_compared l)
  top_back ops.Inv j l few =
      ap (felt_mul (s x 0)) (l.cells refl 0 (lit< tt) ∙ inv_cell x) ∙ felt_mul-felt_inv (s x 0) (above_zero (s x 0) (l.inverted refl)) (low 30)
  top_back op j l few = λ free. l.cells free j few

-- ---- the cells below them

left_leaves : (op : Op) → is_left op ≡ true → leaves_of op ≤ 15
left_leaves ops.SwapW is = off is
left_leaves ops.SwapW2 is = off is
left_leaves ops.SwapW3 is = off is
left_leaves ops.SwapDW is = off is
left_leaves op is = lit≤ tt

and_left : (t u : Bool) → t && u ≡ true → t ≡ true
and_left true u e = refl
and_left false u e = off e

past : (j n : ℕ) → n ≤ j → nat_lt j n ≡ false
past j n le = grind (arith, nat_tests)

not_less : (j n : ℕ) → nat_lt j n ≡ false → n ≤ j
not_less j n e = grind (arith, nat_tests)

less : (j n : ℕ) → j < n → nat_lt j n ≡ true
less j n few = grind (arith, nat_tests)

module _ (x y : List ℕ) where
  shifts_from : (op : Op) → ((j : ℕ) → leaves_of op ≤ j → j < 16 → BelowFact op j x y) → ShiftsCells op x y
  shifts_from op facts = record {
    brings = λ j le few. (facts j le few).1;
    last = λ left. (facts 15 (left_leaves op left) (lit< tt)).0 (ap (λ t. t && true) left);
  }

  below_back : (op : Op) (j : ℕ) → ShiftsCells op x y → leaves_of op ≤ j → j < 16 → BelowFact op j x y
  below_back op j k le few = (λ e. k.last (and_left (is_left op) (eqb j 15) e), k.brings j le few)

  end_shifts : (t : Bool) → ((j : ℕ) → j < 16 → (not t ≡ true → BelowFact ops.End j x y) × (t ≡ true → BelowFact ops.Drop j x y))
      → ShiftsCells (cond t ops.Drop ops.End) x y
  end_shifts true facts = shifts_from ops.Drop (λ j le few. (facts j few).1 refl)
  end_shifts false facts = shifts_from ops.End (λ j le few. (facts j few).0 refl)

  end_back : (t : Bool) (j : ℕ) → ShiftsCells (cond t ops.Drop ops.End) x y → j < 16
      → (not t ≡ true → BelowFact ops.End j x y) × (t ≡ true → BelowFact ops.Drop j x y)
  end_back true j k few = (λ e. off e, λ e. below_back ops.Drop j k (omega arith) few)
  end_back false j k few = (λ e. below_back ops.End j k (omega arith) few, λ e. off e)

  shifts_shown : (op : Op) → ((j : ℕ) → j < 16 → CellFact op j x y) → ShiftsCells (mover op x) x y
  shifts_shown ops.End facts = end_shifts (eqb (h x 4) 1) (λ j few. (facts j few).0 refl)
  shifts_shown op facts = shifts_from op (λ j le few. ((facts j few).1 refl).1 (past j (leaves_of op) le))

  tops_shown : (op : Op) → ((j : ℕ) → j < 16 → CellFact op j x y) → (j : ℕ) → j < leaves_of op → TopFact op j x y
  tops_shown ops.End facts j few = absurd (omega arith)
  tops_shown op facts j few =
      let most : leaves_of op ≤ 16 = leaves_of-below op in ((facts j (omega (arith, few, most))).1 refl).0 (less j (leaves_of op) few)

  cell_back : (op : Op) (j : ℕ) → Low x → ShiftsCells (mover op x) x y → LeavesCells op x y → j < 16 → CellFact op j x y
  cell_back ops.End j low k l few = (λ is. end_back (eqb (h x 4) 1) j k few, λ other. never other)
  cell_back op j low k l few = (
    λ is. off is,
    λ other. (λ e. top_back x y low op j l (less_of j (leaves_of op) e), λ e. below_back op j k (not_less j (leaves_of op) e) few),
  )

-- ---- a row in its place

tops_is : (op : Op) → felt_add (felt_add (felt_add (felt_add (hot op ops.Not) (hot op ops.And)) (hot op ops.Or)) (hot op ops.CSwap))
    (hot op ops.CSwapW) ≡ cond (tests_top op) 1 0
tops_is ops.Not = refl
tops_is op = refl

seconds_is : (op : Op) → felt_add (hot op ops.And) (hot op ops.Or) ≡ cond (tests_two op) 1 0
seconds_is ops.And = refl
seconds_is op = refl

pub stack_means : (op : Op) (p : Spot) → HasOps op p → IsBlockRow op p.cur → Means (stack_values p) (ShowsStack op p)
unfolding stack_values cell_values operand_values entry_135 entry_136 entry_137 entry_138 entry_139
stack_means op p r row =
    means_as
    (part_then (depth_means op p r row) (λ depth. given {A = tests_top op ≡ true → s x 0 < 2}
    (λ z. bit.shown (zero_back (cell_values p) (operand_values p) z 2)) (λ h. h.1.1.1.0) (λ top.
    each 16 (λ j few. pair_at (entry_119 j) r (λ y n. cell_says op (op_of y) j x y low n.low depth.0 row.ends top))
    ⧺ pair_at entry_135 r (λ y n. gate_mul refl (zero_says (low 30)) (zero_says (n.low 30)))
    ▸ pair_at entry_136 r (λ y n. gate_mul refl (sub_says (low 30) (low 31)) (zero_says (n.low 30)))
    ▸ bit ▸ row_at entry_138 r (gate_bit (seconds_is op) (low 31)) ▸ row_at entry_139 r (gate refl (sub_says (low 30) (lit< tt))) ▸ nothing)))
    (λ ((witness, returns, moves), (facts, (zero_or, (same_or, (top, (second, (asserted, done))))))). record {
      row = record { witness = witness; returns = returns; top = top; second = second; asserted = asserted };
      pair = λ y e. record {
        depth_moves = moves y e;
        shifts = shifts_shown x y op (λ j few. facts j few y e);
        leaves =
            leaves_shown x y low op (r.behind y e).low (record { zero_or = zero_or y e; same_or = same_or y e })
            (tops_shown x y op (λ j few. facts j few y e));
      };
    })
    (λ shows. (shows.row.witness, shows.row.returns, λ y e. (shows.pair y e).depth_moves)
    & (λ j few y e. cell_back x y op j low (shows.pair y e).shifts (shows.pair y e).leaves few)
    & (λ y e. (compares_from x y low op (shows.pair y e).leaves).zero_or) & (λ y e. (compares_from x y low op (shows.pair y e).leaves).same_or)
    & shows.row.top & shows.row.second & shows.row.asserted & tt)
  where
    x : List ℕ
    x = p.cur

    low : Low x
    low = r.here.low

    bit : Says (on_row entry_137 p) (tests_top op ≡ true → s x 0 < 2)
    bit = row_at entry_137 r (gate_bit (tops_is op) (low 30))
