-- A row whose depth, key and cells move as its operation moves them has no fault among them.
use Rattle.std.proofs.Common.{◌≡◌, ◌≢◌, ℕ, ◌+◌, ◌-◌, ◌%◌, ◌<◌, ◌≤◌, Bool, true, false, ◌&&◌, cond, eqb, nat_lt, List, get_or, length, map, All, Option, Some, None, refl, sym, ap, subst, ◌∙◌, inl, inr, arith, zero-mul}
use Rattle.std.proofs.lemmas.Bool.{cases_Bool, eqb-true}
use Rattle.std.proofs.lemmas.Bool.Decides.{nat_tests}
use Rattle.vm_field.specs.Field.{prime, felt_add, felt_sub, felt_mul}
use Rattle.vm_ops.specs.Codes.{code_of}
use Rattle.vm_ops.specs.Moves.{leaves_of, shift_of, sources_of, takes_of}
use Rattle.vm_ops.specs.declared.op.Op.{Op}
use Rattle.vm_ops.specs.declared.op.Op.TheVariants as ops
use Rattle.vm_ops.specs.declared.op.Shift.{Shift}
use Rattle.vm_ops.specs.declared.op.Shift.TheVariants.{Left, Stay, Right}
use Rattle.vm_ops.proofs.CodeLemmas.{code_of-different}
use Rattle.vm_ops.proofs.MoveLemmas.{ByOne, shift_of-by_one}
use Rattle.vm_table.specs.MainColumns.{clk, depth, h, key, s}
use Rattle.air_kit.specs.BlockValues.{calls, returns}
use Rattle.air_kit.specs.Flags.{HasOp, flag, flags_of, is_left, is_op, is_right, is_shift, sum_over}
use Rattle.air_kit.specs.Places.{Spot, first_fault_of, on_pair}
use Rattle.air_kit.specs.StackValues.{below_term, cell_values, cells, deeper, depth_values, end_term, entry_115, entry_116, entry_117, entry_118, entry_119, keeps_depth, operand_values, shifts_left, shifts_right, stack_values, term, top_term}
use Rattle.air_kit.proofs.FlagLemmas.{at_op, flag_apart, flags_of-hot, sum_over-hot}
use Rattle.air_kit.proofs.ZeroLemmas.{no_fault, zeros_family}
use Rattle.air_stack.specs.Parts.{spot_between}
use Rattle.air_stack.proofs.PartLemmas.{answer_joins}
use Rattle.air_stack.proofs.TermLemmas.{copied_term, moved_at}
use Rattle.air_stack.specs.Quick.{AreCopies, ComeUp, EndsBlock, EndsCall, EndsLoop, Falls, GoDown, IsMoved, IsSteady, Rises, Shifts, StayLevel, Stays}

infixr 20 ◌&◌
-- one value that is 0, and those behind it
abbrev ◌&◌ : {P Q : Type 0} → P → Q → P × Q
p & q = (p, q)

-- ---- the depth and the key

-- what the entries of the depth and the key read, where the row starts no call
record Moves (x : List ℕ) (right left returned : ℕ) : Type 0 where
  right_is : shifts_right (flag x) ≡ right
  left_is : shifts_left (flag x) x ≡ left
  calls_is : calls (flag x) ≡ 0
  returns_is : returns (flag x) x ≡ returned

same_bit : (t : Bool) → felt_add (cond t 1 0) 0 ≡ cond t 1 0
same_bit true = refl
same_bit false = refl

steady_moves : (x : List ℕ) (op : Op) → HasOp x op → IsSteady op
    → Moves x (cond (is_shift Right (shift_of op)) 1 0) (cond (is_shift Left (shift_of op)) 1 0) 0
unfolding shifts_left shifts_right calls returns
steady_moves x op has steady =
    let end = flag_apart x op ops.End has (λ e. steady.not_end (sym e)) in
    let call = flag_apart x op ops.Call has (λ e. steady.not_call (sym e)) in
    let syscall = flag_apart x op ops.Syscall has (λ e. steady.not_syscall (sym e)) in
    record {
      right_is = at_op has (flags_of is_right) ∙ flags_of-hot op is_right;
      left_is = rw (at_op has (flags_of is_left) ∙ flags_of-hot op is_left, end) (simp zero-mul (same_bit (is_left op)));
      calls_is = rw (call, syscall) refl;
      returns_is = rw end (simp zero-mul);
    }

-- at an END, by the flag of a loop and the sum of the flags of calls
end_moves : (x : List ℕ) (loop call : ℕ) → HasOp x ops.End → h x 4 ≡ loop → felt_add (h x 6) (h x 7) ≡ call
    → Moves x 0 (felt_add 0 (felt_mul 1 loop)) (felt_mul 1 call)
unfolding shifts_left shifts_right calls returns
end_moves x loop call has entered called = record {
  right_is = at_op has (flags_of is_right) ∙ flags_of-hot ops.End is_right;
  left_is = rw (at_op has (flags_of is_left) ∙ flags_of-hot ops.End is_left, has.flags ops.End, entered) refl;
  calls_is = rw (has.flags ops.Call, has.flags ops.Syscall) refl;
  returns_is = rw (has.flags ops.End, called) refl;
}

one_times : (a : ℕ) → felt_mul 1 (felt_sub 1 a) ≡ felt_sub 1 a
one_times a = omega arith

-- the stack is as deep as its flag says
abbrev pub IsDeep : List ℕ → Type 0
IsDeep x = felt_mul (felt_sub (depth x) 16) (felt_sub 1 (deeper x)) ≡ 0

-- 1 where the depth stays
abbrev keeps : ℕ → ℕ → ℕ → ℕ
keeps right left returned = felt_sub (felt_sub (felt_sub (felt_sub 1 right) left) 0) returned

module _ (x y : List ℕ) where
  abbrev pub here : Spot
  here = spot_between x (Some y)

  depths_zero : (right left returned : ℕ) → Moves x right left returned → IsDeep x
      → felt_add (felt_add (felt_add (felt_mul right (felt_sub (felt_sub (depth y) (depth x)) 1))
      (felt_mul left (felt_add (felt_sub (depth y) (depth x)) (deeper x)))) (felt_mul 0 (felt_sub (depth y) 16)))
      (felt_mul (keeps right left returned) (felt_sub (depth y) (depth x))) ≡ 0
      → felt_mul returned (felt_sub (depth x) 16) ≡ 0
      → felt_add (felt_add (felt_add (felt_mul right (felt_sub (key y) (clk x))) (felt_mul (felt_mul left (felt_sub 1 (deeper x))) (felt_sub (key y) (key x))))
      (felt_mul 0 (key y))) (felt_mul (keeps right left returned) (felt_sub (key y) (key x))) ≡ 0
      → first_fault_of 115 (depth_values here) ≡ None
  unfolding depth_values entry_115 entry_116 entry_117 entry_118 keeps_depth
  depths_zero right left returned m deep depth_is back key_is =
      no_fault 115 (depth_values here) (deep & (rw (m.right_is, m.left_is, m.calls_is, m.returns_is) depth_is) & (rw (m.returns_is) back)
      & (rw (m.right_is, m.left_is, m.calls_is, m.returns_is) key_is) & tt)

  falls : Moves x 0 1 0 → IsDeep x → Falls x y → first_fault_of 115 (depth_values here) ≡ None
  falls m deep k =
      depths_zero 0 1 0 m deep (rw (k.fewer) (simp zero-mul)) (simp zero-mul) (rw (one_times (deeper x), k.same_key) (simp zero-mul))

  stays : Moves x 0 0 0 → IsDeep x → Stays x y → first_fault_of 115 (depth_values here) ≡ None
  stays m deep k = depths_zero 0 0 0 m deep (rw (k.as_many) (simp zero-mul)) (simp zero-mul) (rw (k.same_key) (simp zero-mul))

  rises : Moves x 1 0 0 → IsDeep x → Rises x y → first_fault_of 115 (depth_values here) ≡ None
  rises m deep k = depths_zero 1 0 0 m deep (rw (k.more) (simp zero-mul)) (simp zero-mul) (rw (k.new_key) (simp zero-mul))

  returns_full : Moves x 0 0 1 → IsDeep x → felt_sub (depth x) 16 ≡ 0 → first_fault_of 115 (depth_values here) ≡ None
  returns_full m deep full = depths_zero 0 0 1 m deep (simp zero-mul) (rw full refl) (simp zero-mul)

  pub depth_clean : (op : Op) → HasOp x op → IsSteady op → IsDeep x → Shifts (shift_of op) x y → first_fault_of 115 (depth_values here) ≡ None
  depth_clean op has steady deep moves = go (shift_of op) (steady_moves x op has steady) moves
    where
      go : (shift : Shift) → Moves x (cond (is_shift Right shift) 1 0) (cond (is_shift Left shift) 1 0) 0 → Shifts shift x y
          → first_fault_of 115 (depth_values here) ≡ None
      go Left m k = falls m deep k
      go Stay m k = stays m deep k
      go Right m k = rises m deep k

-- ---- the cells

not_less : (a b : ℕ) → nat_lt a b ≡ false → b ≤ a
not_less a b e = grind (arith, nat_tests)

is_less : (a b : ℕ) → nat_lt a b ≡ true → a < b
is_less a b e = grind (arith, nat_tests)

by_one : (op : Op) (shift : Shift) → shift_of op ≡ shift → ByOne shift (takes_of op) (leaves_of op)
by_one op shift is = subst (λ shift. ByOne shift (takes_of op) (leaves_of op)) is (shift_of-by_one op)

last_or_not : (t : Bool) (a b c : ℕ) → (t ≡ true → a ≡ 0) → (t ≡ false → b ≡ 0) → cond t a b ≡ 0
last_or_not true a b c last other = last refl
last_or_not false a b c last other = other refl

not_last : (j : ℕ) → j < 16 → eqb j 15 ≡ false → j < 15
not_last j low differ = grind (arith, nat_tests)

module _ (x y : List ℕ) (op : Op) where
  cells_zero : HasOp x op → ((j : ℕ) → j < 16 → term j x y op ≡ 0) → first_fault_of 119 (cell_values (here x y)) ≡ None
  unfolding cell_values entry_119
  cells_zero has zero =
      no_fault 119 (cell_values (here x y)) (zeros_family 16 (λ j. on_pair (entry_119 j) (here x y))
      (λ j low. at_op has (λ fl. sum_over fl (term j x y)) ∙ sum_over-hot op (term j x y) ∙ ap (λ n. n % prime) (zero j low)))

  term_zero : code_of op ≢ 76 → ((j : ℕ) → j < leaves_of op → top_term j x y op ≡ 0)
      → ((j : ℕ) → j < 16 → leaves_of op ≤ j → below_term j x y op ≡ 0) → (j : ℕ) → j < 16 → term j x y op ≡ 0
  unfolding term
  term_zero not_end tops below j low =
      elim (cases_Bool (is_op op ops.End)) [
        | inl same ↦ absurd (not_end (eqb-true (code_of op) 76 same))
        | inr differ ↦
            elim (cases_Bool (nat_lt j (leaves_of op))) [
              | inl less ↦ rw (differ, less) (tops j (is_less j (leaves_of op) less))
              | inr more ↦ rw (differ, more) (below j low (not_less j (leaves_of op) more))
            ]
      ]

  pub cells_clean : HasOp x op → IsSteady op → ((j : ℕ) → j < leaves_of op → top_term j x y op ≡ 0)
      → ((j : ℕ) → j < 16 → leaves_of op ≤ j → below_term j x y op ≡ 0) → first_fault_of 119 (cell_values (here x y)) ≡ None
  cells_clean has steady tops below = cells_zero has (term_zero steady.not_end tops below)

  -- below a shift
  below_value : (left : Bool) (j k : ℕ) → is_left op ≡ left → (left && eqb j 15 ≡ true → felt_mul (felt_sub 1 (deeper x)) (s y 15) ≡ 0)
      → k ≡ j + takes_of op - leaves_of op → (left && eqb j 15 ≡ false → felt_sub (s y j) (s x k) ≡ 0) → below_term j x y op ≡ 0
  unfolding below_term
  below_value left j k is last place other =
      rw is (last_or_not (left && eqb j 15) _ _ 0 last (λ e. subst (λ k. felt_sub (s y j) (s x k) ≡ 0) place (other e)))

  pub left_clean : shift_of op ≡ Left → felt_mul (felt_sub 1 (deeper x)) (s y 15) ≡ 0 → ComeUp (leaves_of op) x y
      → (j : ℕ) → j < 16 → leaves_of op ≤ j → below_term j x y op ≡ 0
  left_clean is free up j low from =
      let more : takes_of op ≡ leaves_of op + 1 = by_one op Left is in
      below_value true j (j + 1) (ap (is_shift Left) is) (λ last. free) (omega (arith, more, from)) (λ other. up j from (not_last j low other))

  pub level_clean : shift_of op ≡ Stay → StayLevel (leaves_of op) x y → (j : ℕ) → j < 16 → leaves_of op ≤ j → below_term j x y op ≡ 0
  level_clean is level j low from =
      let same : takes_of op ≡ leaves_of op = by_one op Stay is in
      below_value false j j (ap (is_shift Left) is) (λ clash. absurd (let h : false ≡ true = clash in cc)) (omega (arith, same, from))
      (λ other. level j from low)

  pub right_clean : shift_of op ≡ Right → GoDown (leaves_of op) x y → (j : ℕ) → j < 16 → leaves_of op ≤ j → below_term j x y op ≡ 0
  right_clean is down j low from =
      let more : leaves_of op ≡ takes_of op + 1 = by_one op Right is in
      below_value false j (j - 1) (ap (is_shift Left) is) (λ clash. absurd (let h : false ≡ true = clash in cc)) (omega (arith, more, from))
      (λ other. down j from low)

-- the cells that a move leaves
pub copies_clean : (x y : List ℕ) (op : Op) (sources : List ℕ) (left : ℕ) → sources ≡ sources_of op → left ≡ leaves_of op → length sources ≡ left
    → All (λ i. i < 16) sources → AreCopies sources x y → (j : ℕ) → j < leaves_of op → top_term j x y op ≡ 0
copies_clean x y op sources left is many same visible copies j low =
    let all : length (sources_of op) ≡ leaves_of op = ap length (sym is) ∙ same ∙ many in
    let inside : j < length sources = omega (arith, low, same, many) in
    copied_term j x y op all
    ∙ ap (λ list. felt_sub (s y j) (get_or (map (λ k. get_or (cells x) k 0) list) j 0)) (sym is)
    ∙ ap (felt_sub (s y j)) (sym (moved_at sources x j visible inside))
    ∙ copies j inside

-- the whole answer, where the parts before the operands have no fault
pub moved_answer : (p : Spot) (x : List ℕ) (next : Option (List ℕ)) (operands : Option (ℕ × ℕ)) → x ≡ p.cur → next ≡ p.next → IsMoved x next
    → operands ≡ first_fault_of 135 (operand_values (spot_between x next)) → operands ≡ first_fault_of 115 (stack_values p)
moved_answer p x next operands same after moved is =
    answer_joins p x None None operands operands operands same
    (subst (λ n. None ≡ first_fault_of 115 (depth_values (spot_between x n))) after (sym moved.depths))
    (subst (λ n. None ≡ first_fault_of 119 (cell_values (spot_between x n))) after (sym moved.tops))
    (subst (λ n. operands ≡ first_fault_of 135 (operand_values (spot_between x n))) after is) refl refl

pub free_last : (m a d t deep last : ℕ) → m ≡ felt_mul a t → a ≡ felt_sub 1 d → d ≡ deep → t ≡ last → m ≡ 0 → felt_mul (felt_sub 1 deep) last ≡ 0
free_last m a d t deep last product less is cell none = cc

-- ---- an END

level_end : (x y : List ℕ) → h x 4 ≡ 0 → StayLevel 0 x y → (j : ℕ) → j < 16 → end_term j x y ≡ 0
unfolding end_term
level_end x y entered level j low = rw (entered, level_clean x y ops.End refl level j low (omega arith)) (simp zero-mul)

left_end : (x y : List ℕ) → h x 4 ≡ 1 → felt_mul (felt_sub 1 (deeper x)) (s y 15) ≡ 0 → ComeUp 0 x y → (j : ℕ) → j < 16 → end_term j x y ≡ 0
unfolding end_term
left_end x y entered free up j low = rw (entered, left_clean x y ops.Drop refl free up j low (omega arith)) (simp zero-mul)

module _ (x y : List ℕ) (op : Op) (has : HasOp x op) (is : code_of op ≡ 76) (deep : IsDeep x) where
  end_is : HasOp x ops.End
  end_is = subst (HasOp x) (code_of-different op ops.End is) has

  end_cells : ((j : ℕ) → j < 16 → end_term j x y ≡ 0) → first_fault_of 119 (cell_values (here x y)) ≡ None
  unfolding term
  end_cells zero = cells_zero x y ops.End end_is zero

  pub ends_block : h x 4 ≡ 0 → felt_add (h x 6) (h x 7) ≡ 0 → EndsBlock x y → IsMoved x (Some y)
  ends_block entered called ends = record {
    depths = stays x y (end_moves x 0 0 end_is entered called) deep ends.kept;
    tops = end_cells (level_end x y entered ends.cells);
  }

  pub ends_call : h x 4 ≡ 0 → felt_add (h x 6) (h x 7) ≡ 1 → EndsCall x y → IsMoved x (Some y)
  ends_call entered called ends = record {
    depths = returns_full x y (end_moves x 0 1 end_is entered called) deep ends.full;
    tops = end_cells (level_end x y entered ends.cells);
  }

  pub ends_loop : h x 4 ≡ 1 → felt_add (h x 6) (h x 7) ≡ 0 → EndsLoop x y → IsMoved x (Some y)
  ends_loop entered called ends = record {
    depths = falls x y (end_moves x 1 0 end_is entered called) deep ends.moves;
    tops = end_cells (left_end x y entered ends.free ends.cells);
  }

pub sum_is : (sum a b first second n : ℕ) → sum ≡ felt_add a b → a ≡ first → b ≡ second → sum ≡ n → felt_add first second ≡ n
sum_is sum a b first second n is one other value = cc
