-- A row of a span whose tests pass has no fault: most entries are 0 because of its operation alone.
use Rattle.std.proofs.Common.{◌≡◌, ◌≢◌, ℕ, zero, suc, ◌+◌, ◌*◌, ◌<◌, ◌≤◌, Bool, true, false, ◌&&◌, ◌||◌, not, cond, eqb, nat_lt, List, [], ◌∷◌, ◌++◌, Option, Some, None, refl, sym, ap, subst, ◌∙◌, arith, zero-mul}
use Rattle.std.proofs.Math.Nat.{mul-zero}
use Rattle.std.proofs.lemmas.Bool.{and_parts, lt-ltb}
use Rattle.std.proofs.lemmas.Bool.Decides.{nat_tests}
use Rattle.vm_field.specs.Field.{felt_add, felt_sub, felt_mul}
use Rattle.vm_field.proofs.Algebra.{felt_mul-zero_first, felt_mul-zero_second}
use Rattle.vm_ops.specs.Codes.{code_of, every_op, is_ordinary_op, is_start_op, kind_of}
use Rattle.vm_ops.specs.declared.op.Op.{Op}
use Rattle.vm_ops.specs.declared.op.Op.TheVariants as ops
use Rattle.vm_ops.proofs.CodeLemmas.{code_of-different, ordinary-below, ordinary-starts-none}
use Rattle.vm_table.specs.MainColumns.{b, clk, f, h, sp, ox, c, s, w}
use Rattle.air_kit.specs.Flags.{flag, flag_by, flags_of, one_hot, spelled, sum_of, HasOp}
use Rattle.air_kit.specs.Places.{Claim, Spot, first_fault_of, family}
use Rattle.air_kit.specs.BoundaryValues.{boundary_values, start_values, inputs_values, end_values, outputs_values}
use Rattle.air_kit.specs.MainValues.{decoder_values}
use Rattle.air_kit.specs.OpcodeValues.{opcode_values, entry_1, entry_8, entry_9, entry_10}
use Rattle.air_kit.specs.BlockValues.{starts, batches, calls, returns, stays_inside, entry_60, entry_61, entry_62, entry_63, entry_64, entry_65, entry_66, entry_67, entry_68, entry_69, entry_70, entry_74, entry_75, entry_79, entry_80, entry_81, entry_82, entry_83, entry_84, entry_85, entry_89, entry_90, entry_91, follow_values, shown_values, kept_values, block_values}
use Rattle.air_kit.specs.SpanValues.{opcode_in, rest, rest_flag, goes_on, entry_92, entry_95, entry_96, entry_103, entry_104, entry_105, entry_106, entry_107, entry_108, entry_109, entry_110, entry_111, entry_112, entry_113, entry_114, batch_values, group_values, span_values}
use Rattle.air_kit.proofs.FlagLemmas.{at_op, flag_apart, flags_of-hot, sum_of-hot}
use Rattle.air_kit.proofs.FaultLemmas.{first_append}
use Rattle.air_kit.proofs.ZeroLemmas.{Zeros, no_fault, bit_zero, zeros_family}
use Rattle.air_blocks.specs.Entries.{of_pair, of_row, spot_with}
use Rattle.air_decoder.specs.Quick.{HasNoBatch, IsClean, IsFirstBatch, IsFrame, IsNextBatch, IsGoingOn, IsInner, IsOutside, IsOver, IsPlain, IsStep}
use Rattle.air_decoder.specs.Quick.IsOver.{opens, ends}
use Rattle.air_decoder.proofs.FaultLemmas.{batch_length, decoder_joined}

-- ---- lists of zeros

infixr 20 ◌&◌
-- one value and those behind it
abbrev pub ◌&◌ : {P Q : Type 0} → P → Q → P × Q
p & q = (p, q)

pub zeros_append : (vs ws : List ℕ) → Zeros vs → Zeros ws → Zeros (vs ++ ws)
zeros_append [] ws front back = back
zeros_append (v ∷ vs) ws front back = front.0 & zeros_append vs ws front.1 back

-- ---- flags that are 0

-- the flags of a set that the row's operation is not in
pub flags_off : (test : Op → Bool) (x : List ℕ) (op : Op) → HasOp x op → test op ≡ false → (o : Op) → test o ≡ true → flag x o ≡ 0
flags_off test x op has out o inside =
    flag_apart x op o has (λ e. (let same : o ≡ op = code_of-different o op e in
    let clash : true ≡ false = sym inside ∙ ap test same ∙ out in cc))

-- the operations that have no quick test, and JOIN, SPLIT, REPEAT and END
abbrev is_loud_code : ℕ → Bool
is_loud_code n = (nat_lt 69 n && not (eqb n 73 || eqb n 78)) || eqb n 9 || eqb n 49

abbrev pub is_loud : Op → Bool
is_loud op = is_loud_code (code_of op)

-- those without these four
abbrev pub is_rare : Op → Bool
is_rare op = is_loud op && not (eqb (code_of op) 70 || eqb (code_of op) 71 || eqb (code_of op) 76 || eqb (code_of op) 77)

abbrev pub Quiet : List ℕ → Type 0
Quiet x = (o : Op) → is_loud o ≡ true → flag x o ≡ 0

abbrev pub NotRare : List ℕ → Type 0
NotRare x = (o : Op) → is_rare o ≡ true → flag x o ≡ 0

not_rare : (x : List ℕ) → Quiet x → NotRare x
not_rare x quiet o rare = quiet o (and_parts (is_loud o) _ rare).0

-- These, and the others that entries read in a row of a plain operation or of a batch.
record RowFlags (x : List ℕ) (first again plain : ℕ) : Type 0 where
  quiet : Quiet x
  span : flag x ops.Span ≡ first
  respan : flag x ops.Respan ≡ again
  starts : flags_of is_start_op (flag x) ≡ first
  ordinary : flags_of is_ordinary_op (flag x) ≡ plain

row_flags : {first again plain : ℕ} (x : List ℕ) (op : Op) → HasOp x op → is_loud op ≡ false → one_hot op ops.Span ≡ first
    → one_hot op ops.Respan ≡ again → cond (is_start_op op) 1 0 ≡ first → cond (is_ordinary_op op) 1 0 ≡ plain → RowFlags x first again plain
row_flags x op has out span respan starts ordinary = record {
  quiet = flags_off is_loud x op has out;
  span = has.flags ops.Span ∙ span;
  respan = has.flags ops.Respan ∙ respan;
  starts = at_op has (flags_of is_start_op) ∙ flags_of-hot op is_start_op ∙ starts;
  ordinary = at_op has (flags_of is_ordinary_op) ∙ flags_of-hot op is_ordinary_op ∙ ordinary;
}

ordinary_on : (op : Op) → code_of op < 70 → is_ordinary_op op ≡ true
ordinary_on op low = ordinary-below op ∙ lt-ltb (code_of op) 70 low

plain_quiet : (n : ℕ) → n < 70 → n ≢ 9 → n ≢ 49 → is_loud_code n ≡ false
plain_quiet n low caller update = grind (arith, nat_tests)

above : (n k : ℕ) → n < 70 → 70 ≤ k → ◌≡◌ {A = ℕ} (cond (eqb k n) 1 0) 0
above n k low high = grind (arith, nat_tests)

plain_flags : (x : List ℕ) (op : Op) → HasOp x op → IsPlain op → RowFlags x 0 0 1
plain_flags x op has p =
    let low = p.ordinary in
    row_flags x op has (plain_quiet (code_of op) low p.not_caller p.not_update) (above (code_of op) 73 low (omega arith))
    (above (code_of op) 78 low (omega arith)) (rw (ordinary-starts-none (kind_of op) (ordinary_on op low)) refl) (rw (ordinary_on op low) refl)

-- Entries 1 to 10.
every_flag : (x : List ℕ) (op : Op) → HasOp x op → felt_sub 1 (sum_of every_op (flag x)) ≡ 0
every_flag x op has = at_op has (λ fl. felt_sub 1 (sum_of every_op fl)) ∙ rw (sum_of-hot op) refl

behind_first : (n : ℕ) → n ≢ 0 → eqb n 0 ≡ false
behind_first n apart = grind (arith, nat_tests)

-- the products of a flag that is 0
no_two : (a u v : ℕ) → a ≡ 0 → felt_mul (felt_mul a u) v ≡ 0
no_two a u v e = felt_mul-zero_first (felt_mul a u) v (felt_mul-zero_first a u e)

no_ninth : (s a b c d e f g h i : ℕ) → s ≡ 0
    → felt_mul (felt_mul (felt_mul (felt_mul (felt_mul (felt_mul (felt_mul (felt_mul (felt_mul s a) b) c) d) e) f) g) h) i ≡ 0
no_ninth s a b c d e f g h i z = felt_mul-zero_first _ i (no_two _ g h (no_two _ e f (no_two _ c d (no_two s a b z))))

pub returns_off : (x : List ℕ) → flag x ops.End ≡ 0 → returns (flag x) x ≡ 0
unfolding returns
returns_off x end = rw end (simp zero-mul)

-- ---- a row and the one behind it

module _ (x y : List ℕ) where
  abbrev pub here : Spot
  here = spot_with 0 x (Some y)

  -- the entries of a part have no fault
  abbrev pub NoBlockFault : Type 0
  NoBlockFault = first_fault_of 60 (block_values here) ≡ None

  abbrev pub NoBatchFault : Type 0
  NoBatchFault = first_fault_of 92 (batch_values here) ≡ None

  abbrev pub NoGroupFault : Type 0
  NoGroupFault = first_fault_of 107 (group_values here) ≡ None

  pub opcode_clean : (n : ℕ) (op : Op) → HasOp x op → n ≢ 0 → felt_sub (felt_sub (clk y) (clk x)) 1 ≡ 0
      → first_fault_of 1 (opcode_values (spot_with n x (Some y))) ≡ None
  unfolding opcode_values entry_1 entry_8 entry_9 entry_10
  opcode_clean n op has behind clock =
      no_fault 1 (opcode_values (spot_with n x (Some y))) (zeros_append _ _ (zeros_family 7 _ (λ j h. bit_zero (b x j) (has.bits j h)))
      (every_flag x op has & (rw (behind_first n behind) refl) & clock & tt))

  -- Entries 60 to 91.
  follow_list : Quiet x → of_row entry_61 x ≡ 0 → of_pair entry_64 x y ≡ 0 → of_pair entry_65 x y ≡ 0 → Zeros (follow_values here)
  unfolding follow_values calls starts entry_60 entry_62 entry_63 entry_66 entry_67 entry_68 entry_69
  follow_list q ordinary batch next =
      q ops.Halt refl & ordinary
      & (rw (
        q ops.Join refl,
        q ops.Split refl,
        q ops.Call refl,
        q ops.Syscall refl,
        q ops.Repeat refl,
        q ops.Dyn refl,
        q ops.Loop refl,
      ) (simp zero-mul))
      & (rw (q ops.Loop refl) (simp zero-mul)) & batch & next & (rw (q ops.End refl) (simp zero-mul))
      & (rw (q ops.Split refl, q ops.Loop refl) (simp zero-mul)) & (rw (q ops.Repeat refl) (simp zero-mul))
      & (rw (q ops.End refl) (simp zero-mul)) & tt

  follow_clean : RowFlags x 0 0 1 → IsStep x y → Zeros (follow_values here)
  unfolding batches entry_61 entry_64 entry_65
  follow_clean r t =
      follow_list r.quiet (rw (t.inside, r.ordinary) refl) (rw (r.span, r.respan) (simp zero-mul)) (rw (t.inside, t.follows) refl)

  batch_follow_clean : (first again : ℕ) → RowFlags x first again 0 → sp x ≡ 0 → sp y ≡ 1 → Zeros (follow_values here)
  unfolding entry_61 entry_64 entry_65
  batch_follow_clean first again r outside inside =
      follow_list r.quiet (rw (outside, r.ordinary) refl) (rw inside (felt_mul-zero_second (batches (flag x)) 0 refl))
      (rw outside (simp zero-mul))

  pub shown_zeros : NotRare x → ((j : ℕ) → j < 4 → of_row (entry_70 j) x ≡ 0) → of_row entry_74 x ≡ 0 → Zeros (shown_values here)
  unfolding shown_values calls entry_75 entry_79 entry_80 entry_81
  shown_zeros q bits kinds =
      zeros_append _ _ (zeros_family 4 _ bits) (kinds
      & zeros_append _ _
      (zeros_family 4 _ (λ j h. rw (q ops.Loop refl, q ops.Call refl, q ops.Syscall refl, q ops.Dyn refl) (simp zero-mul)))
      ((rw (q ops.Call refl, q ops.Syscall refl) (simp zero-mul)) & (rw (q ops.Caller refl) (simp zero-mul))
      & (rw (q ops.Halt refl) (simp zero-mul)) & tt))

  pub no_kinds : flag x ops.End ≡ 0 → NotRare x → Zeros (shown_values here)
  unfolding entry_70 entry_74
  no_kinds end q = shown_zeros q (λ j low. rw end (simp zero-mul)) (rw end (simp zero-mul))

  inside_is : (return : ℕ) → NotRare x → returns (flag x) x ≡ return → stays_inside (flag x) x ≡ felt_sub (felt_sub 1 0) return
  unfolding stays_inside calls
  inside_is return q is = rw (q ops.Call refl, q ops.Syscall refl, is) refl

  -- entries 82 to 88
  pub record FrameZero : Type 0 where
    context : of_pair entry_82 x y ≡ 0
    locals : of_pair entry_83 x y ≡ 0
    mode : of_pair entry_84 x y ≡ 0
    digest : (j : ℕ) → j < 4 → of_pair (entry_85 j) x y ≡ 0

  digest_kept : IsFrame x y → (j : ℕ) → j < 4 → felt_sub (f y j) (f x j) ≡ 0
  digest_kept k zero h = k.digest_0
  digest_kept k (suc zero) h = k.digest_1
  digest_kept k (suc (suc zero)) h = k.digest_2
  digest_kept k (suc (suc (suc zero))) h = k.digest_3
  digest_kept k (suc (suc (suc (suc j)))) h = absurd (omega arith)

  pub frame_zeros : NotRare x → returns (flag x) x ≡ 0 → IsFrame x y → FrameZero
  unfolding entry_82 entry_83 entry_84 entry_85
  frame_zeros q back k =
      let call = q ops.Call refl in
      let syscall = q ops.Syscall refl in
      let inside = inside_is 0 q back in
      record {
        context = rw (call, syscall, inside, k.context) (simp zero-mul);
        locals = rw (call, syscall, q ops.FmpUpdate refl, inside, k.locals) (simp zero-mul);
        mode = rw (call, syscall, inside, k.mode) (simp zero-mul);
        digest = λ j h. rw (call, back, digest_kept k j h) (simp zero-mul);
      }

  -- behind a call the bus of blocks brings the frame back
  pub frame_free : NotRare x → returns (flag x) x ≡ 1 → FrameZero
  unfolding entry_82 entry_83 entry_84 entry_85
  frame_free q back =
      let call = q ops.Call refl in
      let syscall = q ops.Syscall refl in
      let inside = inside_is 1 q back in
      record {
        context = rw (call, syscall, inside) (simp zero-mul);
        locals = rw (call, syscall, q ops.FmpUpdate refl, inside) (simp zero-mul);
        mode = rw (call, syscall, inside) (simp zero-mul);
        digest = λ j h. rw (call, back) (simp zero-mul);
      }

  frame_clean : Quiet x → IsFrame x y → FrameZero
  frame_clean q k = frame_zeros (not_rare x q) (returns_off x (q ops.End refl)) k

  pub kept_list : FrameZero → of_pair entry_89 x y ≡ 0 → of_pair entry_90 x y ≡ 0 → of_pair entry_91 x y ≡ 0 → Zeros (kept_values here)
  unfolding kept_values
  kept_list z block level batch = z.context & z.locals & z.mode & zeros_append _ _ (zeros_family 4 _ z.digest) (block & level & batch & tt)

  kept_clean : RowFlags x 0 0 1 → IsStep x y → Zeros (kept_values here)
  unfolding starts entry_89 entry_90 entry_91
  kept_clean r t =
      let k = t.kept in
      let end = r.quiet ops.End refl in
      kept_list (frame_clean r.quiet k.frame) (rw (r.starts, end, k.block) refl) (rw (k.level, r.starts, end) refl)
      (rw (r.span, r.respan, t.inside, k.batch) (simp zero-mul))

  first_kept_clean : RowFlags x 1 0 0 → IsFirstBatch x y → Zeros (kept_values here)
  unfolding starts entry_89 entry_90 entry_91
  first_kept_clean r k =
      let end = r.quiet ops.End refl in
      kept_list (frame_clean r.quiet k.frame) (rw (r.starts, end) (simp zero-mul)) (rw (r.starts, k.level, end) refl)
      (rw (r.span, r.respan, k.outside, k.batch) (simp zero-mul))

  next_kept_clean : RowFlags x 0 1 0 → IsNextBatch x y → Zeros (kept_values here)
  unfolding starts entry_89 entry_90 entry_91
  next_kept_clean r k =
      let end = r.quiet ops.End refl in
      kept_list (frame_clean r.quiet k.frame) (rw (r.starts, end, k.block) refl) (rw (k.level, r.starts, end) refl)
      (rw (r.span, r.respan, k.outside, k.batch) (simp zero-mul))

  pub block_clean : Zeros (follow_values here) → Zeros (shown_values here) → Zeros (kept_values here) → NoBlockFault
  unfolding block_values
  block_clean follow shown kept = no_fault 60 (block_values here) (zeros_append _ _ follow (zeros_append _ _ shown kept))

  quiet_clean : Quiet x → Zeros (follow_values here) → Zeros (kept_values here) → NoBlockFault
  quiet_clean q follow kept = block_clean follow (no_kinds (q ops.End refl) (not_rare x q)) kept

  -- Entries 92 to 106.
  batch_clean : batches (flag x) ≡ 0 → NoBatchFault
  unfolding batch_values entry_92 entry_95 entry_96 entry_103 entry_104 entry_105 entry_106
  batch_clean e =
      no_fault 92 (batch_values here) (zeros_append _ _ (zeros_family 3 _ (λ j h. no_two _ _ _ e)) (no_two _ _ _ e
      & zeros_append _ _ (zeros_family 7 _ (λ j h. no_two _ _ _ e))
      (felt_mul-zero_first _ _ e & felt_mul-zero_first _ _ e & felt_mul-zero_first _ _ e & felt_mul-zero_first _ _ e & tt)))

  span_clean : NoBatchFault → NoGroupFault
      → first_fault_of 92 (span_values here) ≡ None
  unfolding span_values
  span_clean batch group = first_append 92 (batch_values here) (group_values here) ∙ rw (batch, batch_length here) group

  -- outside a span no group goes on
  no_group : sp x ≡ 0 → NoGroupFault
  unfolding group_values entry_107 entry_108 entry_109 entry_110 entry_111 entry_112 entry_113 entry_114
  no_group e =
      no_fault 107 (group_values here) (no_two _ _ _ e & no_two _ _ _ e & no_two _ _ _ e & no_two _ _ _ e & felt_mul-zero_first _ _ (no_two _ _ _ e)
      & no_two _ _ _ e & no_two _ _ _ e & no_ninth _ _ _ _ _ _ _ _ _ _ e & tt)

-- Entries 107 to 114.

-- the number of the operation is its code
joined_bits : (n0 n1 n2 n3 n4 n5 n6 : ℕ) → n0 < 2 → n1 < 2 → n2 < 2 → n3 < 2 → n4 < 2 → n5 < 2 → n6 < 2
    → felt_add (felt_add (felt_add (felt_add (felt_add (felt_add n0 (felt_mul 2 n1)) (felt_mul 4 n2)) (felt_mul 8 n3))
    (felt_mul 16 n4)) (felt_mul 32 n5)) (felt_mul 64 n6)
    ≡ n0 + 2 * (n1 + 2 * (n2 + 2 * (n3 + 2 * (n4 + 2 * (n5 + 2 * (n6 + 2 * 0))))))
joined_bits n0 n1 n2 n3 n4 n5 n6 l0 l1 l2 l3 l4 l5 l6 = omega arith

code_is : (x : List ℕ) (op : Op) → HasOp x op → opcode_in x ≡ code_of op
unfolding opcode_in spelled
code_is x op has =
    joined_bits (b x 0) (b x 1) (b x 2) (b x 3) (b x 4) (b x 5) (b x 6) (has.bits 0 (omega arith)) (has.bits 1 (omega arith))
    (has.bits 2 (omega arith))
    (has.bits 3 (omega arith)) (has.bits 4 (omega arith)) (has.bits 5 (omega arith)) (has.bits 6 (omega arith))
    ∙ sym has.spells

pub rest_is : (x : List ℕ) (op : Op) (code left : ℕ) → HasOp x op → code ≡ code_of op → left ≡ felt_sub (h x 0) code → left ≡ rest x
unfolding rest
rest_is x op code left has is less = less ∙ ap (felt_sub (h x 0)) (is ∙ sym (code_is x op has))

-- a place below nine is one of nine
places : (a : ℕ) → a < 9
    → felt_mul (felt_mul (felt_mul
    (felt_mul (felt_mul (felt_mul (felt_mul (felt_mul (felt_mul 1 a) (felt_sub a 1)) (felt_sub a 2)) (felt_sub a 3))
    (felt_sub a 4)) (felt_sub a 5)) (felt_sub a 6)) (felt_sub a 7)) (felt_sub a 8) ≡ 0
places (suc (suc (suc (suc (suc (suc (suc (suc (suc a))))))))) l = absurd (omega arith)
places a l = refl

module _ (x y : List ℕ) (left push : ℕ) (is : left ≡ rest x) (pushes : push ≡ flag x ops.Push) (inside : sp x ≡ 1) (low : ox x < 9) where
  place_clean : entry_114 (flag x) x ≡ 0
  unfolding entry_114
  place_clean = rw inside (places (ox x) low)

  -- A group that goes on.
  group_goes : entry_107 (flag x) x ≡ 0 → goes_on (flag x) x ≡ 1 → IsGoingOn x y left push → NoGroupFault x y
  unfolding group_values entry_108 entry_109 entry_110 entry_111 entry_112 entry_113
  group_goes first going g =
      no_fault 107 (group_values (here x y)) (first & (rw (inside, going, g.inside) refl) & (rw (inside, going, sym is, g.digits) refl) & (rw (inside, going, g.place) refl)
      & (rw (inside, going) (simp zero-mul)) & (rw (inside, g.inside) (simp zero-mul)) & (rw (inside, g.inside, going, sym pushes, g.count) refl)
      & place_clean & tt)

  flag_some : felt_mul left (w x 3) ≡ 1 → rest_flag x ≡ 1
  unfolding rest_flag
  flag_some one = ap (λ a. felt_mul a (w x 3)) (sym is) ∙ one

  flag_none : left ≡ 0 → rest_flag x ≡ 0
  unfolding rest_flag
  flag_none none = felt_mul-zero_first (rest x) (w x 3) (sym is ∙ none)

  first_none : left ≡ 0 → entry_107 (flag x) x ≡ 0
  unfolding entry_107
  first_none none = rw (inside, sym is, none) (simp zero-mul)

  goes_none : (goes : ℕ) → left ≡ 0 → push ≡ goes → goes < 2 → goes_on (flag x) x ≡ goes
  unfolding goes_on
  goes_none goes none pushed bit = rw (flag_none none, sym pushes, pushed) (omega arith)

  -- The three cases of the test.
  pub some_clean : felt_mul left (w x 3) ≡ 1 → IsGoingOn x y left push → NoGroupFault x y
  unfolding entry_107 goes_on
  some_clean one g =
      group_goes (rw (inside, flag_some one) (felt_mul-zero_second _ _ refl))
      (rw (flag_some one) (ap (felt_add 1) (felt_mul-zero_second (flag x ops.Push) 0 refl))) g

  pub push_clean : left ≡ 0 → push ≡ 1 → IsGoingOn x y left push → NoGroupFault x y
  push_clean none one g = group_goes (first_none none) (goes_none 1 none one (omega arith)) g

  -- behind the last row of a group another one begins, or the batch ends
  pub over_clean : left ≡ 0 → push ≡ 0 → IsOver x y push → NoGroupFault x y
  unfolding group_values entry_108 entry_109 entry_110 entry_111 entry_112 entry_113
  over_clean none off (opens opening place count) =
      let stops = goes_none 0 none off (omega arith) in
      no_fault 107 (group_values (here x y)) (first_none none & (rw (inside, stops) (simp zero-mul)) & (rw (inside, stops) (simp zero-mul)) & (rw (inside, stops) (simp zero-mul))
      & (rw (inside, stops, opening, place) refl) & (rw (inside, opening) (simp zero-mul)) & (rw (inside, opening, stops, sym pushes, count) refl)
      & place_clean & tt)
  over_clean none off (ends close count) =
      let stops = goes_none 0 none off (omega arith) in
      no_fault 107 (group_values (here x y)) (first_none none & (rw (inside, stops) (simp zero-mul)) & (rw (inside, stops) (simp zero-mul)) & (rw (inside, stops) (simp zero-mul))
      & (rw (inside, stops, close) (simp zero-mul)) & (rw (inside, close, count) refl) & (rw (inside, close) (simp zero-mul)) & place_clean & tt)

-- all of a row
module _ (x y : List ℕ) (op : Op) (has : HasOp x op) where
  clean_of : felt_sub (felt_sub (clk y) (clk x)) 1 ≡ 0 → NoBlockFault x y
      → NoBatchFault x y → NoGroupFault x y → IsClean x y
  clean_of clock block batch group =
      record { opcode = λ n behind. opcode_clean x y n op has behind clock; block = block; span = span_clean x y batch group }

  pub row_clean : IsPlain op → IsStep x y → NoGroupFault x y → IsClean x y
  unfolding batches
  row_clean plain step group =
      let r = plain_flags x op has plain in
      clean_of step.clock (quiet_clean x y r.quiet (follow_clean x y r step) (kept_clean x y r step))
      (batch_clean x y (rw (r.span, r.respan) refl)) group

  pub first_batch_clean : code_of op ≡ 73 → IsFirstBatch x y → NoBatchFault x y → IsClean x y
  first_batch_clean is step batch =
      let r = row_flags x ops.Span (subst (HasOp x) (code_of-different op ops.Span is) has) refl refl refl refl refl in
      clean_of step.clock (quiet_clean x y r.quiet (batch_follow_clean x y 1 0 r step.outside step.inside) (first_kept_clean x y r step)) batch
      (no_group x y step.outside)

  pub next_batch_clean : code_of op ≡ 78 → IsNextBatch x y → NoBatchFault x y → IsClean x y
  next_batch_clean is step batch =
      let r = row_flags x ops.Respan (subst (HasOp x) (code_of-different op ops.Respan is) has) refl refl refl refl refl in
      clean_of step.clock (quiet_clean x y r.quiet (batch_follow_clean x y 0 1 r step.outside step.inside) (next_kept_clean x y r step)) batch
      (no_group x y step.outside)

  pub outside_clean : HasNoBatch op → IsOutside x y → NoBlockFault x y → IsClean x y
  unfolding batches
  outside_clean apart step block =
      clean_of step.clock block
      (batch_clean x y
      (rw (flag_apart x op ops.Span has (λ e. apart.not_span (sym e)), flag_apart x op ops.Respan has (λ e. apart.not_respan (sym e))) refl))
      (no_group x y step.outside)

-- The whole list of a row behind the first one.
boundary_clean : (claim : Claim) (n : ℕ) (x y : List ℕ) → n ≢ 0 → first_fault_of 11 (boundary_values claim (spot_with n x (Some y))) ≡ None
unfolding boundary_values start_values inputs_values end_values outputs_values family
boundary_clean claim n x y behind = rw (behind_first n behind) refl

parts_clean : (c : Claim) (n : ℕ) (x y : List ℕ) → n ≢ 0 → IsClean x y → None ≡ first_fault_of 1 (decoder_values c (spot_with n x (Some y)))
parts_clean c n x y h clean =
    decoder_joined c (spot_with n x (Some y)) x (Some y) None None None None None None None refl refl (sym (clean.opcode n h))
    (sym (boundary_clean c n x y h))
    (sym clean.block) (sym clean.span) refl refl refl

pub place_answer : (c : Claim) (p : Spot) (x : List ℕ) (next : Option (List ℕ)) → x ≡ p.cur → next ≡ p.next → IsInner p.row x next
    → None ≡ first_fault_of 1 (decoder_values c p)
place_answer c p x None ex ey inner = absurd inner
place_answer c p x (Some y) ex ey inner = parts_clean c p.row x y inner.0 inner.1 ∙ ap (λ q. first_fault_of 1 (decoder_values c q)) here
  where
    here : spot_with p.row x (Some y) ≡ p
    here = ap (λ x. spot_with p.row x (Some y)) ex ∙ ap (spot_with p.row p.cur) ey

pub low_place : (value read place : ℕ) → value ≡ read → read ≡ place → value ≤ 8 → place < 9
low_place value read place is shown low = omega arith

-- Bits 3 and 6 of END and RESPAN are 1.
pub follows_by_six : (y : List ℕ) → sp y ≡ 1 → b y 6 ≡ 0 → felt_sub (felt_sub (felt_sub 1 (sp y)) (flag y ops.End)) (flag y ops.Respan) ≡ 0
unfolding flag flag_by
follows_by_six y inside e = rw (inside, e) (simp mul-zero)

pub follows_by_three : (y : List ℕ) → sp y ≡ 1 → b y 3 ≡ 0 → felt_sub (felt_sub (felt_sub 1 (sp y)) (flag y ops.End)) (flag y ops.Respan) ≡ 0
unfolding flag flag_by
follows_by_three y inside e = rw (inside, e) (simp (zero-mul, mul-zero))
