-- A row of a block whose tests pass has no fault among entries 60 to 91: JOIN, SPLIT, REPEAT and END.
use Rattle.std.proofs.Common.{◌≡◌, ℕ, zero, suc, ◌+◌, ◌<◌, true, false, cond, List, refl, subst, ◌∙◌, arith, zero-mul}
use Rattle.vm_field.specs.Field.{felt_add, felt_sub, felt_mul}
use Rattle.vm_field.proofs.Algebra.{felt_mul-zero_second}
use Rattle.vm_ops.specs.Codes.{code_of, is_ordinary_op, is_start_op}
use Rattle.vm_ops.specs.declared.op.Op.{Op}
use Rattle.vm_ops.specs.declared.op.Op.TheVariants as ops
use Rattle.vm_ops.proofs.CodeLemmas.{code_of-different}
use Rattle.vm_table.specs.MainColumns.{h, sp, s}
use Rattle.air_kit.specs.Flags.{flag, flags_of, one_hot, HasOp}
use Rattle.air_kit.specs.BlockValues.{starts, batches, calls, returns, kind_flags, entry_60, entry_61, entry_62, entry_63, entry_64, entry_65, entry_66, entry_67, entry_68, entry_69, entry_70, entry_74, entry_89, entry_90, entry_91, follow_values, kept_values}
use Rattle.air_kit.proofs.FlagLemmas.{at_op, flags_of-hot}
use Rattle.air_kit.proofs.ZeroLemmas.{Zeros}
use Rattle.air_blocks.specs.Entries.{of_pair, of_row}
use Rattle.air_decoder.specs.Quick.{HasKind, IsBehindEnd, IsEnd, IsOpening, IsRepeat}
use Rattle.air_decoder.specs.Quick.IsBehindEnd.{returned, kept}
use Rattle.air_decoder.proofs.QuickLemmas.{FrameZero, NoBlockFault, NotRare, ◌&◌, block_clean, flags_off, frame_free, frame_zeros, here, is_rare, kept_list, no_kinds, returns_off, shown_zeros}

-- The flags of such a row, by those that differ.
record BlockFlags (x : List ℕ) (op : Op) : Type 0 where
  split : flag x ops.Split ≡ one_hot op ops.Split
  again : flag x ops.Repeat ≡ one_hot op ops.Repeat
  end : flag x ops.End ≡ one_hot op ops.End
  starts_is : flags_of is_start_op (flag x) ≡ cond (is_start_op op) 1 0
  rare : NotRare x
  span : flag x ops.Span ≡ 0
  respan : flag x ops.Respan ≡ 0
  ordinary : flags_of is_ordinary_op (flag x) ≡ 0

block_flags : (x : List ℕ) (op : Op) → HasOp x op → is_rare op ≡ false → one_hot op ops.Span ≡ 0 → one_hot op ops.Respan ≡ 0
    → is_ordinary_op op ≡ false → BlockFlags x op
block_flags x op has out span respan control = record {
  split = has.flags ops.Split;
  again = has.flags ops.Repeat;
  end = has.flags ops.End;
  starts_is = at_op has (flags_of is_start_op) ∙ flags_of-hot op is_start_op;
  rare = flags_off is_rare x op has out;
  span = has.flags ops.Span ∙ span;
  respan = has.flags ops.Respan ∙ respan;
  ordinary = at_op has (flags_of is_ordinary_op) ∙ flags_of-hot op is_ordinary_op ∙ rw control refl;
}

one_bit : (a : ℕ) → a < 2 → felt_mul (felt_mul 1 a) (felt_sub a 1) ≡ 0
one_bit zero low = refl
one_bit (suc zero) low = refl
one_bit (suc (suc a)) low = absurd (omega arith)

one_of_two : (a b : ℕ) → a < 2 → felt_mul a b ≡ 0 → felt_mul (felt_mul 1 a) b ≡ 0
one_of_two zero b low none = none
one_of_two (suc zero) b low none = none
one_of_two (suc (suc a)) b low none = absurd (omega arith)

module _ (x y : List ℕ) where
  -- Entries 60 to 69.
  follow_zeros : (op : Op) → BlockFlags x op → sp x ≡ 0 → of_pair entry_62 x y ≡ 0 → of_pair entry_66 x y ≡ 0
      → of_row entry_67 x ≡ 0 → of_row entry_68 x ≡ 0 → of_row entry_69 x ≡ 0 → Zeros (follow_values (here x y))
  unfolding follow_values batches entry_60 entry_61 entry_63 entry_64 entry_65
  follow_zeros op b outside child behind bit repeats ends =
      b.rare ops.Halt refl & (rw (outside, b.ordinary) refl) & child & (rw (b.rare ops.Loop refl) (simp zero-mul))
      & (rw (b.span, b.respan) (simp zero-mul)) & (rw outside (simp zero-mul)) & behind & bit & repeats & ends & tt

  child_starts : felt_sub 1 (starts (flag y)) ≡ 0 → of_pair entry_62 x y ≡ 0
  unfolding entry_62
  child_starts start = rw start (felt_mul-zero_second _ 0 refl)

  not_behind : flag x ops.End ≡ 0 → of_pair entry_66 x y ≡ 0
  unfolding entry_66
  not_behind end = rw end (simp zero-mul)

  not_ending : flag x ops.End ≡ 0 → of_row entry_69 x ≡ 0
  unfolding entry_69
  not_ending end = rw end (simp zero-mul)

  not_repeating : flag x ops.Repeat ≡ 0 → of_row entry_68 x ≡ 0
  unfolding entry_68
  not_repeating again = rw again (simp zero-mul)

  no_condition : flag x ops.Split ≡ 0 → flag x ops.Loop ≡ 0 → of_row entry_67 x ≡ 0
  unfolding entry_67
  no_condition split loop = rw (split, loop) (simp zero-mul)

  condition_is : flag x ops.Split ≡ 1 → flag x ops.Loop ≡ 0 → s x 0 < 2 → of_row entry_67 x ≡ 0
  unfolding entry_67
  condition_is split loop low = rw (split, loop) (one_bit (s x 0) low)

  -- Entries 82 to 91.
  end_returns : (call : ℕ) → flag x ops.End ≡ 1 → felt_add (h x 6) (h x 7) ≡ call → returns (flag x) x ≡ felt_mul 1 call
  unfolding returns
  end_returns call end is = rw (end, is) refl

  no_batch_kept : (op : Op) → BlockFlags x op → sp x ≡ 0 → of_pair entry_91 x y ≡ 0
  unfolding entry_91
  no_batch_kept op b outside = rw (b.span, b.respan, outside) (simp zero-mul)

  opening_kept : (op : Op) → BlockFlags x op → one_hot op ops.End ≡ 0 → is_start_op op ≡ true → sp x ≡ 0 → IsOpening x y
      → Zeros (kept_values (here x y))
  unfolding starts entry_89 entry_90
  opening_kept op b other start outside k =
      let end : flag x ops.End ≡ 0 = b.end ∙ other in
      kept_list x y (frame_zeros x y b.rare (returns_off x end) k.frame) (rw (b.starts_is, start, end) (simp zero-mul))
      (rw (b.starts_is, start, k.level, end) refl) (no_batch_kept op b outside)

  -- The four operations.
  opening_clean : (op : Op) → BlockFlags x op → one_hot op ops.End ≡ 0 → one_hot op ops.Repeat ≡ 0 → is_start_op op ≡ true → sp x ≡ 0
      → of_row entry_67 x ≡ 0 → IsOpening x y → NoBlockFault x y
  opening_clean op b other once start outside bit k =
      let end : flag x ops.End ≡ 0 = b.end ∙ other in
      block_clean x y
      (follow_zeros op b outside (child_starts k.child) (not_behind end) bit (not_repeating (b.again ∙ once)) (not_ending end))
      (no_kinds x y end b.rare) (opening_kept op b other start outside k)

  pub join_clean : (op : Op) → HasOp x op → code_of op ≡ 70 → sp x ≡ 0 → IsOpening x y → NoBlockFault x y
  join_clean op has is outside k =
      let b = block_flags x ops.Join (subst (HasOp x) (code_of-different op ops.Join is) has) refl refl refl refl in
      opening_clean ops.Join b refl refl refl outside (no_condition b.split (b.rare ops.Loop refl)) k

  pub split_clean : (op : Op) → HasOp x op → code_of op ≡ 71 → sp x ≡ 0 → s x 0 < 2 → IsOpening x y
      → NoBlockFault x y
  split_clean op has is outside bit k =
      let b = block_flags x ops.Split (subst (HasOp x) (code_of-different op ops.Split is) has) refl refl refl refl in
      opening_clean ops.Split b refl refl refl outside (condition_is b.split (b.rare ops.Loop refl) bit) k

  repeats_is : flag x ops.Repeat ≡ 1 → felt_sub (s x 0) 1 ≡ 0 → of_row entry_68 x ≡ 0
  unfolding entry_68
  repeats_is again holds = rw (again, holds) refl

  repeat_kept : BlockFlags x ops.Repeat → sp x ≡ 0 → IsRepeat x y → Zeros (kept_values (here x y))
  unfolding starts entry_89 entry_90
  repeat_kept b outside k =
      kept_list x y (frame_zeros x y b.rare (returns_off x b.end) k.frame) (rw (b.starts_is, b.end, k.block) refl)
      (rw (k.level, b.starts_is, b.end) refl) (no_batch_kept ops.Repeat b outside)

  pub repeat_clean : (op : Op) → HasOp x op → code_of op ≡ 77 → sp x ≡ 0 → IsRepeat x y → NoBlockFault x y
  repeat_clean op has is outside k =
      let b = block_flags x ops.Repeat (subst (HasOp x) (code_of-different op ops.Repeat is) has) refl refl refl refl in
      block_clean x y
      (follow_zeros ops.Repeat b outside (child_starts k.child) (not_behind b.end) (no_condition b.split (b.rare ops.Loop refl))
      (repeats_is b.again k.holds) (not_ending b.end))
      (no_kinds x y b.end b.rare) (repeat_kept b outside k)

  -- END.
  no_child : BlockFlags x ops.End → flag x ops.Join ≡ 0 → of_pair entry_62 x y ≡ 0
  unfolding entry_62 calls
  no_child b join =
      rw (join, b.split, b.rare ops.Call refl, b.rare ops.Syscall refl, b.again, b.rare ops.Dyn refl, b.rare ops.Loop refl) (simp zero-mul)

  behind_is : flag x ops.End ≡ 1
      → felt_sub (felt_sub (felt_sub (felt_sub 1 (starts (flag y))) (flag y ops.End)) (flag y ops.Repeat)) (flag y ops.Halt) ≡ 0
      → of_pair entry_66 x y ≡ 0
  unfolding entry_66
  behind_is end follows = rw (end, follows) refl

  ends_is : flag x ops.End ≡ 1 → h x 4 < 2 → felt_mul (h x 4) (s x 0) ≡ 0 → of_row entry_69 x ≡ 0
  unfolding entry_69
  ends_is end low none = rw end (one_of_two (h x 4) (s x 0) low none)

  end_kinds : BlockFlags x ops.End → felt_add (felt_add (felt_add (h x 4) (h x 5)) (h x 6)) (h x 7) < 2 → of_row entry_74 x ≡ 0
  unfolding entry_74 kind_flags
  end_kinds b kinds = rw (b.end) (one_bit _ kinds)

  end_bits : BlockFlags x ops.End → (j : ℕ) → h x (4 + j) < 2 → of_row (entry_70 j) x ≡ 0
  unfolding entry_70
  end_bits b j low = rw (b.end) (one_bit (h x (4 + j)) low)

  four_bits : HasKind x → (j : ℕ) → j < 4 → h x (4 + j) < 2
  four_bits k zero low = k.bit_4
  four_bits k (suc zero) low = k.bit_5
  four_bits k (suc (suc zero)) low = k.bit_6
  four_bits k (suc (suc (suc zero))) low = k.bit_7
  four_bits k (suc (suc (suc (suc j)))) low = absurd (omega (arith, low))

  end_frame : BlockFlags x ops.End → IsBehindEnd x y → FrameZero x y
  end_frame b (returned call) = frame_free x y b.rare (end_returns 1 b.end call)
  end_frame b (kept none frame) = frame_zeros x y b.rare (end_returns 0 b.end none) frame

  end_kept : BlockFlags x ops.End → sp x ≡ 0 → IsEnd x y → Zeros (kept_values (here x y))
  unfolding starts entry_89 entry_90
  end_kept b outside k =
      kept_list x y (end_frame b k.behind) (rw (b.starts_is, b.end) (simp zero-mul)) (rw (b.starts_is, b.end, k.level) refl)
      (no_batch_kept ops.End b outside)

  pub end_clean : (op : Op) → HasOp x op → code_of op ≡ 76 → sp x ≡ 0 → IsEnd x y → NoBlockFault x y
  end_clean op has is outside k =
      let found : HasOp x ops.End = subst (HasOp x) (code_of-different op ops.End is) has in
      let b = block_flags x ops.End found refl refl refl refl in
      block_clean x y
      (follow_zeros ops.End b outside (no_child b (found.flags ops.Join)) (behind_is b.end k.follows) (no_condition b.split (b.rare ops.Loop refl))
      (not_repeating b.again) (ends_is b.end k.kind.bit_4 k.condition))
      (shown_zeros x y b.rare (λ j low. end_bits b j (four_bits k.kind j low)) (end_kinds b k.kind.one)) (end_kept b outside k)
