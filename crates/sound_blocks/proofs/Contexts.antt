-- In which context a row runs, and whether inside of a syscall.
use Rattle.sound_blocks.proofs.Words.{◌≡◌, inl, inr, ℕ, suc, ◌^◌, ◌<◌, ◌≤◌, Bool, true, false, ◌||◌, cond, eqb, List, length, slice_index, refl, ap, arith}
use Rattle.sound_blocks.proofs.Words.{prime, felt_add, and_parts, cases_Bool, Op, clk, ctx, sys, h, s, is_op, is_call_op, Claim, KeepsBlock, ends_call, row_at}
use Rattle.sound_blocks.proofs.Words.{ShowsRows, op_in, clock_is, off, BlockFacts, ShowsKind, op_from}
use Rattle.sound_blocks.proofs.Words.ops
use Rattle.sound_blocks.proofs.Rows.{each_row}
use Rattle.sound_blocks.proofs.OpenBlocks.{block_at}

flags_say : (t u : Bool) → eqb (felt_add (cond t 1 0) (cond u 1 0)) 1 ≡ true → t || u ≡ true
flags_say true u is = refl
flags_say false true is = refl
flags_say false false is = off is

-- a block whose END ends a call is one
is_call : (op : Op) (top : ℕ) (x : List ℕ) → ShowsKind op top x → eqb (felt_add (h x 6) (h x 7)) 1 ≡ true → is_call_op op ≡ true
is_call op top x flags is = flags_say (is_op op ops.Call) (is_op op ops.Syscall) (rw (flags.call, flags.syscall) at is)

next_clock : (c i : ℕ) → c ≡ i → suc i < prime → felt_add c 1 ≡ suc i
next_clock c i e few = omega arith

module _ {k : Claim} {rows : List (List ℕ)} (shows : ShowsRows k rows) (few : length rows ≤ 2 ^ 19) (blocks : BlockFacts rows) where
  pub record IsContext (i : ℕ) : Type 0 where
    pub context : ctx (row_at rows i) ≤ i
    pub syscall : sys (row_at rows i) < 2

  clock_at : (i : ℕ) → i < length rows → clk (row_at rows i) ≡ i
  clock_at i within = clock_is k rows shows (omega (arith, few)) i within

  -- whether a row calls, ends a call, or stays in its function
  behind_context : (i : ℕ) → suc i < length rows → ((q : ℕ) → q ≤ i → IsContext q) → IsContext (suc i)
  behind_context i within before = elim (cases_Bool (is_op op ops.Call)) [
    | inl is ↦
        let enters = pair.call is in
        record {
          context = omega (arith, enters.context, next_clock (clk (row_at rows i)) i (clock_at i (omega (arith, within))) (omega (arith, within, few)));
          syscall = omega (arith, enters.syscall);
        }
    | inr no_call ↦ elim (cases_Bool (is_op op ops.Syscall)) [
      | inl is ↦ let enters = pair.syscall is in record { context = omega (arith, enters.context); syscall = omega (arith, enters.syscall) }
      | inr no_syscall ↦ elim (cases_Bool (ends_call op (row_at rows i))) [
        | inl returns ↦
            let both = and_parts (is_op op ops.End) _ returns in
            let found = blocks.block i (record { within = within; is = op_from both.0 }) in
            let block = block_at shows blocks found.1 in
            let at_start = before found.0 (omega (arith, block.later)) in
            let frame = found.1.frame (is_call (op_in rows found.0) (s (row_at rows found.0) 0) (row_at rows i) found.1.flags both.1) in
            record {
              context = omega (arith, ap (λ xs. slice_index xs 0) frame, at_start.context, block.later);
              syscall = omega (arith, ap (λ xs. slice_index xs 2) frame, at_start.syscall);
            }
        | inr goes_on ↦
            let same = pair.function (rw (no_call, no_syscall, goes_on) refl) in
            let here = before i (omega arith) in record { context = omega (arith, same.0, here.context); syscall = omega (arith, same.1, here.syscall) }
      ]
    ]
  ]
    where
      op : Op
      op = op_in rows i

      pair : KeepsBlock (op_in rows i) (row_at rows i) (row_at rows (suc i))
      pair = (shows.pair_is i within).pair.block

  pub context_at : (i : ℕ) → i < length rows → IsContext i
  context_at i within = each_row (length rows) IsContext (λ some_row. let first = (shows.first some_row).start in
      record { context = omega (arith, first.context); syscall = omega (arith, first.syscall) }) behind_context i within

  pub context_below : (i : ℕ) → i < length rows → ctx (row_at rows i) ≤ clk (row_at rows i)
  context_below i within = omega (arith, clock_at i within, (context_at i within).context)
