-- The rows that call a function, and the ENDs of calls.
use Rattle.sound_runs.proofs.Words.{◌≡◌, ℕ, suc, ◌+◌, ◌<◌, true, eqb, List, [], ◌∷◌, drop, length, refl, ap, sym, ◌∙◌, arith, slice_index, lit<, Op, clk, f, h}
use Rattle.sound_runs.proofs.Words.{sys, is_op, front, is_call_op, Claim, function_digest, EndCall, EndSyscall, StartCall, StartSyscall, frame_of, row_at}
use Rattle.sound_runs.proofs.Words.{op_in, Closes, IsAt}
use Rattle.vm_field.specs.Signs.{◌⊞◌}
use Rattle.sound_runs.proofs.Words.ops
use Rattle.air_kit.specs.MainTuples as tuples
use Rattle.facts_main.specs.Blocks.{EntersCall, EntersSyscall, keeps_digest}
use Rattle.sound_blocks.proofs.Names.{starts_by}
use Rattle.sound_runs.proofs.EndRows.{end_moves, end_quiet, end_still, flag_of}
use Rattle.sound_runs.proofs.Going.{GoesOn, goes_on, same_state, state_behind}
use Rattle.sound_runs.proofs.Levels.{level_closes, level_opens}
use Rattle.sound_runs.proofs.Premises.{Known, clock_at, state_in}
use Rattle.sound_runs.proofs.Quiet.{IsQuiet, digest_same, memory_stays, tape_stays}
use Rattle.sound_runs.proofs.StackRows.{returns_flat, stack_called, stack_returned}
use Rattle.sound_runs.proofs.StateRows.{clock_next, moves_at}

-- the digest of the function that a CALL's row shows
digest_called : (x y : List ℕ) → ((j : ℕ) → j < 4 → f y j ≡ h x j) → front x ≡ function_digest y
unfolding function_digest
digest_called x y e = λ i. sym (e 0 (lit< tt)) i ∷ sym (e 1 (lit< tt)) i ∷ sym (e 2 (lit< tt)) i ∷ sym (e 3 (lit< tt)) i ∷ []

-- what a call set aside is what the row behind its END has
digest_back : (x y : List ℕ) → tuples.frame_cells y ≡ tuples.frame_cells x → function_digest x ≡ function_digest y
unfolding function_digest
digest_back x y e = sym (ap (λ (xs : List ℕ). drop 5 xs) e)

module _ {constants : List ℕ} {kernel rows : List (List ℕ)} {k : Claim} (known : Known constants kernel k rows) where
  -- no call inside of a syscall
  outside_at : {i : ℕ} (m : Op) → IsAt rows i m → is_call_op m ≡ true → sys (row_at rows i) ≡ 0
  outside_at {i} m at is = (known.shows.row_is i (omega (arith, at.within))).row.block.outside (ap is_call_op at.is ∙ is)

  -- a call's context
  context_called : (i : ℕ) → suc i < length rows → clk (row_at rows i) + 1 ≡ clk (row_at rows i) ⊞ 1
  context_called i within = omega (arith, clock_at known i (omega (arith, within)), within, known.few)

  pub call_goes : {i : ℕ} → IsAt rows i ops.Call → GoesOn known i (StartCall (front (row_at rows i)))
  call_goes {i} at =
      goes_on known _ at.within refl (known.frames.nesting i (starts_by ops.Call refl at), ap (λ n. eqb n 1) outside)
      (same_state (clock_next known i at.within) (context_called i at.within ∙ sym enters.context) (sym enters.frame)
      (ap (λ n. eqb n 1) (outside ∙ sym enters.syscall)) (digest_called (row_at rows i) (row_at rows (suc i)) enters.digest)
      (level_opens known.frames (starts_by ops.Call refl at))
      (stack_called known (moves_at ops.Call at refl refl) (assumption) (ap is_call_op at.is))
      (memory_stays rows i ops.Call at quiet) (tape_stays rows i ops.Call at quiet))
    where
      quiet : IsQuiet ops.Call
      quiet = assumption

      outside : sys (row_at rows i) ≡ 0
      outside = outside_at ops.Call at refl

      enters : EntersCall (row_at rows i) (row_at rows (suc i))
      enters = (known.shows.pair_is i at.within).pair.block.call (ap (λ o. is_op o ops.Call) at.is)

  pub syscall_goes : {i : ℕ} → IsAt rows i ops.Syscall → GoesOn known i (StartSyscall (front (row_at rows i)))
  syscall_goes {i} at =
      goes_on known _ at.within refl
      (known.frames.nesting i (starts_by ops.Syscall refl at), ap (λ n. eqb n 1) (outside_at ops.Syscall at refl), known.kernel_is i at)
      (same_state (clock_next known i at.within) (sym enters.context) (sym enters.frame) (sym (ap (λ n. eqb n 1) enters.syscall))
      (digest_same (row_at rows i) (row_at rows (suc i))
      ((known.shows.pair_is i at.within).pair.block.digest (ap (λ o. keeps_digest o (row_at rows i)) at.is)))
      (level_opens known.frames (starts_by ops.Syscall refl at))
      (stack_called known (moves_at ops.Syscall at refl refl) (assumption) (ap is_call_op at.is))
      (memory_stays rows i ops.Syscall at quiet) (tape_stays rows i ops.Syscall at quiet))
    where
      quiet : IsQuiet ops.Syscall
      quiet = assumption

      enters : EntersSyscall (row_at rows i) (row_at rows (suc i))
      enters = (known.shows.pair_is i at.within).pair.block.syscall (ap (λ o. is_op o ops.Syscall) at.is)

  -- the state behind the END of a call, whatever its mark says of a digest
  returned_state : {j i : ℕ} → Closes rows j i → is_call_op (op_in rows j) ≡ true → h (row_at rows i) 4 ≡ 0
      → state_behind constants (EndCall (front (row_at rows i)) (frame_of (state_in k rows j).core)) (state_in k rows i) ≡ state_in k rows (suc i)
  returned_state {j} {i} closes call flag =
      same_state (clock_next known i closes.ends.within) (sym (at 0)) (sym (at 1)) (sym (ap (λ n. eqb n 1) (at 2)))
      (digest_back (row_at rows j) (row_at rows (suc i)) (closes.frame call)) (level_closes known.frames closes.ends)
      (stack_returned known (end_moves closes.ends flag) end_still closes call)
      (memory_stays rows i ops.End closes.ends end_quiet) (tape_stays rows i ops.End closes.ends end_quiet)
    where
      at : (k : ℕ) → slice_index (tuples.frame_cells (row_at rows (suc i))) k ≡ slice_index (tuples.frame_cells (row_at rows j)) k
      at k = ap (λ (xs : List ℕ). slice_index xs k) (closes.frame call)

  pub call_end_goes : {j i : ℕ} → IsAt rows j ops.Call → Closes rows j i
      → GoesOn known i (EndCall (front (row_at rows i)) (frame_of (state_in k rows j).core))
  call_end_goes at closes =
      goes_on known _ closes.ends.within refl (returns_flat known closes (ap is_call_op at.is))
      (returned_state closes (ap is_call_op at.is) (flag_of ops.Call at closes))

  pub syscall_end_goes : {j i : ℕ} → IsAt rows j ops.Syscall → Closes rows j i
      → GoesOn known i (EndSyscall (front (row_at rows i)) (frame_of (state_in k rows j).core))
  syscall_end_goes at closes =
      goes_on known _ closes.ends.within refl (returns_flat known closes (ap is_call_op at.is))
      (returned_state closes (ap is_call_op at.is) (flag_of ops.Syscall at closes))
