-- The laws of cycles and of ends.
use Rattle.sound_runs.proofs.Words.{◌≡◌, ℕ, ◌-◌, arith, cond, eqb, List, length, ap, ◌∙◌, number_of_constants, is_call_op, Claim, claim_of, Mark}
use Rattle.sound_runs.proofs.Words.{frames_granted, ShowRun, ShowsMark, GrantedEnds}
use Rattle.sound_runs.proofs.Words.ops
use Rattle.rpo_hash.specs.Constants.{constants_of}
use Rattle.air_kit.specs.declared.trace.Public.{Public}
use Rattle.air_kit.specs.declared.trace.TableName.TheVariants as table
use Rattle.air_kit.specs.declared.trace.Trace.{Trace}
use Rattle.sound_buses.specs.BusFacts.{Granted}
use Rattle.sound_blocks.proofs.OverflowLaw.{few_inputs, overflow_law}
use Rattle.sound_runs.specs.Running.{span, join, split, loop, call, syscall, dyn, respan, repeat, operation, span_end, join_end, split_end, skipped_end, dyn_end, entered_end, call_end, syscall_end}
use Rattle.sound_runs.specs.Cycles.{GrantedCycles}
use Rattle.sound_runs.proofs.CallRows.{call_end_goes, call_goes, syscall_end_goes, syscall_goes}
use Rattle.sound_runs.proofs.EndRows.{end_goes, flag_of, loop_end_goes, span_end_goes}
use Rattle.sound_runs.proofs.FirstAndLast.{end_facts}
use Rattle.sound_runs.proofs.Going.{GoesOn}
use Rattle.sound_runs.proofs.OperationRows.{operation_goes}
use Rattle.sound_runs.proofs.Premises.{Known, clock_at, low_contexts, state_in}
use Rattle.sound_runs.proofs.StartRows.{dyn_goes, join_goes, loop_goes, span_goes, split_goes}
use Rattle.sound_runs.proofs.StateRows.{top_at, word_at}
use Rattle.sound_runs.proofs.TurnRows.{repeat_goes, respan_goes}

known_of : (p : Public) (t : Trace) → length (constants_of p.params) ≡ number_of_constants → Granted p t
    → Known (constants_of p.params) p.statement.kernel (claim_of p t) t.main
known_of p t count granted = record {
  count = count;
  shows = granted.rows;
  few = granted.few;
  shallow = few_inputs p.statement.inputs p.statement.inputs_few;
  groups = granted.groups;
  ranges = granted.ranges;
  permutes = granted.hashes.permutes;
  bits = granted.bits;
  memory = granted.memory (low_contexts (claim_of p t) t.main granted.rows granted.few (frames_granted p t granted));
  kernel_is = granted.kernel;
  frames = frames_granted p t granted;
  lists = overflow_law p t granted (frames_granted p t granted);
}

module _ {constants : List ℕ} {kernel rows : List (List ℕ)} {k : Claim} (known : Known constants kernel k rows) where
  row_goes : (i : ℕ) (mark : Mark) → ShowsMark rows (state_in k rows) i mark → GoesOn known i mark
  row_goes i mark (span at) = span_goes known at
  row_goes i mark (join at) = join_goes known at
  row_goes i mark (split at) = split_goes known at
  row_goes i mark (loop at) = loop_goes known at
  row_goes i mark (call at) = call_goes known at
  row_goes i mark (syscall at) = syscall_goes known at
  row_goes i mark (dyn at) = dyn_goes known at
  row_goes i mark (respan at) = respan_goes known at
  row_goes i mark (repeat at) = repeat_goes known at
  row_goes i mark (operation within is) = operation_goes known i within is
  row_goes i mark (span_end at closes) = span_end_goes known at closes
  row_goes i mark (join_end at closes) = end_goes known closes (ap is_call_op at.is) (flag_of ops.Join at closes)
  row_goes i mark (split_end at closes) = end_goes known closes (ap is_call_op at.is) (flag_of ops.Split at closes)
  row_goes i mark (skipped_end at top closes) =
      end_goes known closes (ap is_call_op at.is) (flag_of ops.Loop at closes ∙ ap (λ n. cond (eqb n 1) 1 0) top)
  row_goes i mark (dyn_end at closes) = end_goes known closes (ap is_call_op at.is) (flag_of ops.Dyn at closes)
  row_goes i mark (entered_end at top closes) = loop_end_goes known at top closes
  row_goes i mark (call_end at closes) = call_end_goes known at closes
  row_goes i mark (syscall_end at closes) = syscall_end_goes known at closes

  show_run : ShowRun constants kernel (length rows - 1) rows (state_in k rows)
  show_run = record {
    goes = row_goes;
    top_is = λ i h. top_at k rows i;
    word_is = λ i h. word_at k rows i;
    clock = λ i h. clock_at known i h;
    below = λ i within. omega (arith, within);
  }

pub cycles_law : GrantedCycles
cycles_law p t count whole granted = show_run (known_of p t count granted)

pub ends_law : GrantedEnds
unfolding known_of
ends_law p t count whole granted = end_facts (known_of p t count granted) (whole.counts table.Main).least
