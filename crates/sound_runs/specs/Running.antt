-- That a main table's rows show the states of a run, cycle by cycle, and the law that the tree along them runs so.
use Rattle.std.specs.Prelude.{◌≡◌, ℕ, suc, ◌<◌, true, List, length}
use Rattle.vm_field.specs.Machine.{State}
use Rattle.vm_ops.specs.Codes.{is_ordinary_op}
use Rattle.vm_ops.specs.declared.op.Op.TheVariants as ops
use Rattle.vm_table.specs.MainColumns.{s}
use Rattle.block_tree.specs.Cycles.{Mark, StartSpan, StartJoin, StartSplit, StartLoop, StartCall, StartSyscall, StartDyn, Respan, Repeat, Do, End, EndSpan, EndLoop, EndCall, EndSyscall, called_word, frame_of, top}
use Rattle.block_tree.specs.Execution.{Event, Outcome, Done, cycle, execution}
use Rattle.block_tree.specs.Trees.{Tree, Refines}
use Rattle.air_kit.specs.MainTuples.{back, called_digest, eight, front}
use Rattle.vm_table.specs.Layout.{row_at}
use Rattle.facts_main.specs.MainRows.{op_in}
use Rattle.sound_buses.specs.Blocks.{Closes, IsAt}
use Rattle.sound_blocks.specs.Items.{item_at}
use Rattle.tree_merge.specs.Placed.{PlacedTree, plain}
use Rattle.sound_runs.specs.TreeFacts.{HasTree, TreeFacts}

-- the outcome is the state of row m
pub record Goes (st : ℕ → State) (o : Outcome) (m : ℕ) : Type 0 where
  pub events : List Event
  pub done : o ≡ Done (st m) events

-- row i shows this cycle
pub data ShowsMark (rows : List (List ℕ)) (st : ℕ → State) (i : ℕ) : Mark → Type 0 where
  span : IsAt rows i ops.Span → ShowsMark rows st i (StartSpan (eight (row_at rows i)))
  join : IsAt rows i ops.Join → ShowsMark rows st i (StartJoin (front (row_at rows i)) (back (row_at rows i)))
  split : IsAt rows i ops.Split → ShowsMark rows st i (StartSplit (front (row_at rows i)) (back (row_at rows i)))
  loop : IsAt rows i ops.Loop → ShowsMark rows st i (StartLoop (front (row_at rows i)))
  call : IsAt rows i ops.Call → ShowsMark rows st i (StartCall (front (row_at rows i)))
  syscall : IsAt rows i ops.Syscall → ShowsMark rows st i (StartSyscall (front (row_at rows i)))
  dyn : IsAt rows i ops.Dyn → ShowsMark rows st i (StartDyn true)
  respan : IsAt rows i ops.Respan → ShowsMark rows st i (Respan (eight (row_at rows i)))
  repeat : IsAt rows i ops.Repeat → ShowsMark rows st i (Repeat (front (row_at rows i)))
  operation : suc i < length rows → is_ordinary_op (op_in rows i) ≡ true → ShowsMark rows st i (Do (item_at rows i))
  span_end : {j : ℕ} → IsAt rows j ops.Span → Closes rows j i → ShowsMark rows st i (EndSpan (front (row_at rows i)))
  join_end : {j : ℕ} → IsAt rows j ops.Join → Closes rows j i → ShowsMark rows st i (End (front (row_at rows i)))
  split_end : {j : ℕ} → IsAt rows j ops.Split → Closes rows j i → ShowsMark rows st i (End (front (row_at rows i)))
  skipped_end : {j : ℕ} → IsAt rows j ops.Loop → s (row_at rows j) 0 ≡ 0 → Closes rows j i → ShowsMark rows st i (End (front (row_at rows i)))
  dyn_end : {j : ℕ} → IsAt rows j ops.Dyn → Closes rows j i → ShowsMark rows st i (End (front (row_at rows i)))
  entered_end : {j : ℕ} → IsAt rows j ops.Loop → s (row_at rows j) 0 ≡ 1 → Closes rows j i
      → ShowsMark rows st i (EndLoop (front (row_at rows i)))
  call_end : {j : ℕ} → IsAt rows j ops.Call → Closes rows j i
      → ShowsMark rows st i (EndCall (front (row_at rows i)) (frame_of (st j).core))
  syscall_end : {j : ℕ} → IsAt rows j ops.Syscall → Closes rows j i
      → ShowsMark rows st i (EndSyscall (front (row_at rows i)) (frame_of (st j).core))

-- Each row but the last shows a cycle below the limit, which leads from its state to that of the row behind it; clocks count the rows.
pub record ShowRun (constants : List ℕ) (kernel : List (List ℕ)) (limit : ℕ) (rows : List (List ℕ)) (st : ℕ → State) : Type 0 where
  pub goes : (i : ℕ) (mark : Mark) → ShowsMark rows st i mark → Goes st (cycle constants kernel limit mark (st i)) (suc i)
  pub top_is : (i : ℕ) → i < length rows → top (st i).core ≡ s (row_at rows i) 0
  pub word_is : (i : ℕ) → i < length rows → called_word (st i).core ≡ called_digest (row_at rows i)
  pub clock : (i : ℕ) → i < length rows → (st i).core.clock ≡ i
  pub below : (i : ℕ) → suc i < length rows → i < limit

-- each tree that refines that of a block is done, from the state of the block's start to that of the row behind its END
abbrev pub TreeRuns : Type 0
TreeRuns = (constants : List ℕ) (kernel : List (List ℕ)) (limit : ℕ) (hasher rows : List (List ℕ)) (root : List ℕ) (st : ℕ → State)
    → TreeFacts constants hasher rows root → ShowRun constants kernel limit rows st
    → (j e : ℕ) (x : PlacedTree) → HasTree constants hasher rows j e x → (y : Tree) → Refines constants y (plain x)
    → Goes st (execution constants kernel limit y (st j)) (suc e)
