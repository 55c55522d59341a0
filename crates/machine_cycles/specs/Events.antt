-- What the log of a run shows of each cycle (docs/MACHINE.md, "Cycles").
use Rattle.std.specs.Prelude.{ℕ, List, length, take}
use Rattle.vm_field.specs.Machine.{Core}
use Rattle.block_tree.specs.Cycles.{Mark, top, effect_of}
use Rattle.block_tree.specs.Execution as run
use Rattle.block_tree.specs.Rows.{accessed, behind, four_of, hash_of, immediate_of, op_of_mark}
use Rattle.machine_cycles.specs.declared.event.Event.{Event}
use Rattle.machine_cycles.specs.declared.event.Visible.{Visible}

-- the state before a cycle, as far as its row shows it
abbrev pub visible_of : Core → Visible
visible_of c = record {
  clock = c.clock;
  context = c.context;
  fmp = c.fmp;
  in_syscall = c.in_syscall;
  digest = c.digest;
  nesting = c.nesting;
  depth = length c.stack;
  cells = take 16 c.stack;
}

abbrev pub shown_between : Mark → List ℕ → Core → Core → Event
shown_between mark advice before after = record {
  op = op_of_mark mark;
  before = visible_of before;
  imm = immediate_of mark;
  tape = four_of advice;
  word = accessed mark before after;
  hash = hash_of mark;
  result = top after;
}

-- what the log shows of a cycle of a run, under the permutation's constants and the kernel's list
abbrev pub shown : List ℕ → List (List ℕ) → run.Event → Event
shown constants kernel e = shown_between e.mark e.advice e.core (behind (effect_of constants kernel e.mark e.advice e.core) e.core)
