use Rattle.std.proofs.Common.{◌≡◌, drop}
use Rattle.complete_rows.specs.Turns.{repeats}
use Rattle.fill_main.specs.Turns.{turns_of}
use Rattle.fill_main.proofs.turns.turns_of.Given as goal

abbrev pub invariant-loop-i : goal.invariant-loop-i
invariant-loop-i l = record {
  counts : l.counts ≡ repeats (drop l.i l.events);
  turns : l.turns ≡ turns_of (drop l.i l.events);
}
