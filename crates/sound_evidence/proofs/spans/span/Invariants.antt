use Rattle.sound_evidence.proofs.Words.{◌+◌, ◌-◌, length, Takes}
use Rattle.sound_evidence.proofs.Spanning.{Spanning}
use Rattle.sound_evidence.proofs.spans.span.Given as goal

abbrev pub invariant-loop-op : goal.invariant-loop-op
invariant-loop-op l = Spanning l.trace.main l.i l.a l.batches × Takes l.trace.main (l.i + 1) l.a l.fn.tape l.tape

abbrev pub decreases-loop-op : goal.decreases-loop-op
decreases-loop-op l = length l.trace.main - l.a
