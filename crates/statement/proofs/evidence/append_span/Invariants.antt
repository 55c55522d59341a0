use Rattle.std.proofs.Common.{◌≡◌, ◌++◌, take}
use Rattle.std.specs.List.{flat_map}
use Rattle.statement.specs.EvidenceText.{batch_text}
use Rattle.statement.proofs.evidence.append_span.Given as goal

-- the batches so far stand behind the first line
abbrev pub invariant-loop-batch : goal.invariant-loop-batch
invariant-loop-batch l = l.text ≡ l.initial.text ++ flat_map batch_text (take l.batch-index l.batches)
