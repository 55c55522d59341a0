use Rattle.std.proofs.Common.{◌≡◌, ◌+◌, ◌*◌, length}
use Rattle.rpo_hash.proofs.TextRounds.{ReadRounds}
use Rattle.rpo_hash.proofs.params.Params.read.Given as goal

abbrev pub invariant-loop-k : goal.invariant-loop-k
invariant-loop-k l = record {
  read : ReadRounds l.k l.bytes l.first l.second l.lines.rest.now;
  line : l.lines.line ≡ 24 * l.k + 1;
  first_size : length l.first ≡ 7;
  second_size : length l.second ≡ 7;
}
