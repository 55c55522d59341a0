use Rattle.op_pack.proofs.BatchLemmas as batch_lemmas
use Rattle.op_pack.proofs.OrdinaryLemmas.{ordinary_reading}
use Rattle.op_pack.proofs.PackedLemmas.{packed-IsBatch, packed-some}
use Rattle.op_pack.proofs.laws.packing_laws.Goals as goal

pub returns : goal.returns
returns c = record {
  read_back = batch_lemmas.read_back;
  batches = packed-IsBatch;
  some = packed-some;
  ordinary = ordinary_reading;
}
