-- The rows of a run ask what its requests are.
use Rattle.complete_rows.proofs.Words.{◌-◌, length}
use Rattle.complete_rows.proofs.TableLemmas.{linked}
use Rattle.complete_requests.specs.Asked.{RunAsks}
use Rattle.complete_requests.proofs.HasherLaw.{hashes_asked}
use Rattle.complete_requests.proofs.KernelLaw.{calls_asked}
use Rattle.complete_requests.proofs.OtherLaws.{accesses_asked, bits_asked}
use Rattle.complete_requests.proofs.RangeLaw.{ranges_asked}

pub run_asks : RunAsks
run_asks constants kernel limit tree inputs tape u log r = record {
  hasher = λ v. hashes_asked r.constants_are v (length inputs - 16) (linked r);
  kernel = λ v. calls_asked v (linked r);
  range = λ v. ranges_asked v (linked r);
  bitwise = λ v. bits_asked r.constants_are v (linked r);
  memory = λ v. accesses_asked r.constants_are v (linked r);
}
