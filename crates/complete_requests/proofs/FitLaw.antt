-- The requests of a run fit.
use Rattle.complete_rows.proofs.Words.{[], length, ap, arith, events_of}
use Rattle.complete_rows.proofs.TableLemmas.{keys_asked, linked}
use Rattle.complete_requests.specs.Fitting.{RunFits}
use Rattle.complete_requests.proofs.Follows.{perms_follow}
use Rattle.complete_requests.proofs.KernelCalls.{calls_in}
use Rattle.complete_requests.proofs.MemoryClocks.{accesses_apart}
use Rattle.complete_requests.proofs.MemoryFit.{accesses_fit}
use Rattle.complete_requests.proofs.Sizes.{events_few, keys_few, requests_few, rows_are}

pub run_fits : RunFits
run_fits constants kernel limit tree inputs tape u log r words =
    let along = linked r in
    let few = requests_few constants (events_of constants kernel log) in
    let most = events_few along in
    record {
      fits = record {
        perms = perms_follow r.constants_are along [];
        accesses = accesses_fit inputs tape along;
        apart = accesses_apart along;
        calls = calls_in along;
        room = record {
          perms = omega (arith, few, most);
          bits = omega (arith, few, most);
          accesses = omega (arith, few, most);
          words = words;
          keys = omega (arith, keys_few along, ap length (keys_asked r));
        };
      };
      few = omega (arith, few, rows_are along);
    }
