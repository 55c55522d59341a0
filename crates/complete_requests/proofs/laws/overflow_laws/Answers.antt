use Rattle.complete_requests.proofs.OverflowLaw.{overflow_is_even}
use Rattle.complete_requests.proofs.laws.overflow_laws.Goals as goal

pub returns : goal.returns
returns c = record { overflow = overflow_is_even }
