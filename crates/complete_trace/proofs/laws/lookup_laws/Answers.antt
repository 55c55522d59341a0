use Rattle.complete_trace.proofs.MomentStacks.{moment_fills}
use Rattle.complete_trace.proofs.RangeLemmas.{ranges_are_low}
use Rattle.complete_trace.proofs.TableStacks.{look_up}
use Rattle.complete_trace.proofs.laws.lookup_laws.Goals as goal

pub returns : goal.returns
returns c = record { fills = moment_fills; rows = look_up; ranges = ranges_are_low }
