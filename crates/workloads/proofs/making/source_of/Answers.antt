use Rattle.std.proofs.Common.{rules}
use Rattle.workloads.specs.Workloads.{source_text, text_before, text_behind}
use Rattle.workloads.proofs.making.source_of.Goals as goal

pub returns : goal.returns
unfolding source_text text_before text_behind
returns c = search rules
