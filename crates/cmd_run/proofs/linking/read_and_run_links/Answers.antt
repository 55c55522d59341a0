use Rattle.cmd_run.proofs.Words.{constants_of}
use Rattle.cmd_run.proofs.LinkLemmas.{ends_behind_list}
use Rattle.cmd_run.proofs.linking.read_and_run_links.Goals as goal

pub returns : goal.returns
returns g c =
    ends_behind_list _ _ (constants_of c.in_ok-constants.constants) _ _ c.in_ok-constants.ensures.loads c.in_ok-bytes.bytes _
    c.in_ok-bytes.ensures.found _ _ (rw c.as_slice.ensures.items at c.run_lines.ensures)
