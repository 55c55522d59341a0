use Rattle.cmd_run.proofs.Words.{constants_of}
use Rattle.cmd_run.proofs.LinkLemmas.{ends_in_lines}
use Rattle.cmd_run.proofs.linking.run_lines.Goals as goal

pub returns : goal.returns
returns g c =
    ends_in_lines (constants_of c.args.constants.now) c.args.list.now _ c.in_ok-links.links c.in_ok-links.ensures.lines _ _ _ c.links_from.ensures
