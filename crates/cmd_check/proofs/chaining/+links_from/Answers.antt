use Rattle.cmd_check.proofs.Words.{◌+◌, map, ◌∙◌, constants_of, link_from}
use Rattle.std.proofs.Common.{drop}
use Rattle.cmd_kit.specs.ChainSteps.{chain_link}
use Rattle.cmd_check.proofs.ChainLemmas.{ends_behind_link, no_links}
use Rattle.cmd_check.proofs.chaining.+links_from.Goals as goal

pub returns-then-before-len : goal.returns-then-before-len
returns-then-before-len g t c judged count so =
    no_links (constants_of c.args.chain.now.judging.constants) c.args.chain.now.evidence.now judged c.args.left c.args.chain.now.links c.args.before
    _ _ _ (c.if-before-len.true ∙ c.len.ensures) (c.save_chain.ensures (constants_of c.args.chain.now.judging.constants) judged c.args.left count so)

pub returns : goal.returns
returns g t c judged count so =
    ends_behind_link (constants_of c.args.chain.now.judging.constants) c.args.chain.now.evidence.now judged c.args.left c.args.before count
    (link_from c.files_of_link-link.result) (map chain_link (drop (c.args.before + 1) c.args.chain.now.links)) _ c.files_of_link-link.ensures.link _
    c.in_ok-outputs.outputs _ _ _ so c.in_ok-outputs.ensures.goes _ _ c.links_from.ensures
