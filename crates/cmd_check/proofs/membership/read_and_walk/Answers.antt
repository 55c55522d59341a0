use Rattle.cmd_check.proofs.Words.{◌∙◌, constants_of, tree_of, stated_of}
use Rattle.cmd_check.proofs.WalkLemmas.{walk_ends, walk_gives_up}
use Rattle.cmd_check.proofs.membership.read_and_walk.Goals as goal

pub returns-in_default : goal.returns-in_default
returns-in_default g c =
    walk_gives_up c.args.params.now c.args.names.table.now c.args.names.statement.now c.args.names.evidence.now c.args.depth
    (constants_of c.in_ok-params.params) _ _ c.in_ok-params.ensures.loads c.in_ok-trace.trace _ c.in_ok-trace.ensures.loads
    (stated_of c.in_ok-statement.statement) _ c.in_ok-statement.ensures.loads

pub returns : goal.returns
returns g c =
    walk_ends c.args.params.now c.args.names.table.now c.args.names.statement.now c.args.names.evidence.now c.args.depth
    (constants_of c.in_ok-params.params) _ _ c.in_ok-params.ensures.loads c.in_ok-trace.trace _ c.in_ok-trace.ensures.loads
    (stated_of c.in_ok-statement.statement) _ c.in_ok-statement.ensures.loads (tree_of c.in-Ok-Ok.program.tree) c.as_slice.result.now _ _
    c.in-Ok-Ok.ensures.tree (c.as_slice.ensures.items ∙ c.in-Ok-Ok.ensures') c.judge_for.ensures
