use Rattle.std.proofs.Common.{◌+◌, ◌<◌, ◌≤◌, drop, length, map, arith, ◌∙◌}
use Rattle.cmd_run.proofs.Words.{constants_of, most_inputs, link_from}
use Rattle.cmd_kit.proofs.OutcomeLemmas.{says_line}
use Rattle.cmd_kit.specs.RunsSteps.{run_link}
use Rattle.cmd_run.proofs.LinkLemmas.{breaks_here, goes_to_next, has_many, lent_cells, may_go_on, no_links}
use Rattle.cmd_run.proofs.linking.+links_from.Goals as goal
use Rattle.cmd_run.proofs.linking.+links_from.Goals.{else-before-len-2-via-then-before-len-2+else-len-gt-MOST_INPUTS, else-before-len-2-via-else-before-len-2}

pub returns-then-before-len : goal.returns-then-before-len
returns-then-before-len g t c =
    no_links (constants_of c.args.constants.now) c.args.before c.args.left c.args.links.now _ _ (c.if-before-len.true ∙ c.len.ensures)
    (says_line _ _ _ _ c.answered.ensures (rw (lent_cells c.as_ref.result c.args.left c.as_ref.ensures.value) at c.links_text.ensures))

pub returns-then-len-gt-MOST_INPUTS : goal.returns-then-len-gt-MOST_INPUTS
returns-then-len-gt-MOST_INPUTS g t c =
    let within = c.if-before-len-2.true in
    let count = c.len-2.ensures in
    let long = c.if-len-gt-MOST_INPUTS.true in
    let size = c.len-then-before-len-2.ensures.count in
    breaks_here (constants_of c.args.constants.now) c.args.before c.args.left (link_from c.files_of_link-link.result)
    (map run_link (drop (c.args.before + 1) c.args.links.now)) _ c.files_of_link-link.ensures.link _ c.in_ok-outputs.outputs _
    c.in_ok-outputs.ensures.loads
    (has_many c.args.links.now (c.args.before + 1) c.in_ok-outputs.outputs (omega (arith, within, count)) (omega (arith, long, size))) _
    c.broken_link.ensures

pub returns : goal.returns
returns g t c =
    let count = c.len-2.ensures in
    let few : c.args.before + 1 < length c.args.links.now → length c.in_ok-outputs.outputs ≤ most_inputs
    = elim c.else-before-len-2.branch [
      | else-before-len-2-via-then-before-len-2+else-len-gt-MOST_INPUTS w ↦ λ within.
          let short = w.if-len-gt-MOST_INPUTS.false in
          let size = w.len-then-before-len-2.ensures.count in
          omega (arith, short, size)
      | else-before-len-2-via-else-before-len-2 w ↦ λ within. let past = w.if-before-len-2.false in absurd (omega (arith, past, within, count))
    ] in
    goes_to_next (constants_of c.args.constants.now) c.args.before c.args.left (link_from c.files_of_link-link.result)
    (map run_link (drop (c.args.before + 1) c.args.links.now)) _ c.files_of_link-link.ensures.link _ c.in_ok-outputs.outputs _
    c.in_ok-outputs.ensures.loads (may_go_on c.args.links.now (c.args.before + 1) c.in_ok-outputs.outputs few) _ _ c.links_from.ensures
