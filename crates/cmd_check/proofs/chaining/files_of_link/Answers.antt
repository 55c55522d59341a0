use Rattle.cmd_check.proofs.Words.{arith, map}
use Rattle.cmd_kit.proofs.LineLemmas.{line_at, short_at, two_names}
use Rattle.cmd_check.proofs.chaining.files_of_link.Goals as goal

pub returns-clause-link : goal.returns-clause-link
returns-clause-link c = two_names c.args.links.now c.args.line c.names.result.now _ c.names.ensures c.in-len2.len_at_least

pub returns-clause-table : goal.returns-clause-table
returns-clause-table c =
    short_at c.names.result.now 0 _ (let two = c.in-len2.len_at_least in omega (arith, two))
    (line_at 2 c.args.links.now c.args.line (map (λ n. n.now) c.names.result.now) c.requires.lines c.names.ensures).names_of_files

pub returns-clause-statement : goal.returns-clause-statement
returns-clause-statement c =
    short_at c.names.result.now 1 _ (let two = c.in-len2.len_at_least in omega (arith, two))
    (line_at 2 c.args.links.now c.args.line (map (λ n. n.now) c.names.result.now) c.requires.lines c.names.ensures).names_of_files
