use Rattle.std.proofs.Common.{arith, map}
use Rattle.cmd_kit.proofs.LineLemmas.{four_names, line_at, short_at}
use Rattle.cmd_run.proofs.linking.files_of_link.Goals as goal

pub returns-clause-link : goal.returns-clause-link
returns-clause-link c = four_names c.args.links.now c.args.line c.names.result.now _ c.names.ensures c.in-len4.len_at_least

pub returns-clause-named : goal.returns-clause-named
returns-clause-named c =
    let four = c.in-len4.len_at_least in
    let all = (line_at 4 c.args.links.now c.args.line (map (λ n. n.now) c.names.result.now) c.requires.lines c.names.ensures).names_of_files in
    record {
      source = short_at c.names.result.now 0 _ (omega (arith, four)) all;
      inputs = short_at c.names.result.now 1 _ (omega (arith, four)) all;
      table = short_at c.names.result.now 2 _ (omega (arith, four)) all;
      statement = short_at c.names.result.now 3 _ (omega (arith, four)) all;
    }
