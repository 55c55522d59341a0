use Rattle.fill_files.proofs.RunLemmas.{numbers}
use Rattle.test_fill.proofs.tests.known_numbers.Goals as goal

pub returns : goal.returns
returns c = numbers c.args.params.now c.args._program.now c.args._run.now c.known_constants.ensures.count c.requires
