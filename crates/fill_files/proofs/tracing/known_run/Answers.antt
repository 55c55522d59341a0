use Rattle.fill_files.proofs.RunLemmas.{deep, digest_is, few_asked, few_rows, fits, has_rows, numbers, permutations_are}
use Rattle.fill_files.proofs.tracing.known_run.Goals as goal

pub returns-clause-fits : goal.returns-clause-fits
returns-clause-fits c = fits c.args.params.now c.args._program.now c.args._run.now c.known_constants.ensures.count c.requires

pub returns-clause-numbers : goal.returns-clause-numbers
returns-clause-numbers c = numbers c.args.params.now c.args._program.now c.args._run.now c.known_constants.ensures.count c.requires

pub returns-clause-has : goal.returns-clause-has
returns-clause-has c = has_rows c.args.params.now c.args._program.now c.args._run.now c.known_constants.ensures.count c.requires

pub returns-clause-few : goal.returns-clause-few
returns-clause-few c = few_rows c.args.params.now c.args._program.now c.args._run.now c.known_constants.ensures.count c.requires

pub returns-clause-depth : goal.returns-clause-depth
returns-clause-depth c = deep c.args.params.now c.args._program.now c.args._run.now c.known_constants.ensures.count c.requires

pub returns-clause-asked : goal.returns-clause-asked
returns-clause-asked c = few_asked c.args.params.now c.args._program.now c.args._run.now c.known_constants.ensures.count c.requires

pub returns-clause-digest : goal.returns-clause-digest
returns-clause-digest c = digest_is c.args.params.now c.args._program.now c.args._run.now c.known_constants.ensures.count c.requires

pub returns-clause-permutations : goal.returns-clause-permutations
returns-clause-permutations c = permutations_are c.args.params.now c.args._program.now c.args._run.now c.known_constants.ensures.count c.requires
