use Rattle.sound_evidence.proofs.Words.{◌-◌, arith, ap}
use Rattle.air_kit.specs.declared.trace.TableName.TheVariants as table
use Rattle.sound_evidence.proofs.Runs.{is_run}
use Rattle.sound_evidence.proofs.extracting.run_of.Goals as goal

pub overflow_cast-cycles : goal.overflow_cast-cycles
overflow_cast-cycles c = omega (arith, c.rows.ensures.is, (c.requires.known.whole.counts table.Main).most)

pub returns : goal.returns
returns c =
    is_run c.args.public.now c.args.trace.now c.args.walked.found (c.rows.result - 1) c.args.walked.tape c.requires.known
    c.requires.whole (ap (λ n. n - 1) c.rows.ensures.is) c.requires.tape
