use Rattle.cmd_kit.proofs.ServingLemmas.{goes_past_taken}
use Rattle.cmd_kit.proofs.loading.load_pieces.Goals as goal

pub returns-in-Ok-clause-found : goal.returns-in-Ok-clause-found
returns-in-Ok-clause-found g c = goes_past_taken c.args.name.now c.args.most (g.T.Taker.took c.read_pieces.new.taker) _ _ c.in-Ok.ensures.step
