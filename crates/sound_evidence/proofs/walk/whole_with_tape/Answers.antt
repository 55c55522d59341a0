use Rattle.sound_evidence.proofs.Takings.{all_taken}
use Rattle.sound_evidence.proofs.TurnsFound.{whole_found}
use Rattle.sound_evidence.proofs.walk.whole_with_tape.Goals as goal

pub returns-clause-ok : goal.returns-clause-ok
returns-clause-ok c = whole_found _ _ c.requires _ c.in_ok-found.ensures.ok

pub returns-clause-tape : goal.returns-clause-tape
returns-clause-tape c = all_taken _ _ _ _ (returns-clause-ok c).last c.new-tape.ensures.empty c.in_ok-found.ensures.tape
