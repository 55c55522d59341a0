use Rattle.sound_evidence.proofs.extracting.extract.Goals as goal

pub returns : goal.returns
returns c = c.into_evidence.ensures.is c.args.valid.now.public c.args.valid.now.trace c.in_ok-extract_addr.ensures
