use Rattle.facts_main.proofs.SpotFacts.{decoder_means, reads_shown}
use Rattle.facts_main.proofs.laws.decoder_laws.Goals as goal

pub returns : goal.returns
returns c = record {
  reads = reads_shown;
  shows = λ k op p few r. (decoder_means k op p few r).shown;
  zeros = λ k op p few r. (decoder_means k op p few r).zeros;
}
