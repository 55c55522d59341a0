-- The facts that trees rest on, of granted rows.
use Rattle.sound_runs.proofs.Words.{claim_of, frames_granted, GrantedTrees}
use Rattle.sound_blocks.proofs.NestingLaw.{nesting_granted}

pub trees_granted : GrantedTrees
trees_granted p t some_row g spans = record {
  claim = claim_of p t;
  shows = g.rows;
  frames = frames_granted p t g;
  nesting = nesting_granted p t some_row g;
  spans = spans;
}
