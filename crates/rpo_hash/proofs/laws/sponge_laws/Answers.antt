use Rattle.rpo_hash.proofs.Digests.{hashed-IsWord, hashed-is, sponge_after-push}
use Rattle.rpo_hash.proofs.laws.sponge_laws.Goals as goal

pub returns : goal.returns
returns c = record {
  one_more = sponge_after-push;
  digest = hashed-is;
  elements = hashed-IsWord;
}
