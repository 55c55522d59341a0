use Rattle.block_tree.proofs.Refinement.{digest-input, refines-refl, refines-trans, refines-digest, first-refined, keep-execution}
use Rattle.block_tree.proofs.WholeTrees.{whole-digest}
use Rattle.block_tree.proofs.laws.tree_laws.Goals as goal

pub returns : goal.returns
returns c = record {
  input = digest-input;
  word = whole-digest;
  reflexive = refines-refl;
  transitive = λ constants t u v a b. refines-trans constants a b;
  digest = λ constants t u a. refines-digest constants a;
  first = first-refined;
  run = λ constants kernel limit t u s s' events a e. (keep-execution constants kernel limit a s).rule s' events e;
}
