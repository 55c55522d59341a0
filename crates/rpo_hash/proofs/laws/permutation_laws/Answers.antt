use Rattle.vm_field.proofs.PermutationLemmas.{permuted-is, round-powers, rounds-last, rounds-none}
use Rattle.rpo_hash.proofs.OneToOne.{before_roots-IsState, permuted-IsState, round-IsState, same_from_permuted}
use Rattle.rpo_hash.proofs.laws.permutation_laws.Goals as goal

pub returns : goal.returns
returns c = record {
  seven = permuted-is;
  none = rounds-none;
  one_more = rounds-last;
  powers = round-powers;
  round = round-IsState;
  before_roots = before_roots-IsState;
  one_to_one = same_from_permuted;
  elements = permuted-IsState;
}
