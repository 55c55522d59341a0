use Rattle.std.proofs.Common.{map, ap, ◌∙◌, sym, subst}
use Rattle.vm_field.specs.Field.{seventh_root}
use Rattle.vm_field.specs.Permutation.{round}
use Rattle.rpo_hash.specs.States.{IsState}
use Rattle.rpo_hash.proofs.OneToOne.{roots-IsState}
use Rattle.rpo_hash.proofs.permutation.round.Goals as goal

pub returns : goal.returns
unfolding round
returns c = record {
  is = c.roots7.ensures ∙ ap (map seventh_root) c.before_roots.ensures.is;
  state = subst IsState (sym c.roots7.ensures) (roots-IsState c.before_roots.result c.before_roots.ensures.state);
}
