use Rattle.vm_field.proofs.Algebra.{zero_factor}
use Rattle.vm_field.proofs.Inverses.{felt_mul-felt_inv, felt_inv-below, felt_pow-seventh_root, seventh_root-below, seventh_root-unique}
use Rattle.vm_field.proofs.Prime as prime_lemmas
use Rattle.vm_field.proofs.laws.field_laws.Goals as goal

pub returns : goal.returns
returns c = record {
  no_divisor = prime_lemmas.no_divisor;
  power = prime_lemmas.power-prime;
  product = zero_factor;
  inverse = felt_mul-felt_inv;
  inverse_below = felt_inv-below;
  root = felt_pow-seventh_root;
  root_below = seventh_root-below;
  root_unique = seventh_root-unique;
}
