use Rattle.std.proofs.Common.{◌≡◌, length, arith}
use Rattle.vm_field.proofs.Inverses.{seventh_roots-are_powers}
use Rattle.vm_field.proofs.powers.roots7.Goals as goal

pub returns : goal.returns
returns g c =
    let xs = c.args.x.now in
    let ys = c.to_root_exponent.result in
    let len : length ys ≡ length xs = omega arith in
    seventh_roots-are_powers xs ys len (λ k h. c.known_elements.ensures k 0 h) (λ k h. c.to_root_exponent.ensures k (omega arith))
