use Rattle.std.proofs.Common.{◌↔◌, Bool, IsTrue, sym, subst}
use Rattle.air_kit.specs.Flags.{HasBits}
use Rattle.air_kit.proofs.DecodeLemmas.{bits_tested}
use Rattle.air_kit.proofs.decode.has_bits.Goals as goal

pub returns : goal.returns
returns g c =
    let row = g.V.View.cells c.args.row.now in subst (λ (b : Bool). IsTrue b ↔ HasBits row) (sym c.are_bits.ensures) (bits_tested row)
