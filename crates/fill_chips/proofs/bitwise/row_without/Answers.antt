use Rattle.fill_chips.proofs.Words.{sym, ◌∙◌}
use Rattle.fill_chips.proofs.BitLemmas.{without-is}
use Rattle.fill_chips.proofs.bitwise.row_without.Goals as goal

pub returns : goal.returns
returns c = c.bit_row.ensures ∙ sym (without-is c.args.bits c.args.op)
