use Rattle.fill_chips.proofs.Words.{◌∙◌}
use Rattle.fill_chips.proofs.BitLemmas.{row-is}
use Rattle.fill_chips.proofs.bitwise.bit_row.Goals as goal

pub returns : goal.returns
returns c =
    row-is c.args.xor c.args.u c.args.v c.bit_of.ensures c.from_u32.ensures c.from_u32-2.ensures c.from_u32-3.ensures
    c.from_u32-4.ensures c.from_u32-5.ensures c.from_u32-6.ensures c.from_u32-7.ensures c.from_u32-8.ensures c.from_u32-9.ensures
    c.from_u32-10.ensures
    (c.from_u32-11.ensures ∙ c.bitwise.ensures)
