-- By the row's operation.
use Rattle.bus_main.proofs.LookupLemmas.{and_asked, none_combined, not_and, not_xor, xor_asked}
use Rattle.bus_kit.specs.Widths.{tallied}
use Rattle.bus_main.proofs.bitwise.tuples_bitwise.Goals as goal

pub returns-in-U32And : goal.returns-in-U32And
returns-in-U32And g c = and_asked _ _ _ _ _ _ _ _ c.requires.op c.in-U32And.is c.combined.ensures c.ask.ensures

pub returns-in-U32Xor : goal.returns-in-U32Xor
returns-in-U32Xor g c = xor_asked _ _ _ _ _ _ _ _ c.requires.op c.in-U32Xor.is c.combined-in-U32Xor.ensures c.ask-in-U32Xor.ensures

pub returns-in_default : goal.returns-in_default
returns-in_default g c =
    none_combined 1 (tallied c.args.tally.now) _ _ c.args.op c.requires.op (not_and c.args.op c.in_default.not-U32And)
    (not_xor c.args.op c.in_default.not-U32Xor)
