-- A cut behind another one.
use Rattle.std.proofs.Common.{arith}
use Rattle.pieces.proofs.CutLemmas.{cut_grows}
use Rattle.checker.proofs.parts.Part.rows.Goals as goal

pub returns-clause-grows : goal.returns-clause-grows
returns-clause-grows c =
    let some = c.args.self.some in
    let within = c.args.self.within in
    let grows = cut_grows c.args.self.low c.args.self.high c.args.count c.args.self.pieces (omega (arith, some)) (omega (arith, some, within)) in
    omega (arith, grows, c.cut.ensures.is, c.cut-2.ensures.is)
