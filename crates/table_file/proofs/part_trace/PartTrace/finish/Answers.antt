use Rattle.table_file.proofs.Words.{arith}
use Rattle.table_file.proofs.PartTraces.{cut, ended}
use Rattle.table_file.proofs.TablesByName.{size_at, size_past}
use Rattle.table_file.proofs.part_trace.PartTrace.finish.Goals as goal

pub returns-then-self-lt7 : goal.returns-then-self-lt7
returns-then-self-lt7 c = λ all is.
    let p = c.args.self in
    let ready = c.requires.ready in
    cut p ready.each c.if-self-lt7.true c.args.rest.now c.cut_row.result (ready.some c.if-self-lt7.true)
    (omega (arith, c.requires.short, size_at p.table c.if-self-lt7.true)) all (λ width less. c.cut_row.ensures all width is less)

pub returns-else-self-lt7 : goal.returns-else-self-lt7
returns-else-self-lt7 c = λ all is.
    let p = c.args.self in
    ended p c.if-self-lt7.false all c.args.rest.now (omega (arith, c.requires.short, size_past p.table c.if-self-lt7.false)) is
