use Rattle.table_file.proofs.Words.{◌≤◌, length, ◌∙◌, arith, err_from_is_err_and}
use Rattle.table_file.proofs.PartTraces.{extra, reads, row_stops}
use Rattle.table_file.proofs.TablesByName.{size_at, size_past}
use Rattle.table_file.proofs.part_trace.PartTrace.take_rows.Goals as goal

pub returns-then-i-ge7-clause-err : goal.returns-then-i-ge7-clause-err
returns-then-i-ge7-clause-err c = λ all stands.
    let some : 1 ≤ length c.args.bytes.now = omega (arith, c.requires.enough, size_past c.args.self.now.table c.if-i-ge7.true) in
    rw c.bad.ensures (extra c.args.self.now c.if-i-ge7.true all c.args.bytes.now some stands)

pub returns-in_err-count-clause-err : goal.returns-in_err-count-clause-err
returns-in_err-count-clause-err c =
    let p = err_from_is_err_and c.from_residual.result c.from_residual.ensures.1 in
    rw (p.1, p.2) (λ all stands. row_stops c.args.self.now c.requires.ready.each c.if-i-ge7.false _ all (c.in_err-count.ensures.err all stands))

pub returns-clause-ok : goal.returns-clause-ok
returns-clause-ok c =
    let p = c.args.self.now in
    let r = c.in_ok-count.ensures.ok in
    record {
      some = omega (arith, c.in_ok-count.ensures.some, size_at p.table c.if-i-ge7.false);
      within = r.within;
      place = c.pass_ended.ensures.place;
      ready = c.pass_ended.ensures.ready;
      goes = λ all stands.
          reads p c.requires.ready.each c.if-i-ge7.false c.args.bytes.now _ _ c.in_ok-count.count c.in_ok-count.ensures.same r all stands
          ∙ c.pass_ended.ensures.same all;
    }
