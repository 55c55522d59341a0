use Rattle.std.proofs.Common.{[], refl, ◌∙◌, arith, length-set}
use Rattle.std.proofs.lemmas.Result.{err_from_is_err_and}
use Rattle.rpo_hash.proofs.TextRounds.{read_none, read_more, read_all, length-read_all, refused_first, refused_second}
use Rattle.rpo_hash.proofs.params.Params.read.Goals as goal

pub loop-k-init : goal.loop-k-init
loop-k-init c = record { read = read_none c.args.bytes.now [] []; line = refl; first_size = refl; second_size = refl }

pub returns-in_err-first-clause-refused : goal.returns-in_err-first-clause-refused
returns-in_err-first-clause-refused c =
    let p = err_from_is_err_and c.from_residual.result c.from_residual.ensures.1 in
    rw (p.1, p.2)
    (refused_first c.loop-k.k _ _ _ _ _ _ c.loop-k.invariant.read c.loop-k-test.true c.loop-k.invariant.line c.in_err-first.ensures.read)

pub returns-in_err-second-clause-refused : goal.returns-in_err-second-clause-refused
returns-in_err-second-clause-refused c =
    let p = err_from_is_err_and c.from_residual-in_err-second.result c.from_residual-in_err-second.ensures.1 in
    rw (p.1, p.2)
    (refused_second c.loop-k.k _ _ _ _ _ _ _ _ _ c.loop-k.invariant.read c.loop-k-test.true c.loop-k.invariant.line c.in_ok-first.ensures.read
    c.in_ok-first.ensures.line c.in_err-second.ensures.read)

pub loop-k-preserved : goal.loop-k-preserved
loop-k-preserved c =
    let k = c.loop-k.k in
    record {
      read =
          read_more k _ _ _ _ _ _ _ _ _ _ c.loop-k.invariant.read (omega arith) (omega arith) c.loop-k.invariant.line c.in_ok-first.ensures.read
          c.in_ok-first.ensures.line c.in_ok-second.ensures.read;
      line = omega (arith, c.in_ok-first.ensures.line, c.in_ok-second.ensures.line);
      first_size = length-set c.loop-k.first k c.in_ok-first.field-0 ∙ c.loop-k.invariant.first_size;
      second_size = length-set c.loop-k.second k c.in_ok-second.field-0 ∙ c.loop-k.invariant.second_size;
    }

pub returns-in_err-end-clause-refused : goal.returns-in_err-end-clause-refused
returns-in_err-end-clause-refused c =
    let p = err_from_is_err_and c.from_residual-in_err-end.result c.from_residual-in_err-end.ensures.1 in
    rw (p.1, p.2)
    (read_all c.loop-k.k c.loop-k.lines.line _ _ _ _ _ c.loop-k.invariant.read (omega arith) c.loop-k.invariant.first_size
    c.loop-k.invariant.second_size (omega arith) c.in_err-end.ensures)

pub returns-clause-value : goal.returns-clause-value
returns-clause-value c =
    read_all c.loop-k.k c.loop-k.lines.line _ _ _ _ _ c.loop-k.invariant.read (omega arith) c.loop-k.invariant.first_size
    c.loop-k.invariant.second_size (omega arith) c.in_ok-end.ensures

pub returns-clause-count : goal.returns-clause-count
returns-clause-count c =
    length-read_all c.loop-k.k _ _ _ _ c.loop-k.invariant.read (omega arith) c.loop-k.invariant.first_size c.loop-k.invariant.second_size
