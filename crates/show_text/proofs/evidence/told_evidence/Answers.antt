use Rattle.std.proofs.Common.{◌+◌, ◌++◌, sym, ap, subst, ◌∙◌, arith}
use Rattle.number_files.proofs.Lines.{some_left, none_is_left}
use Rattle.show_text.proofs.Told.{Goes, goes_on, stops, ends}
use Rattle.show_text.proofs.evidence.told_evidence.Goals as goal

pub returns-in_default : goal.returns-in_default
returns-in_default c =
    stops _ _ _ _ (rw c.in_default.is at c.in_ok-first.ensures.is) (some_left _ (sym c.is_empty.ensures ∙ c.loop-rest-test.true))
    c.loop-rest.invariant.fits c.loop-rest.invariant.goes

pub loop-rest-preserved : goal.loop-rest-preserved
loop-rest-preserved c =
    let less = rw c.in-Some.is at c.in_ok-first.ensures.shorter in
    record {
      goes = subst (λ text. Goes c.args.bytes.now text (c.loop-rest.line + 1) c.in-Some.first.behind.now)
          (sym (c.in_ok-append.ensures.ok ∙ ap (λ told. c.loop-rest.text ++ told) c.as_slice.ensures.items))
          (goes_on _ _ _ _ _ _ (rw c.in-Some.is at c.in_ok-first.ensures.is) (some_left _ (sym c.is_empty.ensures ∙ c.loop-rest-test.true))
          c.loop-rest.invariant.fits c.loop-rest.invariant.goes);
      some = omega arith;
      fits = omega (arith, less, c.loop-rest.invariant.fits);
    }

pub returns : goal.returns
returns c = ends _ _ _ _ (none_is_left _ (sym c.is_empty.ensures ∙ c.loop-rest-test.false)) c.loop-rest.invariant.goes
