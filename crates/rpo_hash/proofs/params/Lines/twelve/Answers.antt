use Rattle.std.proofs.Common.{◌≡◌, ◌+◌, ◌∷◌, ◌++◌, sym, [], List, ℕ, take, set, Ok, refl, ap, ◌∙◌, arith, length-set}
use Rattle.rpo_hash.proofs.Lists.{take-set_next}
use Rattle.std.proofs.lemmas.Result.{err_from_is_err_and}
use Rattle.rpo_hash.proofs.TextLines.{element_lines-zero, line_more, line_stop}
use Rattle.rpo_hash.proofs.params.Lines.twelve.Goals as goal

pub loop-i-init : goal.loop-i-init
loop-i-init c = record { read = element_lines-zero _ _; line = omega arith; size = refl }

pub returns-in_err-elements-clause-read : goal.returns-in_err-elements-clause-read
returns-in_err-elements-clause-read c =
    let p = err_from_is_err_and c.from_residual.result c.from_residual.ensures.1 in
    rw (p.1, p.2) (line_stop c.loop-i.i _ _ 12 _ _ _ _ c.loop-i.invariant.read c.loop-i.invariant.line
    c.in_err-elements.ensures.read c.loop-i-test.true)

pub loop-i-preserved : goal.loop-i-preserved
loop-i-preserved c =
    let elements = c.loop-i.elements in
    let i = c.loop-i.i in
    let e = c.in_ok-elements.field-0 in
    let taken : take (i + 1) (set elements i e) ≡ take i elements ++ e ∷ [] = take-set_next elements i e (omega arith) in
    record {
      read =
          line_more i _ _ _ _ _ _ e c.loop-i.invariant.read c.loop-i.invariant.line c.in_ok-elements.ensures.read
          ∙ ap (λ (es : List ℕ). Ok (es, c.next.new.self.rest.now)) (sym taken);
      line = omega (arith, c.in_ok-elements.ensures.line);
      size = omega (arith, length-set {A = ℕ});
    }
