use Rattle.std.proofs.Common.{◌≡◌, ℕ, ◌+◌, ◌<◌, ◌≤◌, Bool, true, false, cond, List, [], ◌∷◌, length, take, get_or, sym, ap, subst, ◌∙◌, rules, arith}
use Rattle.std.proofs.lemmas.List.{length-append}
use Rattle.std.proofs.lemmas.List.Elements.{filter_more}
use Rattle.std.specs.List.{filter}
use Rattle.masm_tree.specs.declared.tree.Proc.{Proc}
use Rattle.masm_names.specs.Extras.{exports_in, IsExtra}
use Rattle.masm_names.proofs.LeastLemmas.{Among-more, Among-end}
use Rattle.masm_names.proofs.exports.first_extra_export.Goals as goal
use Rattle.masm_names.proofs.exports.first_extra_export.Goals.{then-procedure, else-procedure}

one_or_none : {X : Type 0} (x : X) (b : Bool) → length (cond b (x ∷ []) []) ≡ cond b 1 0
one_or_none x true = omega arith
one_or_none x false = omega arith

exports-more : (procs : List Proc) (i : ℕ) (p : Proc) → i < length procs → p ≡ get_or procs i p
    → exports_in (take (i + 1) procs) ≡ exports_in (take i procs) + cond p.exported 1 0
exports-more procs i p within is =
    ap length (filter_more (λ q. q.exported) procs i p within)
    ∙ (length-append (filter (λ q. q.exported) (take i procs)) _
    ∙ ap (λ n. exports_in (take i procs) + n) (one_or_none (get_or procs i p) _ ∙ ap (λ q. cond q.exported 1 0) (sym is)))

counted : (before after found now : ℕ) (b : Bool) → after ≡ before + cond b 1 0 → found ≡ before → b ≡ true → now ≡ found + 1 → now ≡ after
counted before after found now b e f t n = let g = subst (λ d. after ≡ before + cond d 1 0) t e in omega arith

uncounted : (before after found now : ℕ) (b : Bool) → after ≡ before + cond b 1 0 → found ≡ before → b ≡ false → now ≡ found → now ≡ after
uncounted before after found now b e f t n = let g = subst (λ d. after ≡ before + cond d 1 0) t e in omega arith

pub loop-procedure-preserved : goal.loop-procedure-preserved
loop-procedure-preserved c =
    let procs = c.args.procs.now in
    let i = c.loop-procedure.procedure-index in
    let more = exports-more procs i c.procedure-item.result c.loop-procedure-test.true c.procedure-item.is in
    let inv = c.loop-procedure.invariant in
    let count : c.if-procedure.exports ≡ exports_in (take (i + 1) procs) =
    elim c.if-procedure.branch [
      | then-procedure w ↦ counted _ _ c.loop-procedure.exports _ _ more inv.0 w.if-procedure.true w.exports-is
      | else-procedure w ↦ uncounted _ _ c.loop-procedure.exports _ _ more inv.0 w.if-procedure.false w.exports-is
    ] in
    let bound : c.if-procedure.exports ≤ i + 1 = elim c.if-procedure.branch [ then-procedure w ↦ omega arith | else-procedure w ↦ omega arith ] in (
      count,
      bound,
      rw c.earlier-first.ensures (Among-more (λ place p. IsExtra (exports_in (take place procs)) p) procs i c.procedure-item.result
          c.loop-procedure.first _
          c.loop-procedure-test.true c.procedure-item.is inv.2 (rw inv.0 at c.extra_export.ensures)),
    )

pub returns : goal.returns
returns c =
    let procs = c.args.procs.now in
    let ended : length procs ≤ c.loop-procedure.procedure-index = search rules in
    Among-end (λ place p. IsExtra (exports_in (take place procs)) p) procs _ c.loop-procedure.first ended c.loop-procedure.invariant.2
