use Rattle.masm_tables.proofs.Words.{◌≡◌, None, MatchOption, sym, ap, subst, ◌∙◌, dispatch_extent, sizes_known, extent_of, procedure_size, body_of}
use Rattle.masm_tables.proofs.Words.{procedure_of, FindsLeast, position_of, ExceedsLimit}
use Rattle.masm_tables.proofs.Over.{over_same}
use Rattle.masm_tables.proofs.limits.main_too_large.Goals as goal

pub returns : goal.returns
returns c =
    let sizes = c.args.sizes.now in
    let dispatch = dispatch_extent sizes c.args.targets.now in
    let extent =
    c.extent_of.ensures ∙ ap extent_of (c.part.ensures ∙ c.in_ok-size.ensures
    ∙ ap (λ e. procedure_size (sizes_known c.args.names.now sizes e c.args.outside.now.exports.now) c.in-Some.procedure.locals
    (body_of c.in-Some.procedure.body.items)) c.dispatch_extent.ensures) in
    subst (λ o. MatchOption o (c.too_large.result ≡ None)
    (λ p. FindsLeast (ExceedsLimit (position_of (procedure_of p))
    (extent_of (procedure_size (sizes_known c.args.names.now sizes dispatch c.args.outside.now.exports.now)
    p.locals (body_of p.body.items)))) c.too_large.result))
    (sym c.in-Some.is) (over_same _ _ _ _ c.too_large.result c.at.ensures extent c.too_large.ensures)
