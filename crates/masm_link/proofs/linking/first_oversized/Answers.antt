use Rattle.std.proofs.Common.{◌≡◌, None, Some, MatchOption, sym, subst}
use Rattle.masm_size.specs.KnownSizes.{dispatch_extent, size_at, sizes_known}
use Rattle.masm_size.specs.Sizes.{extent_of, procedure_size}
use Rattle.masm_tree.specs.Views.{body_of, procedure_of, source_of}
use Rattle.masm_names.specs.Among.{Among}
use Rattle.masm_names.specs.Least.{FindsLeast}
use Rattle.masm_tree.specs.Trees.{position_of}
use Rattle.masm_tables.specs.Limits.{ExceedsLimit}
use Rattle.masm_link.specs.Refusals.{Oversized}
use Rattle.masm_link.proofs.Linked.{FindsLeast-large}
use Rattle.masm_link.proofs.linking.first_oversized.Goals as goal

pub returns : goal.returns
returns c = λ out is.
    let ast = c.args.ast.now in
    let m = c.args.measured.now in
    let kernel = c.args.outside.now.exports.now in
    let procs =
    subst (λ ss. FindsLeast (Among (λ place p. ExceedsLimit (position_of (procedure_of p)) (extent_of (size_at ss
    (Some place)))) ast.procs.items) c.first_too_large-procs.result) c.deref-2.ensures.value
    (subst (λ ps. FindsLeast (Among (λ place p. ExceedsLimit (position_of (procedure_of p)) (extent_of (size_at c.deref-2.result.now
    (Some place)))) ps) c.first_too_large-procs.result) c.deref.ensures.value
    c.first_too_large-procs.ensures) in
    let main =
    subst (λ ss. MatchOption ast.main (c.in_ok-main.main ≡ None)
    (λ p. FindsLeast (ExceedsLimit (position_of (procedure_of p)) (extent_of (procedure_size
    (sizes_known m.names ss (dispatch_extent ss m.targets.items) kernel) p.locals (body_of p.body.items)))) c.in_ok-main.main))
    c.deref-3.ensures.value
    (subst (λ ts. MatchOption ast.main (c.in_ok-main.main ≡ None)
    (λ p. FindsLeast (ExceedsLimit (position_of (procedure_of p)) (extent_of (procedure_size
    (sizes_known m.names c.deref-3.result.now (dispatch_extent c.deref-3.result.now ts) kernel) p.locals (body_of p.body.items))))
    c.in_ok-main.main)) c.deref-4.ensures.value c.in_ok-main.ensures) in
    subst (FindsLeast (Oversized (source_of ast) out)) (sym c.earlier.ensures) (FindsLeast-large ast kernel m c.requires.measured out is
    c.first_too_large-procs.result c.in_ok-main.main procs main)
