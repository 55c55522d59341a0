use Rattle.masm_tables.proofs.Words.{◌≡◌, ◌<◌, ◌≤◌, length, get_or, take, sym, ap, subst, ◌∙◌, unwrap_or, arith, rules, length-set, take_all, ProcedureFits}
use Rattle.masm_tables.proofs.Words.{body_of, procedure_of, source_of, Extent, names_in, AreSizes, dispatch_extent, extent, Prepares}
use Rattle.masm_tables.proofs.Dispatches.{IsDispatchExtent, dispatch_extent_is}
use Rattle.masm_tables.proofs.Known.{all_at, has_operations, read_here, sizes_more}
use Rattle.masm_tables.proofs.Prepared.{asked, prepared}
use Rattle.masm_tables.proofs.sizing.sizes_of.Goals as goal

pub add_size-requires-clause-locals : goal.add_size-requires-clause-locals
add_size-requires-clause-locals c =
    let ast = c.args.ast.now in
    let k = c.loop-place.place-index in
    let place = get_or c.args.order.now k 0 in
    let below : k < length c.args.order.now = search rules in
    let here = read_here ast place c.index-procedure.result.now (c.requires.order.within k below) c.index-procedure.ensures in
    all_at ProcedureFits (source_of ast).procs place (procedure_of c.index-procedure.result.now) c.requires.fits.procs here

pub loop-place-preserved : goal.loop-place-preserved
loop-place-preserved c =
    let ast = c.args.ast.now in
    let order = c.args.order.now in
    let k = c.loop-place.place-index in
    let place = get_or order k 0 in
    let below : k < length order = search rules in
    let low = c.requires.order.within k below in
    let here = read_here ast place c.index-procedure.result.now low c.index-procedure.ensures in
    let source = source_of ast in
    let p = procedure_of c.index-procedure.result.now in
    let kernel = c.args.outside.now.exports.now in
    let added = c.in_ok-add_size.ensures in
    let old = c.loop-place.sizes.items in
    let Is : Extent → Type 0 = λ e. e ≡ dispatch_extent old c.args.targets.now in
    let asks =
    subst (λ xs. Prepares (λ e. e ≡ dispatch_extent xs c.args.targets.now) p.body c.loop-place.dispatch c.dispatch_for-dispatch.result)
    c.deref-in-loop-place.ensures.value
    (subst (λ xs. Prepares (λ e. e ≡ dispatch_extent c.deref-in-loop-place.result.now c.args.targets.now) (body_of xs) c.loop-place.dispatch
    c.dispatch_for-dispatch.result) c.deref.ensures.value c.dispatch_for-dispatch.ensures) in
    let count = c.loop-place.invariant.0 in (
      ap length added.1 ∙ length-set old place added.0 ∙ count,
      λ out is.
          let before = c.loop-place.invariant.1 out is in
          let some = has_operations source out kernel is.exports c.args.names.now c.requires.names in
          let good = prepared Is p.body (IsDispatchExtent source out) asks before.1
          (λ at has e is_e. subst (IsDispatchExtent source out) (sym is_e)
          (dispatch_extent_is source c.args.targets.now c.requires.targets out some (take k order) old before.0
          (λ j target. c.requires.order.targets k j below (record { procedure = p; here = here; at = at; among = has }) target))) in (
            sizes_more source out kernel is.exports c.args.names.now c.requires.names is.count (names_in kernel) c.requires.closed
                order c.requires.order k p old _ added.0 c.unwrap_or-extent.result below here before.0 added.1 (omega arith) added.2
                (λ at has.
                let known = asked Is p.body (IsDispatchExtent source out) asks good at has in
                subst (IsDispatchExtent source out)
                (sym (c.unwrap_or-extent.ensures ∙ ap (λ o. unwrap_or o (extent 1 1)) known.1)) known.2),
            good,
          ),
    )

pub returns-clause-sizes : goal.returns-clause-sizes
returns-clause-sizes c = λ out is.
    let order = c.args.order.now in
    let ended : length order ≤ c.loop-place.place-index = search rules in
    subst (λ xs. AreSizes (source_of c.args.ast.now) out xs c.loop-place.sizes.items) (take_all c.loop-place.place-index order ended)
    (c.loop-place.invariant.1 out is).0
