use Rattle.std.proofs.Common.{◌<◌, ◌≤◌, ◌∷◌, [], length, map, sym, ap, subst, ◌∙◌, arith}
use Rattle.std.proofs.lemmas.List.{length-map, map-append}
use Rattle.masm_tree.specs.declared.tree.Ast.{Ast}
use Rattle.masm_tree.specs.Locals.{SourceFits}
use Rattle.masm_tree.specs.Views.{procedure_of, source_of}
use Rattle.masm_link.specs.Libraries.{LibraryProcedure, defines}
use Rattle.masm_link.proofs.LibraryLemmas.{whole_fits}
use Rattle.masm_link.proofs.LibraryPlaces.{whole_is, whole_skips, whole_takes}
use Rattle.masm_link.proofs.library.with_library.Goals.{then-not-is_hidden+in_ok-procedure+in_ok-push, else-not-is_hidden}
use Rattle.masm_link.proofs.library.with_library.Goals as goal

pub loop-place-preserved : goal.loop-place-preserved
loop-place-preserved c =
    let library = c.args.library.now in
    let own = c.args.source.procs.items in
    let hides = c.deref-is_hidden-items.result.now in
    let i = c.loop-place.place in
    let now = c.loop-place.whole.procs.items in
    let are = c.deref-is_hidden-items.ensures.value
    ∙ (c.in_ok-hidden.ensures.marks
    ∙ ap (λ ps. map (λ (p : LibraryProcedure). defines (map procedure_of ps) p.name) library) c.deref.ensures.value) in
    let count = ap length are ∙ length-map library _ in
    let low = c.loop-place-test.true in
    let within : i < length library = omega arith in
    let before = c.loop-place.invariant.procs in
    elim c.if-not-is_hidden.branch [
      | then-not-is_hidden+in_ok-procedure+in_ok-push w ↦ record {
        consts = ap (λ (a : Ast). a.consts) w.whole-is ∙ c.loop-place.invariant.consts;
        main = ap (λ (a : Ast). a.main) w.whole-is ∙ c.loop-place.invariant.main;
        procs = ap (λ (a : Ast). map procedure_of a.procs.items) w.whole-is
            ∙ (ap (map procedure_of) w.in_ok-push.ensures.items
            ∙ (map-append procedure_of now (w.in_ok-procedure.field-0 ∷ [])
            ∙ whole_takes library (map procedure_of own) i hides within are (map procedure_of now) before w.if-not-is_hidden.true
            (procedure_of w.in_ok-procedure.field-0) w.in_ok-procedure.ensures));
      }
      | else-not-is_hidden w ↦ record {
        consts = ap (λ (a : Ast). a.consts) w.whole-is ∙ c.loop-place.invariant.consts;
        main = ap (λ (a : Ast). a.main) w.whole-is ∙ c.loop-place.invariant.main;
        procs = ap (λ (a : Ast). map procedure_of a.procs.items) w.whole-is
            ∙ whole_skips library (map procedure_of own) i hides within are (map procedure_of now) before w.if-not-is_hidden.false;
      }
    ]

pub returns-clause-fits : goal.returns-clause-fits
returns-clause-fits c = λ fits.
    let library = c.args.library.now in
    let source = c.args.source in
    let are = c.deref-is_hidden-items.ensures.value ∙ c.in_ok-hidden.ensures.marks in
    let count = ap length are ∙ length-map library _ in
    let high = c.loop-place-test.false in
    let all : length library ≤ c.loop-place.place = omega arith in
    subst SourceFits (sym (whole_is library source c.loop-place.whole c.loop-place.place all c.loop-place.invariant.consts c.loop-place.invariant.main
    c.loop-place.invariant.procs)) (whole_fits library (source_of source) c.in_ok-hidden.ensures.plain fits)
