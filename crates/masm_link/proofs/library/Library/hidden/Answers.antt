use Rattle.std.proofs.Common.{false, replicate, map, length, ap, ◌∙◌, rules, arith}
use Rattle.std.proofs.lemmas.List.{length-map}
use Rattle.std.proofs.lemmas.Option.{slice_get_within}
use Rattle.masm_link.specs.Libraries.{LibraryProcedure}
use Rattle.masm_link.proofs.LibraryPlaces.{marks_none, marked, not_marked}
use Rattle.masm_link.proofs.library.Library.hidden.Goals.{in-Some, in_default}
use Rattle.masm_link.proofs.library.Library.hidden.Goals as goal

pub loop-procedure-init : goal.loop-procedure-init
loop-procedure-init c =
    c.in_ok-hidden.ensures.items_if_clones_equal (search rules)
    ∙ (ap (λ n. replicate n false) c.len.ensures.count ∙ marks_none c.args.self.now)

pub index_mut-requires : goal.index_mut-requires
index_mut-requires c =
    let library = c.args.self.now in
    let names = map (λ (p : LibraryProcedure). p.name) library in
    let within = slice_get_within names c.in-Some.place c.as_slice.result.now ((c.place.ensures c.in-Some.place).0 c.in-Some.is) in
    let count = ap length c.loop-procedure.invariant ∙ length-map library _ in
    omega (arith, length-map library (λ (p : LibraryProcedure). p.name), within, count, c.loop-procedure.hidden.ok.0)

pub loop-procedure-preserved : goal.loop-procedure-preserved
loop-procedure-preserved c =
    let library = c.args.self.now in
    let procs = c.args.procs.now in
    let i = c.loop-procedure.procedure-index in
    let q = c.procedure-item.result in
    let name = c.as_slice.result.now in
    let old = c.loop-procedure.hidden.items in
    elim c.match-place.branch [
      | in-Some w ↦
          ap (λ v. v.items) w.hidden-is
          ∙ marked library procs i q name c.loop-procedure-test.true c.procedure-item.is c.as_slice.ensures.items c.place.result c.place.ensures old
          w.in-Some.place w.in-Some.is c.loop-procedure.invariant
      | in_default w ↦
          ap (λ v. v.items) w.hidden-is
          ∙ not_marked library procs i q name c.loop-procedure-test.true c.procedure-item.is c.as_slice.ensures.items c.place.result c.place.ensures old
          w.in_default.is c.loop-procedure.invariant
    ]
