use Rattle.std.proofs.Common.{sym, subst, ◌∙◌}
use Rattle.masm_tree.specs.Views.{source_of}
use Rattle.masm_names.specs.Least.{FindsLeast}
use Rattle.masm_names.specs.Naming.{Dangles}
use Rattle.masm_tables.specs.Kernels.{names_of}
use Rattle.masm_link.specs.Refusals.{RefusesAt}
use Rattle.masm_tables.proofs.Finding.{names_same}
use Rattle.masm_link.proofs.Linked.{refused_use, refused_size, closed_names}
use Rattle.masm_link.proofs.linking.measure.Goals as goal

pub returns-in-Some : goal.returns-in-Some
returns-in-Some c = λ out is.
    let source = source_of c.args.ast.now in
    let names = c.deref.ensures.value ∙ c.in_ok-exported.ensures ∙ names_same out.exports c.args.outside.now.exports.now is.exports in
    let dangling =
    subst (FindsLeast (Dangles source (names_of out.exports))) c.in-Some.is (subst (λ ns. FindsLeast
    (Dangles source ns) c.in_ok-refusal.field-0) names c.in_ok-refusal.ensures) in
    refused_use source out c.in_ok-double.double c.in-Some.refusal c.first_of.result c.in_ok-double.ensures dangling c.first_of.ensures

pub returns-in-Some-earlier : goal.returns-in-Some-earlier
returns-in-Some-earlier c = λ out is.
    let source = source_of c.args.ast.now in
    let closed = closed_names source out c.args.outside.now.exports.now is.exports c.in_ok-measured.ensures.closed in
    subst (FindsLeast (RefusesAt source out)) (sym c.earlier.ensures ∙ c.in-Some-earlier.is)
    (refused_size source out closed c.in_ok-double.double c.in_ok-oversized.oversized c.in_ok-double.ensures
    (c.in_ok-oversized.ensures out is))

pub returns : goal.returns
returns c = (
  c.in_ok-measured.ensures,
  λ out is.
      let source = source_of c.args.ast.now in
      let closed = closed_names source out c.args.outside.now.exports.now is.exports c.in_ok-measured.ensures.closed in
      subst (FindsLeast (RefusesAt source out)) (sym c.earlier.ensures ∙ c.in-None.is)
      (refused_size source out closed c.in_ok-double.double c.in_ok-oversized.oversized c.in_ok-double.ensures
      (c.in_ok-oversized.ensures out is)),
)
