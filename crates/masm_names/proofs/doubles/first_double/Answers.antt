use Rattle.std.specs.Option.{option_map}
use Rattle.masm_tree.specs.Views.{procedure_of}
use Rattle.masm_names.proofs.DoubleAnswers.{FindsLeast-doubles}
use Rattle.masm_names.proofs.doubles.first_double.Goals as goal

pub returns : goal.returns
returns c =
    let ast = c.args.ast.now in
    rw (c.earlier-2.ensures, c.earlier.ensures) (FindsLeast-doubles ast.consts ast.procs.items (option_map procedure_of ast.main) _ _ _
    (rw c.as_slice.ensures.items at c.in_ok-constant.ensures) (rw c.deref.ensures.value at c.in_ok-procedure.ensures)
    (rw c.deref-2.ensures.value at c.first_extra_export-export.ensures))
