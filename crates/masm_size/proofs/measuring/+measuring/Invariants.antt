use Rattle.std.proofs.Common.{◌≡◌, ◌+◌, ◌*◌, ◌≤◌, drop}
use Rattle.masm_tree.specs.Trees.{Empty}
use Rattle.masm_tree.specs.Views.{stmt_view, body_of}
use Rattle.masm_tree.specs.Locals.{HasLocals}
use Rattle.masm_size.specs.KnownSizes.{known_sizes_of}
use Rattle.masm_size.specs.Sizes.{size_view, size_onto}
use Rattle.masm_flat.proofs.Statements.{weight}
use Rattle.masm_size.proofs.measuring.+measuring.Given as goal

abbrev pub invariant-size_onto-loop-stmt : goal.invariant-size_onto-loop-stmt
invariant-size_onto-loop-stmt l = record {
  sized :
      size_onto (known_sizes_of l.sizes) l.locals (body_of (drop l.stmt-index l.body)) (size_view l.size)
      ≡ size_onto (known_sizes_of l.sizes) l.locals (body_of l.body) (size_view l.fn.before);
  locals : HasLocals l.locals (body_of (drop l.stmt-index l.body));
  light : weight (body_of (drop l.stmt-index l.body)) ≤ weight (body_of l.body);
}

abbrev pub decreases-size_onto : goal.decreases-size_onto
decreases-size_onto l = 3 * weight (body_of l.body.now) + 1

abbrev pub decreases-with_statement : goal.decreases-with_statement
decreases-with_statement l = 3 * weight (stmt_view l.stmt.now Empty)

abbrev pub decreases-extent : goal.decreases-extent
decreases-extent l = 3 * weight (body_of l.body.now) + 2
