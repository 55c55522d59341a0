use Rattle.std.proofs.Common.{◌≡◌, take}
use Rattle.masm_tree.specs.Views.{body_of}
use Rattle.masm_link.specs.Libraries.{plain_body}
use Rattle.masm_link.proofs.library.body.Given as goal

abbrev pub invariant-loop-instr : goal.invariant-loop-instr
invariant-loop-instr l = body_of l.stmts.items ≡ plain_body (take l.instr-index l.instructions)
