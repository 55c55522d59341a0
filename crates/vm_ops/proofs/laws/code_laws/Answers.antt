use Rattle.vm_ops.proofs.CodeLemmas.{code_of-below, code_of-different, op_at-code_of, code_of-op_at, op_at-outside}
use Rattle.vm_ops.proofs.laws.code_laws.Goals as goal

pub returns : goal.returns
returns c = record {
  below = code_of-below;
  different = code_of-different;
  of_op = op_at-code_of;
  of_code = code_of-op_at;
  outside = op_at-outside;
}
