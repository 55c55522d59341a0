use Rattle.facts_main.proofs.OpcodeFacts.{main_parts, opcode_bits, row_has_op}
use Rattle.facts_main.proofs.laws.operation_laws.Goals as goal

pub returns : goal.returns
returns c = record {
  operation = λ k p low zeros. row_has_op p low (main_parts k p zeros).opcode;
  bits = λ k p low zeros. opcode_bits p low (main_parts k p zeros).opcode;
}
