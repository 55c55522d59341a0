use Rattle.masm_tables.proofs.Words.{◌≡◌, take, names_in}
use Rattle.masm_tables.proofs.kernel.export_names.Given as goal

abbrev pub invariant-loop-export : goal.invariant-loop-export
invariant-loop-export l = l.names.items ≡ names_in (take l.export-index l.kernel)
