use Rattle.masm_names.specs.Names.{place_at}
use Rattle.masm_names.proofs.NameLemmas.{names_places}
use Rattle.masm_names.proofs.names.procedure_names.Goals as goal

pub returns : goal.returns
returns c = names_places (place_at c.in_ok-names.names) c.deref.result.now c.args.ast.now.procs.items c.deref.ensures.value c.in_ok-names.ensures
