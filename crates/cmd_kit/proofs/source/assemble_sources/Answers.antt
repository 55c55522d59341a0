use Rattle.masm_link.specs.Assembling.{no_memory}
use Rattle.cmd_kit.proofs.source.assemble_sources.Goals as goal

pub returns-in_default : goal.returns-in_default
returns-in_default c = no_memory
