-- Files of source as the code holds them.
use Rattle.cmd_kit.specs.Steps.{SourceFile}
use Rattle.cmd_kit.specs.declared.source.SourceFile as held

abbrev pub file_of : held.SourceFile → SourceFile
file_of f = record { name = f.name.now; text = f.text }
