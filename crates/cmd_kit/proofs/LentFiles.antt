-- A kernel that is lent is the one that is held.
use Rattle.cmd_kit.proofs.Words.{◌≡◌, Option, Some, None, Bor, ap, option_copied, option_map}
use Rattle.cmd_kit.specs.Sources.{file_of}
use Rattle.cmd_kit.specs.declared.source.SourceFile as held

pub lent_files : (lent : Option (Bor held.SourceFile)) (file : Option held.SourceFile) → option_copied lent ≡ file
    → option_map (λ k. file_of k.now) lent ≡ option_map file_of file
lent_files None file is = ap (option_map file_of) is
lent_files (Some k) file is = ap (option_map file_of) is
