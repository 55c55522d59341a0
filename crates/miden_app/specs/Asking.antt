-- What a read command asks for.
use Rattle.std.specs.Prelude.{◌≤◌, length, option_map, IfSome}
use Rattle.vm_field.specs.Limits.{most_cycles, most_name_bytes}
use Rattle.workloads.specs.Workloads.{most_turns}
use Rattle.cmd_run.specs.Naming.{AreNamed, outputs_from}
use Rattle.cmd_make.specs.Naming as made
use Rattle.miden_app.specs.declared.words.Command.{Command}
use Rattle.miden_app.specs.declared.words.Command.TheVariants as command
use Rattle.cmd_kit.specs.Asked.{Asked, nothing, hash, assemble, run, check, check_source, make, chain, runs, member, most_depth, most_pieces}

abbrev pub asks : Command → Asked
asks command.Nothing = nothing
asks (command.Hash params numbers) = hash params.now numbers.now
asks (command.Assemble params source kernel) = assemble params.now source.now (option_map (λ k. k.now) kernel)
asks (command.Run params source inputs outputs kernel limit) =
    run params.now source.now inputs.now (outputs_from outputs) (option_map (λ k. k.now) kernel) limit
asks (command.Check params table statement evidence pieces) = check params.now table.now statement.now evidence.now
asks (command.CheckSource params table statement evidence source kernel pieces) =
    check_source params.now table.now statement.now evidence.now source.now (option_map (λ k. k.now) kernel)
asks (command.Make params turns names) = make params.now turns (made.names_from names)
asks (command.Chain params list evidence pieces) = chain params.now list.now evidence.now
asks (command.Runs params list) = runs params.now list.now
asks (command.Member params table statement evidence depth pieces) = member params.now table.now statement.now evidence.now depth

-- its names are those of files, and its numbers are in their bounds
abbrev pub NamesFiles : Command → Type 0
NamesFiles command.Nothing = Unit {0}
NamesFiles (command.Hash params numbers) = (length params.now ≤ most_name_bytes) × (length numbers.now ≤ most_name_bytes)
NamesFiles (command.Assemble params source kernel) =
    (length params.now ≤ most_name_bytes) × (length source.now ≤ most_name_bytes) × IfSome kernel (λ k. length k.now ≤ most_name_bytes)
NamesFiles (command.Run params source inputs outputs kernel limit) =
    (length params.now ≤ most_name_bytes) × (length source.now ≤ most_name_bytes) × (length inputs.now ≤ most_name_bytes) × AreNamed outputs
    × IfSome kernel (λ k. length k.now ≤ most_name_bytes) × (limit ≤ most_cycles)
NamesFiles (command.Check params table statement evidence pieces) =
    (length params.now ≤ most_name_bytes) × (length table.now ≤ most_name_bytes) × (length statement.now ≤ most_name_bytes)
    × (length evidence.now ≤ most_name_bytes) × (1 ≤ pieces) × (pieces ≤ most_pieces)
NamesFiles (command.CheckSource params table statement evidence source kernel pieces) =
    (length params.now ≤ most_name_bytes) × (length table.now ≤ most_name_bytes) × (length statement.now ≤ most_name_bytes)
    × (length evidence.now ≤ most_name_bytes) × (length source.now ≤ most_name_bytes) × IfSome kernel (λ k. length k.now ≤ most_name_bytes)
    × (1 ≤ pieces) × (pieces ≤ most_pieces)
NamesFiles (command.Make params turns names) =
    (length params.now ≤ most_name_bytes) × (1 ≤ turns) × (turns ≤ most_turns) × made.AreNamed names
NamesFiles (command.Chain params list evidence pieces) =
    (length params.now ≤ most_name_bytes) × (length list.now ≤ most_name_bytes) × (length evidence.now ≤ most_name_bytes)
    × (1 ≤ pieces) × (pieces ≤ most_pieces)
NamesFiles (command.Runs params list) = (length params.now ≤ most_name_bytes) × (length list.now ≤ most_name_bytes)
NamesFiles (command.Member params table statement evidence depth pieces) =
    (length params.now ≤ most_name_bytes) × (length table.now ≤ most_name_bytes) × (length statement.now ≤ most_name_bytes)
    × (length evidence.now ≤ most_name_bytes) × (1 ≤ depth) × (depth ≤ most_depth) × (1 ≤ pieces) × (pieces ≤ most_pieces)
