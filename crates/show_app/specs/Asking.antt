-- What a read command asks for.
use Rattle.std.specs.Prelude.{◌≤◌, length, option_map, IfSome}
use Rattle.vm_field.specs.Limits.{most_cycles, most_name_bytes}
use Rattle.show_app.specs.Showing.{Shown, nothing, run, rows, explain, evidence, cycles, reason, last_row}
use Rattle.show_app.specs.declared.words.Command.{Command}
use Rattle.show_app.specs.declared.words.Command.TheVariants as command

abbrev pub asks : Command → Shown
asks command.Nothing = nothing
asks (command.Run table) = run table.now
asks (command.Rows table name first last) = rows table.now name first last
asks (command.Explain params table statement) = explain params.now table.now statement.now
asks (command.Evidence file) = evidence file.now
asks (command.Trace params source inputs kernel limit) = cycles params.now source.now inputs.now (option_map (λ k. k.now) kernel) limit
asks (command.Why source kernel) = reason source.now (option_map (λ k. k.now) kernel)

-- its names are those of files, its rows those that a table may have, and its limit one of a run
abbrev pub NamesFiles : Command → Type 0
NamesFiles command.Nothing = Unit {0}
NamesFiles (command.Run table) = length table.now ≤ most_name_bytes
NamesFiles (command.Rows table name first last) = (length table.now ≤ most_name_bytes) × (last ≤ last_row)
NamesFiles (command.Explain params table statement) =
    (length params.now ≤ most_name_bytes) × (length table.now ≤ most_name_bytes) × (length statement.now ≤ most_name_bytes)
NamesFiles (command.Evidence file) = length file.now ≤ most_name_bytes
NamesFiles (command.Trace params source inputs kernel limit) =
    (length params.now ≤ most_name_bytes) × (length source.now ≤ most_name_bytes) × (length inputs.now ≤ most_name_bytes)
    × IfSome kernel (λ k. length k.now ≤ most_name_bytes) × (limit ≤ most_cycles)
NamesFiles (command.Why source kernel) = (length source.now ≤ most_name_bytes) × IfSome kernel (λ k. length k.now ≤ most_name_bytes)
