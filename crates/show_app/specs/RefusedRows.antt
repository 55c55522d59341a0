-- Which rows of a trace are refused beside the first one, and how many there are (docs/SHOW.md).
use Rattle.std.specs.Prelude.{ℕ, List, ◌++◌, codes, decimal, drop, length, take}
use Rattle.std.specs.List.{flat_map}
use Rattle.air_kit.specs.Tables.{text_of_table}
use Rattle.air_kit.specs.declared.fault.Fault.{Fault}

-- how many refused rows are told, the first one among them
abbrev pub most_told : ℕ
most_told = 16

-- the number of an entry, and its value
abbrev pub entry_text : ℕ → ℕ → List ℕ
entry_text number value = codes " constraint " ++ decimal number ++ codes " value " ++ decimal value ++ codes "\n"

-- another refused row, with its first entry that is not 0
abbrev pub also_line : Fault → List ℕ
also_line f = codes "also " ++ text_of_table f.table ++ codes " row " ++ decimal f.row ++ entry_text f.number f.value

abbrev pub rows_refused_line : ℕ → List ℕ
rows_refused_line rows = codes "rows refused " ++ decimal rows ++ codes "\n"

-- of the faults of all refused rows, of which the first is told already, the others, and how many there are
abbrev pub refused_rows : List Fault → List ℕ
refused_rows faults = flat_map also_line (drop 1 (take most_told faults)) ++ rows_refused_line (length faults)
