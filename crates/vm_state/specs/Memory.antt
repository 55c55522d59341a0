-- The words of memory as a finite map.
use Rattle.std.specs.Prelude.{ℕ, List}
use Rattle.std.specs.FinMap.{from_entries, code}
use Rattle.std.specs.Coded.{Coded, coded×, coded_list, coded_ℕ}
use Rattle.vm_field.specs.Machine.{WordMap}

abbrev pub words_code : Coded WordMap
words_code = code (coded× coded_ℕ coded_ℕ) (coded_list coded_ℕ)

-- the words of a map's entries
abbrev pub words_of : List ((ℕ × ℕ) × List ℕ) → WordMap
words_of entries = from_entries entries
