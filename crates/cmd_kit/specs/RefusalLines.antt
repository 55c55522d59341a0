-- The line that is printed of a trace that is refused (docs/FORMATS.md, "Checks").
use Rattle.std.specs.Prelude.{ℕ, List, [], ◌++◌, codes, decimal}
use Rattle.std.specs.List.{flat_map}
use Rattle.air_kit.specs.Tables.{text_of_table}
use Rattle.air_kit.specs.declared.fault.Fault.{Fault}
use Rattle.buses.specs.Names.{text_of_bus}
use Rattle.decimal_text.specs.Decimals.{element_text}
use Rattle.buses.specs.declared.bus.Bus.{Bus}
use Rattle.checker.specs.declared.refusal.Refused.{Refused}
use Rattle.checker.specs.declared.refusal.Refused.TheVariants as refused

-- the table, the row and the number of the entry that is not 0, and its value
abbrev pub fault_line : Fault → List ℕ
fault_line f =
    codes "refused " ++ text_of_table f.table ++ codes " row " ++ decimal f.row ++ codes " constraint " ++ decimal f.number
    ++ codes " value " ++ decimal f.value ++ codes "\n"

-- the bus, the tuple that is not asked as often as given, and both counts
abbrev pub bus_line : Bus → List ℕ → ℕ → ℕ → List ℕ
bus_line bus tuple asked given =
    codes "refused bus " ++ text_of_bus bus ++ codes " tuple" ++ flat_map element_text tuple ++ codes " asked " ++ decimal asked
    ++ codes " given " ++ decimal given ++ codes "\n"

-- The line of a refusal. Want of memory has none.
abbrev pub refused_line : Refused → List ℕ
refused_line (refused.Fault f) = fault_line f
refused_line (refused.Bus bus tuple asked given) = bus_line bus tuple asked given
refused_line refused.Memory = []
