-- Refused rows that are told one after another.
use Rattle.std.proofs.Common.{◌≡◌, ℕ, ◌+◌, ◌<◌, List, ◌++◌, get_or, length, take}
use Rattle.std.specs.List.{flat_map}
use Rattle.air_kit.specs.declared.fault.Fault.{Fault}
use Rattle.show_text.proofs.Lines.{row_more}
use Rattle.show_app.specs.RefusedRows.{also_line}

-- one row more
pub one_also_more : (text so_far longer : List ℕ) (i : ℕ) (faults : List Fault) (f : Fault) → i < length faults → f ≡ get_or faults i f
    → longer ≡ so_far ++ also_line f → so_far ≡ text ++ flat_map also_line (take i faults)
    → longer ≡ text ++ flat_map also_line (take (i + 1) faults)
one_also_more text so_far longer i faults f within is more made = row_more also_line faults text so_far longer i f f within made more is
