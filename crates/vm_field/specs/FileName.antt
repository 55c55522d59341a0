-- The names that a command takes for files (docs/FORMATS.md).
use Rattle.std.specs.Prelude.{ℕ, Bool, false, ◌==◌, ◌&&◌, ◌||◌, not, nat_le, List, [], ◌∷◌, length}
use Rattle.std.specs.List.{list_all}
use Rattle.vm_field.specs.Limits.{most_name_bytes}

-- a letter, a digit, or one of . _ - /
abbrev pub is_name_byte : ℕ → Bool
is_name_byte b =
    (nat_le 97 b && nat_le b 122) || (nat_le 65 b && nat_le b 90) || (nat_le 48 b && nat_le b 57)
    || (b == 46) || (b == 95) || (b == 45) || (b == 47)

-- the first byte is a dash
abbrev pub begins_with_dash : List ℕ → Bool
begins_with_dash [] = false
begins_with_dash (b ∷ bs) = b == 45

-- 1 to 200 such bytes, the first of which is no dash
abbrev pub is_file_name : List ℕ → Bool
is_file_name text =
    nat_le 1 (length text) && nat_le (length text) most_name_bytes && list_all is_name_byte text && not (begins_with_dash text)
