-- What a decoded row is known to show.
use Rattle.std.specs.Prelude.{◌≡◌, ◌↔◌, ℕ, ◌/◌, ◌%◌, Bool, nat_lt, ◌&&◌, List, [], ◌∷◌, Option, Some}
use Rattle.vm_field.specs.Signs.{◌⊠◌}
use Rattle.vm_ops.specs.declared.op.Op.{Op}
use Rattle.vm_table.specs.MainColumns.{b}
use Rattle.air_kit.specs.Flags.{HasOp, factor}

-- what was found is the operation that the row's bits spell; none where they are not bits, or spell none
abbrev pub IsDecoded : List ℕ → Option Op → Type 0
IsDecoded row found = (op : Op) → (found ≡ Some op) ↔ HasOp row op

-- whether the bits of a row's operation are bits
abbrev pub are_bits : List ℕ → Bool
are_bits row =
    nat_lt (b row 0) 2 && nat_lt (b row 1) 2 && nat_lt (b row 2) 2 && nat_lt (b row 3) 2 && nat_lt (b row 4) 2 && nat_lt (b row 5) 2
    && nat_lt (b row 6) 2

-- the product over a list of bits by the digits of a code, lowest first
unfoldable pub bit_product : ℕ → List ℕ → ℕ
bit_product code [] = 1
bit_product code (bit ∷ rest) = factor (code % 2) bit ⊠ bit_product (code / 2) rest

-- the bits of a row's operation, lowest first
abbrev pub bit_list : List ℕ → List ℕ
bit_list row = b row 0 ∷ b row 1 ∷ b row 2 ∷ b row 3 ∷ b row 4 ∷ b row 5 ∷ b row 6 ∷ []
