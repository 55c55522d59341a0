-- Inverses that were computed.
use Rattle.std.specs.Prelude.{◌≡◌, ℕ}
use Rattle.vm_field.specs.Field.{felt_inv}

-- an element before its inverse
abbrev pub IsInverse : ℕ × ℕ → Type 0
IsInverse pair = pair.1 ≡ felt_inv pair.0
