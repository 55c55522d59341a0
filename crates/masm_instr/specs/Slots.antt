-- How the name of a text is looked up: by a number of eight bits that no two names share.
use Rattle.std.specs.Prelude.{ℕ, ◌-◌, ◌*◌, ◌/◌, ◌%◌, ◌^◌, List, [], ◌∷◌, length, slice_index}
use Rattle.std.specs.Int.{w64, from_le_bytes}

-- the length of a text with its first byte and its last three
abbrev pub key : List ℕ → ℕ
key text =
    from_le_bytes w64 (slice_index text 0 ∷ slice_index text (length text - 1) ∷ slice_index text (length text - 2)
    ∷ slice_index text (length text - 3) ∷ length text % 256 ∷ 0 ∷ 0 ∷ 0 ∷ [])

unfoldable pub slot : List ℕ → ℕ
slot text = (key text * 8782688472565355437) % 2 ^ 64 / 2 ^ 56
