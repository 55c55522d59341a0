-- A table of the hasher with a few hashes of zeros, under constants that are all 0.
use Rattle.std.specs.Prelude.{◌≡◌, ℕ, List, [], ◌∷◌, ◌++◌}
use Rattle.vm_field.specs.Machine.{zero_word}
use Rattle.vm_field.specs.Sponge.{hashed}
use Rattle.vm_ops.specs.declared.op.Op.TheVariants as op
use Rattle.vm_ops.specs.Codes.{code_of}

abbrev pub zeros : List ℕ
zeros = zero_word ++ zero_word

-- a row with these flags and this second element of the state
abbrev pub row_of : ℕ → ℕ → ℕ → List ℕ
row_of cont more domain = 0 ∷ cont ∷ more ∷ 0 ∷ domain ∷ 0 ∷ 0 ∷ 0 ∷ 0 ∷ 0 ∷ 0 ∷ 0 ∷ 0 ∷ 0 ∷ 0 ∷ []

-- eight of them; the last rows of permutations are read for their flags alone
abbrev pub rows_of : ℕ → ℕ → ℕ → List (List ℕ)
rows_of cont more domain =
    row_of cont more domain ∷ row_of cont more domain ∷ row_of cont more domain ∷ row_of cont more domain
    ∷ row_of cont more domain ∷ row_of cont more domain ∷ row_of cont more domain ∷ row_of cont more domain ∷ []

-- At the addresses 1 and 9 the hash of one batch of zeros, at 17 that of two, at 33 that of a split of two digests of zeros, at 41
-- that of a loop of one, and at 49 that of a dynamic block.
abbrev pub hasher_rows : List (List ℕ)
hasher_rows =
    rows_of 0 0 0 ++ rows_of 0 0 0 ++ rows_of 0 1 0 ++ rows_of 1 0 0 ++ rows_of 0 0 (code_of op.Split) ++ rows_of 0 0 (code_of op.Loop)
    ++ rows_of 0 0 (code_of op.Dyn)

-- one batch of zeros and two have digests of zeros
pub record AreZeros (constants : List ℕ) : Type 0 where
  pub one : hashed constants 0 (zeros ∷ []) ≡ zero_word
  pub two : hashed constants 0 (zeros ∷ zeros ∷ []) ≡ zero_word
