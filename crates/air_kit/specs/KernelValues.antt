-- The entries of the kernel's table: its rows are the digests of the statement's kernel, in order.
use Rattle.std.specs.Prelude.{ℕ, List, [], slice_index, slice_index_or}
use Rattle.vm_field.specs.Signs.{◌⊟◌}
use Rattle.chip_columns.specs.KernelColumns.{d}
use Rattle.air_kit.specs.Places.{Claim, Spot, family}

-- 1 + j: element j is that of the digest of the row's number
abbrev pub entry_1 : ℕ → Claim → ℕ → List ℕ → ℕ
entry_1 j c row x = d x j ⊟ slice_index (slice_index_or c.kernel row []) j

-- 1 to 4
unfoldable pub kernel_values : Claim → Spot → List ℕ
kernel_values c p = family 4 (λ j. entry_1 j c p.row p.cur)
