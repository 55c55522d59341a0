-- The sum, the difference and the product of elements, as signs.
use Rattle.std.specs.Prelude.{ℕ}
use Rattle.vm_field.specs.Field.{felt_add, felt_sub, felt_mul}

infixl 60 ◌⊞◌ ◌⊟◌
infixl 70 ◌⊠◌
abbrev pub ◌⊞◌ : ℕ → ℕ → ℕ
a ⊞ b = felt_add a b

abbrev pub ◌⊟◌ : ℕ → ℕ → ℕ
a ⊟ b = felt_sub a b

abbrev pub ◌⊠◌ : ℕ → ℕ → ℕ
a ⊠ b = felt_mul a b
