-- The tables by their places in their order, and sums over the first of them.
use Rattle.std.proofs.Common.{◌≡◌, ℕ, zero, suc, ◌+◌, ◌<◌, List, [], ◌∷◌, length, take, slice_index_or, refl, sym, ap, ◌∙◌, arith, lit<}
use Rattle.air_kit.specs.Tables.{every_table, sum_over, table_number}
use Rattle.air_kit.specs.declared.trace.TableName.{TableName}
use Rattle.air_kit.specs.declared.trace.TableName.TheVariants as table

-- the table at a place
abbrev pub table_at : ℕ → TableName
table_at n = slice_index_or every_table n table.Main

pub number_at : (n : ℕ) → n < 7 → table_number (table_at n) ≡ n
number_at zero h = refl
number_at (suc zero) h = refl
number_at (suc (suc zero)) h = refl
number_at (suc (suc (suc zero))) h = refl
number_at (suc (suc (suc (suc zero)))) h = refl
number_at (suc (suc (suc (suc (suc zero))))) h = refl
number_at (suc (suc (suc (suc (suc (suc zero)))))) h = refl
number_at (suc (suc (suc (suc (suc (suc (suc n))))))) h = absurd (omega (arith, h))

pub at_own_number : (name : TableName) → table_at (table_number name) ≡ name
at_own_number table.Main = refl
at_own_number table.Range = refl
at_own_number table.Hasher = refl
at_own_number table.Bitwise = refl
at_own_number table.Memory = refl
at_own_number table.Kernel = refl
at_own_number table.Left = refl

pub same_table : (a b : TableName) → table_number a ≡ table_number b → a ≡ b
same_table a b e = sym (at_own_number a) ∙ ap table_at e ∙ at_own_number b

pub table_below : (name : TableName) → table_number name < 7
table_below table.Main = lit< tt
table_below table.Range = lit< tt
table_below table.Hasher = lit< tt
table_below table.Bitwise = lit< tt
table_below table.Memory = lit< tt
table_below table.Kernel = lit< tt
table_below table.Left = lit< tt

-- a sum over one table more
pub sum_next : (names : List TableName) (n : ℕ) (of : TableName → ℕ) → n < length names
    → sum_over (take (suc n) names) of ≡ sum_over (take n names) of + of (slice_index_or names n table.Main)
sum_next [] n of h = absurd (omega (arith, h))
sum_next (name ∷ names) zero of h = omega arith
sum_next (name ∷ names) (suc n) of h = let more = sum_next names n of (omega (arith, h)) in omega (arith, more)
