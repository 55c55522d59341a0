-- The tables of a trace, by number and by name.
use Rattle.std.specs.Prelude.{ℕ, ◌+◌, List, [], ◌∷◌, codes}
use Rattle.air_kit.specs.declared.trace.TableName.{TableName}
use Rattle.air_kit.specs.declared.trace.TableName.TheVariants as table

-- a table's place in their order
abbrev pub table_number : TableName → ℕ
table_number table.Main = 0
table_number table.Range = 1
table_number table.Hasher = 2
table_number table.Bitwise = 3
table_number table.Memory = 4
table_number table.Kernel = 5
table_number table.Left = 6

-- the tables but the main one, in their order
abbrev pub every_chip : List TableName
every_chip = table.Range ∷ table.Hasher ∷ table.Bitwise ∷ table.Memory ∷ table.Kernel ∷ table.Left ∷ []

-- all of them
abbrev pub every_table : List TableName
every_table = table.Main ∷ every_chip

-- a sum over tables
abbrev pub sum_over : List TableName → (TableName → ℕ) → ℕ
sum_over [] of = 0
sum_over (name ∷ names) of = of name + sum_over names of

-- how many columns a table has
abbrev pub columns : TableName → ℕ
columns table.Main = 65
columns table.Range = 2
columns table.Hasher = 15
columns table.Bitwise = 12
columns table.Memory = 14
columns table.Kernel = 5
columns table.Left = 1

-- its name, as it is printed
abbrev pub text_of_table : TableName → List ℕ
text_of_table table.Main = codes "main"
text_of_table table.Range = codes "range"
text_of_table table.Hasher = codes "hasher"
text_of_table table.Bitwise = codes "bitwise"
text_of_table table.Memory = codes "memory"
text_of_table table.Kernel = codes "kernel"
text_of_table table.Left = codes "left"
