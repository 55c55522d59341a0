-- Tables by their names (docs/CONSTRAINTS.md, "Columns").
use Rattle.std.specs.Prelude.{ℕ, if◌then◌else◌, List, codes, Option, Some, None}
use Rattle.std.specs.Str.{bytes_eq}
use Rattle.air_kit.specs.declared.trace.TableName.{TableName}
use Rattle.air_kit.specs.declared.trace.TableName.TheVariants as table

-- the table of this name, if it is one
abbrev pub table_named : List ℕ → Option TableName
table_named name =
    if bytes_eq name (codes "main") then Some table.Main
    else if bytes_eq name (codes "range") then Some table.Range
    else if bytes_eq name (codes "hasher") then Some table.Hasher
    else if bytes_eq name (codes "bitwise") then Some table.Bitwise
    else if bytes_eq name (codes "memory") then Some table.Memory
    else if bytes_eq name (codes "kernel") then Some table.Kernel
    else if bytes_eq name (codes "left") then Some table.Left
    else None
