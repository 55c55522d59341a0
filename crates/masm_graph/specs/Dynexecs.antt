-- The dynexecs of a source's procedures.
use Rattle.std.specs.Prelude.{Bool, true, false, ◌||◌, List, [], ◌∷◌, map, Option, Some, None}
use Rattle.std.specs.List.{list_any}
use Rattle.masm_tree.specs.declared.tree.Position.{Position}
use Rattle.masm_tree.specs.declared.tree.Proc.{Proc}
use Rattle.masm_tree.specs.Views.{body_of}
use Rattle.masm_names.specs.Uses.{dynexecs_of}

-- the places of those in a procedure's body
abbrev pub dynexecs_in : Proc → List Position
dynexecs_in procedure = dynexecs_of (body_of procedure.body.items)

-- of those between begin and end
abbrev pub main_dynexecs_in : Option Proc → List Position
main_dynexecs_in None = []
main_dynexecs_in (Some main) = dynexecs_in main

-- whether there is one
abbrev pub has_one : List Position → Bool
has_one [] = false
has_one (at ∷ row) = true

-- whether one of the procedures has one, or the body between begin and end
abbrev pub has_dynexec : List Proc → Option Proc → Bool
has_dynexec procs main = list_any has_one (map dynexecs_in procs) || has_one (main_dynexecs_in main)
