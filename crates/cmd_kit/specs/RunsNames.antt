-- Which names of the lines of runs are never the same.
use Rattle.std.specs.Prelude.{◌≢◌, ℕ, List, [], ◌∷◌}
use Rattle.std.specs.List.{AllByRecursion}
use Rattle.cmd_kit.specs.RunsSteps.{RunLink}

-- no file of the link has this name
pub record IsBeside (name : List ℕ) (link : RunLink) : Type 0 where
  pub source : name ≢ link.source
  pub inputs : name ≢ link.inputs
  pub table : name ≢ link.outputs.table
  pub statement : name ≢ link.outputs.statement

-- no file that the link writes has this name
pub record IsUnwritten (name : List ℕ) (link : RunLink) : Type 0 where
  pub table : name ≢ link.outputs.table
  pub statement : name ≢ link.outputs.statement

-- What a link writes is no file of a later one, and the two files that it writes are not one.
abbrev pub AreLinksApart : List RunLink → Type 0
AreLinksApart [] = Unit {0}
AreLinksApart (link ∷ links) =
    (link.outputs.table ≢ link.outputs.statement) × AllByRecursion (IsBeside link.outputs.table) links
    × AllByRecursion (IsBeside link.outputs.statement) links × AreLinksApart links
