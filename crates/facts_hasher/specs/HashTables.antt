-- Tables of the hasher whose entries are 0, and what they show.
use Rattle.std.specs.Prelude.{◌≡◌, ℕ, ◌*◌, ◌%◌, ◌<◌, false, List, [], length, All}
use Rattle.vm_table.specs.Layout.{IsTable}
use Rattle.rpo_hash.specs.States.{IsState}
use Rattle.air_kit.specs.declared.requests.Perm.{Perm}
use Rattle.air_kit.specs.Places.{Claim, at_number}
use Rattle.air_kit.specs.HasherValues.{hasher_values}
use Rattle.air_kit.specs.Requests.{FollowsOn, perms_given}
use Rattle.air_kit.specs.ChipTuples.{chip_given}
use Rattle.air_kit.specs.declared.trace.TableName.TheVariants as table
use Rattle.buses.specs.Counts.{counted, over_rows}
use Rattle.buses.specs.declared.bus.Bus.TheVariants as bus
use Rattle.air_kit.specs.Traces.{spot_of}
use Rattle.facts_hasher.specs.PermRows.{rows_of_perms, perms_in}

-- each entry is 0 in each row
pub record HasherIsZero (c : Claim) (rows : List (List ℕ)) : Type 0 where
  pub table : IsTable 15 rows
  pub whole : length rows % 8 ≡ 0
  pub zero : (i number : ℕ) → i < length rows → at_number (hasher_values c (spot_of rows i)) number ≡ 0

-- permutations of states that follow one another
pub record PermsFit (constants : List ℕ) (perms : List Perm) : Type 0 where
  pub follows : FollowsOn constants false [] perms
  pub states : All (λ p. IsState p.start) perms

-- on the hasher's bus the rows give what the permutations give
abbrev pub GivesPerms : List ℕ → List Perm → List (List ℕ) → Type 0
GivesPerms constants perms rows =
    (u : List ℕ) → over_rows (chip_given bus.Hasher table.Hasher) rows u ≡ counted (perms_given constants 1 perms) u

-- the rows are those of the permutations that they show
pub record ArePermRows (constants : List ℕ) (rows : List (List ℕ)) : Type 0 where
  pub fit : PermsFit constants (perms_in rows)
  pub rows_are : rows ≡ rows_of_perms constants (perms_in rows)
  pub given : GivesPerms constants (perms_in rows) rows

-- rows that show these permutations and no more, and whose entries are 0
pub record ShowsPerms (c : Claim) (perms : List Perm) (rows : List (List ℕ)) : Type 0 where
  pub size : length rows ≡ 8 * length perms
  pub zero : HasherIsZero c rows
  pub perms_are : perms_in rows ≡ perms
  pub given : GivesPerms c.constants perms rows
