-- The laws of the hasher's table.
use Rattle.std.proofs.Common.{◌≡◌, ℕ, List, length, ap, ◌∙◌}
use Rattle.vm_field.specs.Limits.{number_of_constants}
use Rattle.buses.specs.Counts.{over_rows}
use Rattle.buses.specs.declared.bus.Bus.TheVariants as bus
use Rattle.air_kit.specs.declared.requests.Perm.{Perm}
use Rattle.air_kit.specs.declared.trace.TableName.TheVariants as table
use Rattle.air_kit.specs.ChipTuples.{chip_given}
use Rattle.air_kit.specs.Places.{Claim}
use Rattle.facts_hasher.specs.PermRows.{rows_of_perms, perms_in}
use Rattle.facts_hasher.specs.HashTables.{HasherIsZero, PermsFit, ArePermRows, ShowsPerms}
use Rattle.facts_hasher.proofs.ZerosAreRows.{whole_fits}
use Rattle.facts_hasher.proofs.RowsAreZero.{rows_of-size, rows_are_zero, perms_again}
use Rattle.facts_hasher.proofs.GivenLemmas.{rows_give}

pub zeros_are_rows : (c : Claim) (rows : List (List ℕ)) → length c.constants ≡ number_of_constants → HasherIsZero c rows → ArePermRows c.constants rows
zeros_are_rows c rows len z =
    let fit = whole_fits c len rows z in
    record {
      fit = record { follows = fit.follows; states = fit.states };
      rows_are = fit.rows_are;
      given = λ u.
          ap (λ xs. over_rows (chip_given bus.Hasher table.Hasher) xs u) fit.rows_are ∙ rows_give c.constants len (perms_in rows) u fit.states;
    }

pub rows_show : (c : Claim) (perms : List Perm) → length c.constants ≡ number_of_constants → PermsFit c.constants perms → ShowsPerms c perms (rows_of_perms c.constants perms)
rows_show c perms len fit = record {
  size = rows_of-size c.constants perms;
  zero = rows_are_zero c len perms fit;
  perms_are = perms_again c.constants len perms fit.states;
  given = λ u. rows_give c.constants len perms u fit.states;
}
