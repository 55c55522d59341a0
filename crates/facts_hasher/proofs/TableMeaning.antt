-- What a table whose entries are 0 gives.
use Rattle.std.proofs.Common.{List, [], ap, arith, false, length, refl, sym, ℕ, ◌*◌, ◌<◌, ◌∙◌, ◌≡◌}
use Rattle.buses.specs.Counts.{over_rows}
use Rattle.buses.specs.declared.bus.Bus.TheVariants as bus
use Rattle.vm_field.specs.Limits.{number_of_constants}
use Rattle.air_kit.specs.declared.requests.Perm.{Perm}
use Rattle.air_kit.specs.declared.trace.TableName.TheVariants as table
use Rattle.air_kit.specs.ChipTuples.{chip_given}
use Rattle.air_kit.specs.Hashes.{computation_at}
use Rattle.air_kit.specs.Places.{Claim}
use Rattle.facts_hasher.specs.PermRows.{rows_of_perms, perms_in}
use Rattle.facts_hasher.specs.HashTables.{HasherIsZero, PermsFit}
use Rattle.facts_hasher.specs.HashMeaning.{TableGives}
use Rattle.facts_hasher.proofs.Given.{IsGivenBy, from_count, given, given-address, given-same, given-once}
use Rattle.facts_hasher.proofs.MeaningLemmas.{gives_on, hash_by, permutes_by}
use Rattle.facts_hasher.proofs.InputLemmas.{given_whole, opened}
use Rattle.facts_hasher.proofs.RowMeaning.{computes_at, found_computes}
use Rattle.facts_hasher.proofs.RowsAreZero.{rows_of-size}
use Rattle.facts_hasher.proofs.TableLaws.{zeros_are_rows}

perms_give : (constants : List ℕ) (perms : List Perm) (rows : List (List ℕ)) (gives : List ℕ → ℕ) → length constants ≡ number_of_constants
    → PermsFit constants perms → rows ≡ rows_of_perms constants perms → ((u : List ℕ) → gives u ≡ given constants 1 perms u)
    → TableGives constants rows gives
perms_give constants perms rows gives len fit rows_are is = record {
  once = λ u. let e = is u in let m = given-once constants 1 perms u in omega (arith, e, m);
  one = λ t r address xs ys g h. given-same refl (one g) (one h);
  place = λ tag address xs g.
      (let a = given-address (one g) in (let l = a.0 in omega (arith, l), let l = a.1 in omega (arith, l, size)));
  permutes = λ address before behind g h. permutes_by (one g) (one h);
  hashes = λ address domain block blocks digest g h.
      (let found = hash_by constants false [] blocks digest fit.states fit.follows (one g)
      (gives_on gives (given constants 1 perms) 0 (λ u low. there u) address blocks digest (omega arith) h) in
      record {
        computation = ap (λ rs. computation_at rs address) rows_are ∙ found_computes constants len fit.states found.0;
        digest_is = found.1;
      });
  inputs = λ address input e.
      given_whole (given constants 1 perms) gives (λ u k. (let e = is u in omega (arith, e, k)))
      (opened constants false [] fit.states fit.follows
      (computes_at constants len perms address input fit.states (ap (λ rs. computation_at rs address) (sym rows_are) ∙ e)));
}
  where
    there : (u : List ℕ) → 0 < gives u → 0 < given constants 1 perms u
    there u g = let e = is u in omega (arith, e, g)

    one : {u : List ℕ} → 0 < gives u → IsGivenBy constants u 1 perms
    one {u} g = from_count constants 1 perms u (there u g)

    size : length rows ≡ 8 * length perms
    size = ap length rows_are ∙ rows_of-size constants perms

pub table_gives : (c : Claim) (rows : List (List ℕ)) → length c.constants ≡ number_of_constants → HasherIsZero c rows
    → TableGives c.constants rows (over_rows (chip_given bus.Hasher table.Hasher) rows)
table_gives c rows len z =
    let are = zeros_are_rows c rows len z in
    perms_give c.constants (perms_in rows) rows (over_rows (chip_given bus.Hasher table.Hasher) rows) len are.fit are.rows_are are.given
