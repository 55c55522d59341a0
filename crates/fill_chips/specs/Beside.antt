-- The small tables beside a main table.
use Rattle.std.specs.Prelude.{◌≡◌, ℕ, ◌*◌, ◌≤◌, List, length}
use Rattle.air_kit.specs.declared.trace.TableName.TheVariants as table
use Rattle.air_kit.specs.Traces.{most_rows}
use Rattle.air_kit.specs.declared.requests.Requests.{Requests}
use Rattle.air_kit.specs.declared.trace.Trace.{Trace}
use Rattle.air_kit.specs.Requests.{Answers}
use Rattle.fill_chips.specs.declared.chips.Chips.{Chips}

-- a trace of this main table and these small ones
abbrev pub beside : List (List ℕ) → Chips → Trace
beside main chips = record {
  main = main;
  range = chips.range;
  hasher = chips.hasher;
  bitwise = chips.bitwise;
  memory = chips.memory;
  kernel = chips.kernel;
  left = chips.left;
}

-- the small tables answer the requests, whatever the main table is
abbrev pub AnswersBeside : List ℕ → List (List ℕ) → Requests → Chips → Type 0
AnswersBeside constants kernel requests chips =
    (main : List (List ℕ)) → 1 ≤ length main → length main ≤ most_rows table.Main → Answers constants kernel requests (beside main chips)

-- eight rows for a permutation and for a bitwise operation, and one for an access
pub record HasSizes (r : Requests) (chips : Chips) : Type 0 where
  pub hasher : length chips.hasher ≡ 8 * length r.perms
  pub bitwise : length chips.bitwise ≡ 8 * length r.bits
  pub memory : length chips.memory ≡ length r.accesses
