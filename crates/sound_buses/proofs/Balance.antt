-- On each bus of an accepted trace, what the main table's rows and the small tables' ask and give.
use Rattle.sound_buses.proofs.Words.{◌≡◌, ℕ, ◌+◌, ◌≤◌, List, [], ◌∷◌, ◌++◌, arith, counted, once, over_rows, counted-none, chip_given, kernel_given, left_asked}
use Rattle.sound_buses.proofs.Words.{memory_ranges, range_given, bitwise_asked, blocks_asked, blocks_given, children_asked, children_given, groups_asked}
use Rattle.sound_buses.proofs.Words.{groups_given, hasher_asked, kernel_asked, loops_asked, loops_given, memory_asked, overflow_asked, overflow_given}
use Rattle.sound_buses.proofs.Words.{range_asked, claim_of, Public, Trace}
use Rattle.buses.specs.declared.bus.Bus.TheVariants as bus
use Rattle.air_kit.specs.Acceptance.{IsAccepted, asked_on, given_on}
use Rattle.air_kit.specs.DeepCells.{tuples_at_start}
use Rattle.air_kit.specs.declared.trace.TableName.TheVariants as table
use Rattle.sound_buses.proofs.RowSums.{Balanced, in_rows, pairs_none}
use Rattle.sound_buses.proofs.TableSums.{rows_none}

-- each bus; on that of ranges the main table and that of memory ask
pub record Alike (p : Public) (t : Trace) : Type 0 where
  pub blocks : Balanced blocks_asked blocks_given t.main
  pub children : (u : List ℕ) → in_rows children_asked t.main u
      ≡ counted (once (0 ∷ p.statement.digest ++ 0 ∷ []) ∷ []) u + in_rows children_given t.main u
  pub loops : Balanced loops_asked loops_given t.main
  pub groups : Balanced groups_asked groups_given t.main
  pub overflow : (u : List ℕ) → in_rows overflow_asked t.main u + over_rows (left_asked (claim_of p t)) t.left u
      ≡ counted (tuples_at_start (claim_of p t)) u + in_rows overflow_given t.main u
  pub hasher : (u : List ℕ) → in_rows hasher_asked t.main u ≡ over_rows (chip_given bus.Hasher table.Hasher) t.hasher u
  pub range : (u : List ℕ) → in_rows range_asked t.main u ≤ over_rows (λ i x next. range_given x) t.range u
  pub limbs : (u : List ℕ) → over_rows (λ i x next. memory_ranges x) t.memory u ≤ over_rows (λ i x next. range_given x) t.range u
  pub bits : (u : List ℕ) → in_rows bitwise_asked t.main u ≡ over_rows (chip_given bus.Bitwise table.Bitwise) t.bitwise u
  pub memory : (u : List ℕ) → in_rows memory_asked t.main u ≡ over_rows (chip_given bus.Memory table.Memory) t.memory u
  pub kernel : (u : List ℕ) → in_rows kernel_asked t.main u ≡ over_rows (λ i x next. kernel_given x) t.kernel u

pub all_alike : (p : Public) (t : Trace) → IsAccepted p t → Alike p t
unfolding asked_on given_on
all_alike p t a = record {
  blocks = λ u. omega (arith, a.buses bus.Blocks u, rows_none, pairs_none, counted-none);
  children = λ u. omega (arith, a.buses bus.Children u, rows_none, pairs_none, counted-none);
  loops = λ u. omega (arith, a.buses bus.Loops u, rows_none, pairs_none, counted-none);
  groups = λ u. omega (arith, a.buses bus.Groups u, rows_none, pairs_none, counted-none);
  overflow = λ u. omega (arith, a.buses bus.Overflow u, rows_none, pairs_none, counted-none);
  hasher = λ u. omega (arith, a.buses bus.Hasher u, rows_none, pairs_none, counted-none);
  range = λ u. omega (arith, a.buses bus.Range u, rows_none, pairs_none, counted-none);
  limbs = λ u. omega (arith, a.buses bus.Range u, rows_none, pairs_none, counted-none);
  bits = λ u. omega (arith, a.buses bus.Bitwise u, rows_none, pairs_none, counted-none);
  memory = λ u. omega (arith, a.buses bus.Memory u, rows_none, pairs_none, counted-none);
  kernel = λ u. omega (arith, a.buses bus.Kernel u, rows_none, pairs_none, counted-none);
}
