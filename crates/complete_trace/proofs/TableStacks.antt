-- The rows of a run show all facts, and their entries are 0.
use Rattle.complete_rows.proofs.Words
use Words.{◌≡◌, ◌⊎◌, inl, inr, ℕ, suc, ◌<◌, ◌≤◌, List, length, arith, cases_eq, State, Tree, Op, lv, IsDynRow, IsLimbRow, row_at, op_in, IsStackRow, IsWholeRun}
use Words.{decoder_behind, filled, AreMoments}
use Words.run
use Rattle.facts_main.proofs.TableFacts.{rows_zero}
use Rattle.complete_rows.proofs.MomentLemmas.{end_at, moment_at, unlinked}
use Rattle.complete_rows.proofs.TableLemmas.{linked, shows_blocks}
use Rattle.complete_trace.specs.StackRows.{RowsLookUp, RunHasZeros, RunShowsRows}
use Rattle.complete_trace.proofs.BlockStacks.{StackFacts}
use Rattle.complete_trace.proofs.DynRows.{end_dyn, moment_dyn}
use Rattle.complete_trace.proofs.MomentStacks.{end_facts, end_level, moment_facts, moment_level}

-- a row by itself, beside its block
record RowFacts (op : Op) (x : List ℕ) : Type 0 where
  stack : IsStackRow op x
  limbs : IsLimbRow op x
  dyn : IsDynRow op x
  level : lv x ≤ 1024

module _ {constants : List ℕ} {kernel : List (List ℕ)} {limit : ℕ} {tree : Tree} {inputs tape : List ℕ} {u : State} {log : List run.Event}
    (r : IsWholeRun constants kernel limit tree inputs tape u log) where
  abbrev rows : List (List ℕ)
  rows = filled constants kernel u log

  moments : AreMoments constants kernel limit (decoder_behind constants kernel inputs log) u rows
  moments = unlinked (linked r)

  -- of a row that is not the last one
  pair_facts : (i : ℕ) → suc i < length rows → StackFacts (op_in rows i) (row_at rows i) (row_at rows (suc i))
  pair_facts i low = moment_facts r.constants_are r.within (moment_at rows moments i low)

  -- of a row, the last one or not
  row_facts : (i : ℕ) → i < length rows → RowFacts (op_in rows i) (row_at rows i)
  row_facts i low = go (cases_eq (suc i) (length rows))
    where
      go : (suc i ≡ length rows) ⊎ (suc i ≡ length rows → ⊥) → RowFacts (op_in rows i) (row_at rows i)
      go (inl e) =
          let last = end_at rows moments i e in
          let f = end_facts last in
          record { stack = f.0; limbs = f.1; dyn = end_dyn last; level = end_level last }
      go (inr apart) =
          let m = moment_at rows moments i (omega (arith, low, apart)) in
          let f = moment_facts r.constants_are r.within m in
          record { stack = f.stack_row; limbs = f.limb_row; dyn = moment_dyn m; level = moment_level m }

pub shows_rows : RunShowsRows
shows_rows constants kernel limit tree inputs tape u log r k claims =
    let b = shows_blocks constants kernel limit tree inputs tape u log r k claims in
    record {
      row_is = λ i low. (
          let f = row_facts r i low in
          record { reads = b.reads i low; row = b.row_is i low; stack = f.stack; limbs = f.limbs; dyn = f.dyn }
          );
      pair_is = λ i low. (
          let f = pair_facts r i low in record { pair = b.pair_is i low; stack = f.stack_pair; limbs = f.limb_pair }
          );
      first = b.first;
      last = b.last;
    }

pub has_zeros : RunHasZeros
has_zeros constants kernel limit tree inputs tape u log r k claims low =
    rows_zero k (filled constants kernel u log) low (shows_blocks constants kernel limit tree inputs tape u log r k claims).table
    (shows_rows constants kernel limit tree inputs tape u log r k claims)

pub look_up : RowsLookUp
look_up constants kernel limit tree inputs tape u log r i low =
    let f = pair_facts r i low in record { ranges = f.ranges; bits = f.bits; level = (row_facts r (suc i) low).level }
