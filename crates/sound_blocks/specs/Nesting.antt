-- What comes behind the END of a child, by the block that it is a child of.
use Rattle.std.specs.Prelude.{◌≡◌, ◌⊎◌, ℕ, suc, ◌≤◌, false, List, length}
use Rattle.vm_ops.specs.declared.op.Op.TheVariants as ops
use Rattle.vm_table.specs.MainColumns.{addr, s}
use Rattle.air_kit.specs.Flags.{is_op}
use Rattle.air_kit.specs.MainTuples.{front, back, called_digest}
use Rattle.air_kit.specs.declared.trace.Public.{Public}
use Rattle.air_kit.specs.declared.trace.Trace.{Trace}
use Rattle.vm_table.specs.Layout.{row_at}
use Rattle.facts_main.specs.MainRows.{op_in}
use Rattle.sound_buses.specs.Blocks.{IsAt, Starts, Closes, own}
use Rattle.sound_buses.specs.BusFacts.{Granted}

-- the child of a block that has one: a split's branch by the condition, what a call calls, or the one of the digest on top of the stack
pub data IsOnlyChild (rows : List (List ℕ)) (j : ℕ) (digest : List ℕ) : Type 0 where
  on_one : op_in rows j ≡ ops.Split → s (row_at rows j) 0 ≡ 1 → digest ≡ front (row_at rows j) → IsOnlyChild rows j digest
  on_zero : op_in rows j ≡ ops.Split → s (row_at rows j) 0 ≡ 0 → digest ≡ back (row_at rows j) → IsOnlyChild rows j digest
  callee : op_in rows j ≡ ops.Call → digest ≡ front (row_at rows j) → IsOnlyChild rows j digest
  kernel : op_in rows j ≡ ops.Syscall → digest ≡ front (row_at rows j) → IsOnlyChild rows j digest
  target : op_in rows j ≡ ops.Dyn → digest ≡ called_digest (row_at rows j) → IsOnlyChild rows j digest

-- a further turn of the loop that starts in row j begins with the REPEAT in row r
pub record TurnsAgain (rows : List (List ℕ)) (j r : ℕ) : Type 0 where
  pub repeats : IsAt rows r ops.Repeat
  pub body : front (row_at rows r) ≡ front (row_at rows j)
  pub starts : Starts rows (suc r)
  pub inside : addr (row_at rows (suc r)) ≡ own rows j

-- a second child starts behind the END of a join's first one
pub record StartsSecond (rows : List (List ℕ)) (j a : ℕ) : Type 0 where
  pub starts : Starts rows (suc a)
  pub digest : front (row_at rows a) ≡ front (row_at rows j)
  pub inside : addr (row_at rows (suc a)) ≡ own rows j

-- the first child of a block that has one starts behind the block's start
pub record StartsInside (rows : List (List ℕ)) (j : ℕ) : Type 0 where
  pub starts : Starts rows (suc j)
  pub inside : addr (row_at rows (suc j)) ≡ own rows j

-- How the rows of a block follow one another: its start, its children one behind the other, its END. Each child is one that the block
-- names.
pub record NestingFacts (rows : List (List ℕ)) (root : List ℕ) : Type 0 where
  pub begins : Starts rows 0
  pub join : (j : ℕ) → IsAt rows j ops.Join → StartsInside rows j
  pub split : (j : ℕ) → IsAt rows j ops.Split → StartsInside rows j
  pub call : (j : ℕ) → IsAt rows j ops.Call → StartsInside rows j
  pub syscall : (j : ℕ) → IsAt rows j ops.Syscall → StartsInside rows j
  pub dyn : (j : ℕ) → IsAt rows j ops.Dyn → StartsInside rows j
  pub loop_enters : (j : ℕ) → IsAt rows j ops.Loop → s (row_at rows j) 0 ≡ 1 → StartsInside rows j
  pub loop_skips : (j : ℕ) → IsAt rows j ops.Loop → s (row_at rows j) 0 ≡ 0 → Closes rows j (suc j)
  pub after_first : (j a : ℕ) → IsAt rows j ops.Join → Closes rows (suc j) a → StartsSecond rows j a
  pub after_second : (j a b : ℕ) → IsAt rows j ops.Join → Closes rows (suc j) a → Closes rows (suc a) b
      → Closes rows j (suc b) × (front (row_at rows b) ≡ back (row_at rows j))
  pub after_only : (j a : ℕ) → is_op (op_in rows j) ops.Join ≡ false → is_op (op_in rows j) ops.Loop ≡ false → Starts rows j
      → Closes rows (suc j) a → Closes rows j (suc a) × IsOnlyChild rows j (front (row_at rows a))
  pub after_turn : (j q b : ℕ) → IsAt rows j ops.Loop → addr (row_at rows q) ≡ own rows j → Closes rows q b
      → (front (row_at rows b) ≡ front (row_at rows j)) × (Closes rows j (suc b) ⊎ TurnsAgain rows j (suc b))
  pub after_root : (e : ℕ) → Closes rows 0 e → (suc (suc e) ≡ length rows) × (front (row_at rows e) ≡ root)

-- The main table has a row.
abbrev pub GrantedNesting : Type 0
GrantedNesting = (p : Public) (t : Trace) → 1 ≤ length t.main → Granted p t → NestingFacts t.main p.statement.digest
