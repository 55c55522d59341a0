-- Which row names the child that ends, and which loop a turn belongs to.
use Rattle.std.specs.Prelude.{◌≡◌, ℕ, suc, Bool, true, false, List}
use Rattle.vm_ops.specs.Codes.{is_start_op}
use Rattle.vm_ops.specs.declared.op.Op.TheVariants as ops
use Rattle.vm_table.specs.MainColumns.{addr, s}
use Rattle.air_kit.specs.MainTuples.{front, back, called_digest}
use Rattle.vm_table.specs.Layout.{row_at}
use Rattle.facts_main.specs.MainRows.{op_in}
use Rattle.sound_buses.specs.Blocks.{IsAt, own}

-- A child of this digest is named for the block of this address, and whether another child of that block starts behind it: by the
-- statement, by the block's start, or by a further turn of a loop.
pub data IsNamed (rows : List (List ℕ)) (root : List ℕ) (parent : ℕ) (digest : List ℕ) : Bool → Type 0 where
  statement : parent ≡ 0 → digest ≡ root → IsNamed rows root parent digest false
  first : (j : ℕ) → IsAt rows j ops.Join → own rows j ≡ parent → digest ≡ front (row_at rows j) → IsNamed rows root parent digest true
  second : (j : ℕ) → IsAt rows j ops.Join → own rows j ≡ parent → digest ≡ back (row_at rows j) → IsNamed rows root parent digest false
  on_one : (j : ℕ) → IsAt rows j ops.Split → s (row_at rows j) 0 ≡ 1 → own rows j ≡ parent → digest ≡ front (row_at rows j)
      → IsNamed rows root parent digest false
  on_zero : (j : ℕ) → IsAt rows j ops.Split → s (row_at rows j) 0 ≡ 0 → own rows j ≡ parent → digest ≡ back (row_at rows j)
      → IsNamed rows root parent digest false
  body : (j : ℕ) → IsAt rows j ops.Loop → s (row_at rows j) 0 ≡ 1 → own rows j ≡ parent → digest ≡ front (row_at rows j)
      → IsNamed rows root parent digest false
  callee : (j : ℕ) → IsAt rows j ops.Call → own rows j ≡ parent → digest ≡ front (row_at rows j) → IsNamed rows root parent digest false
  kernel : (j : ℕ) → IsAt rows j ops.Syscall → own rows j ≡ parent → digest ≡ front (row_at rows j) → IsNamed rows root parent digest false
  target : (j : ℕ) → IsAt rows j ops.Dyn → own rows j ≡ parent → digest ≡ called_digest (row_at rows j)
      → IsNamed rows root parent digest false
  turn : (r : ℕ) → IsAt rows r ops.Repeat → addr (row_at rows r) ≡ parent → digest ≡ front (row_at rows r)
      → IsNamed rows root parent digest false

-- the END of a child of the block of this address, behind which another child starts
pub record EndsFirst (rows : List (List ℕ)) (parent e : ℕ) : Type 0 where
  pub ends : IsAt rows e ops.End
  pub inside : addr (row_at rows (suc e)) ≡ parent
  pub goes_on : is_start_op (op_in rows (suc e)) ≡ true

-- the one first child of the join that starts in row j
pub record FirstChild (rows : List (List ℕ)) (j : ℕ) : Type 0 where
  pub end : ℕ
  pub is_first : EndsFirst rows (own rows j) end
  pub digest : front (row_at rows end) ≡ front (row_at rows j)
  pub only : (e : ℕ) → EndsFirst rows (own rows j) e → e ≡ end

-- the loop that a turn belongs to
pub record IsTurnOf (rows : List (List ℕ)) (r j : ℕ) : Type 0 where
  pub is_loop : IsAt rows j ops.Loop
  pub own_is : own rows j ≡ addr (row_at rows r)
  pub body : front (row_at rows j) ≡ front (row_at rows r)

-- Each child that ends is named, a join has one first child, and each turn has its loop.
pub record ChildFacts (rows : List (List ℕ)) (root : List ℕ) : Type 0 where
  pub child : (e : ℕ) → IsAt rows e ops.End
      → IsNamed rows root (addr (row_at rows (suc e))) (front (row_at rows e)) (is_start_op (op_in rows (suc e)))
  pub join : (j : ℕ) → IsAt rows j ops.Join → FirstChild rows j
  pub turn : (r : ℕ) → IsAt rows r ops.Repeat → (j : ℕ) × IsTurnOf rows r j
