-- What is tested of a row inside a span, at the start of a batch, or outside spans. Its other entries are 0 because of its operation.
use Rattle.std.specs.Prelude.{◌≡◌, ◌≢◌, ℕ, ◌<◌, List, Option, Some, None}
use Rattle.vm_field.specs.Signs.{◌⊞◌, ◌⊟◌, ◌⊠◌}
use Rattle.vm_ops.specs.Codes.{code_of}
use Rattle.vm_ops.specs.declared.op.Op.{Op}
use Rattle.vm_ops.specs.declared.op.Op.TheVariants as ops
use Rattle.vm_table.specs.MainColumns.{clk, fmp, ctx, sys, f, addr, h, sp, gc, ox, s, ha, lv}
use Rattle.air_kit.specs.Flags.{flag}
use Rattle.air_kit.specs.Places.{first_fault_of}
use Rattle.air_kit.specs.OpcodeValues.{opcode_values}
use Rattle.air_kit.specs.BlockValues.{block_values, starts}
use Rattle.air_kit.specs.SpanValues.{span_values}
use Rattle.air_blocks.specs.Entries.{spot_with}

-- an ordinary operation but CALLER and FMPUPDATE, which have entries of their own
pub record IsPlain (op : Op) : Type 0 where
  pub ordinary : code_of op < 70
  pub not_caller : code_of op ≢ 9
  pub not_update : code_of op ≢ 49

-- an operation that starts no batch
pub record HasNoBatch (op : Op) : Type 0 where
  pub not_span : code_of op ≢ 73
  pub not_respan : code_of op ≢ 78

-- the function that runs stays the same, with its context and its locals
pub record IsFrame (x y : List ℕ) : Type 0 where
  pub context : ctx y ⊟ ctx x ≡ 0
  pub locals : fmp y ⊟ fmp x ≡ 0
  pub mode : sys y ⊟ sys x ≡ 0
  pub digest_0 : f y 0 ⊟ f x 0 ≡ 0
  pub digest_1 : f y 1 ⊟ f x 1 ≡ 0
  pub digest_2 : f y 2 ⊟ f x 2 ≡ 0
  pub digest_3 : f y 3 ⊟ f x 3 ≡ 0

-- what a span keeps from row to row
pub record IsKept (x y : List ℕ) : Type 0 where
  pub frame : IsFrame x y
  pub block : addr y ⊟ addr x ≡ 0
  pub level : lv y ⊟ lv x ≡ 0
  pub batch : ha y ⊟ ha x ≡ 0

-- a group of which that much is left goes on in the next row
pub record IsGoingOn (x y : List ℕ) (left push : ℕ) : Type 0 where
  pub inside : sp y ≡ 1
  pub digits : 128 ⊠ h y 0 ⊟ left ≡ 0
  pub place : ox y ⊟ ox x ⊟ 1 ≡ 0
  pub count : gc y ⊟ gc x ⊞ push ⊞ 1 ⊟ 1 ≡ 0

-- behind a group's last row another group begins, or the batch ends
pub data IsOver (x y : List ℕ) (push : ℕ) : Type 0 where
  opens : sp y ≡ 1 → ox y ≡ 0 → gc y ⊟ gc x ⊞ push ⊞ 1 ⊟ 0 ≡ 0 → IsOver x y push
  ends : sp y ≡ 0 → gc x ≡ 0 → IsOver x y push

-- what the tests of a row and the one after it find, beside the group
pub record IsStep (x y : List ℕ) : Type 0 where
  pub clock : clk y ⊟ clk x ⊟ 1 ≡ 0
  pub inside : sp x ≡ 1
  pub follows : 1 ⊟ sp y ⊟ flag y ops.End ⊟ flag y ops.Respan ≡ 0
  pub kept : IsKept x y

-- a row outside spans and the one after it
pub record IsOutside (x y : List ℕ) : Type 0 where
  pub clock : clk y ⊟ clk x ⊟ 1 ≡ 0
  pub outside : sp x ≡ 0

-- a row of SPAN and the one after it
pub record IsFirstBatch (x y : List ℕ) : Type 0 where
  pub clock : clk y ⊟ clk x ⊟ 1 ≡ 0
  pub outside : sp x ≡ 0
  pub inside : sp y ≡ 1
  pub frame : IsFrame x y
  pub level : lv y ⊟ lv x ⊟ 1 ≡ 0
  pub batch : ha y ⊟ addr y ≡ 0

-- a row of RESPAN and the one after it
pub record IsNextBatch (x y : List ℕ) : Type 0 where
  pub clock : clk y ⊟ clk x ⊟ 1 ≡ 0
  pub outside : sp x ≡ 0
  pub inside : sp y ≡ 1
  pub frame : IsFrame x y
  pub block : addr y ⊟ addr x ≡ 0
  pub level : lv y ⊟ lv x ≡ 0
  pub batch : ha y ⊟ ha x ⊟ 8 ≡ 0

-- a row of JOIN or SPLIT and the one after it
pub record IsOpening (x y : List ℕ) : Type 0 where
  pub child : 1 ⊟ starts (flag y) ≡ 0
  pub frame : IsFrame x y
  pub level : lv y ⊟ lv x ⊟ 1 ≡ 0

-- a row of REPEAT and the one after it
pub record IsRepeat (x y : List ℕ) : Type 0 where
  pub holds : s x 0 ⊟ 1 ≡ 0
  pub child : 1 ⊟ starts (flag y) ≡ 0
  pub frame : IsFrame x y
  pub block : addr y ⊟ addr x ≡ 0
  pub level : lv y ⊟ lv x ≡ 0

-- behind the END of a call the bus of blocks brings the frame back, and another END keeps it
pub data IsBehindEnd (x y : List ℕ) : Type 0 where
  returned : h x 6 ⊞ h x 7 ≡ 1 → IsBehindEnd x y
  kept : h x 6 ⊞ h x 7 ≡ 0 → IsFrame x y → IsBehindEnd x y

-- the flags of an END, of which at most one is 1
pub record HasKind (x : List ℕ) : Type 0 where
  pub bit_4 : h x 4 < 2
  pub bit_5 : h x 5 < 2
  pub bit_6 : h x 6 < 2
  pub bit_7 : h x 7 < 2
  pub one : h x 4 ⊞ h x 5 ⊞ h x 6 ⊞ h x 7 < 2

-- a row of END and the one after it
pub record IsEnd (x y : List ℕ) : Type 0 where
  pub follows : 1 ⊟ starts (flag y) ⊟ flag y ops.End ⊟ flag y ops.Repeat ⊟ flag y ops.Halt ≡ 0
  pub kind : HasKind x
  pub condition : h x 4 ⊠ s x 0 ≡ 0
  pub level : lv y ⊟ lv x ⊟ 0 ⊞ 1 ≡ 0
  pub behind : IsBehindEnd x y

-- all entries of a row behind the first one are 0
pub record IsClean (x y : List ℕ) : Type 0 where
  pub opcode : (n : ℕ) → n ≢ 0 → first_fault_of 1 (opcode_values (spot_with n x (Some y))) ≡ None
  pub block : first_fault_of 60 (block_values (spot_with 0 x (Some y))) ≡ None
  pub span : first_fault_of 92 (span_values (spot_with 0 x (Some y))) ≡ None

-- the same of a row that has one behind it
abbrev pub IsInner : ℕ → List ℕ → Option (List ℕ) → Type 0
IsInner row x None = ⊥
IsInner row x (Some y) = (row ≢ 0) × IsClean x y
