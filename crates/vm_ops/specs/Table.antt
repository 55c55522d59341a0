-- The table of the operations: a row is what an operation is called and how many cells it moves. What it computes, when it
-- traps and what it writes is in `Values`.
use Rattle.std.specs.Prelude.{ℕ, List, [], ◌∷◌, codes}
use Rattle.vm_ops.specs.declared.op.Op.{Op}
use Rattle.vm_ops.specs.declared.op.Op.TheVariants as ops
use Rattle.vm_ops.specs.declared.kind.Kind.{Kind}
use Rattle.vm_ops.specs.declared.kind.Kind.TheVariants as kinds
use Rattle.vm_ops.specs.declared.table.Row as declared

pub record Row : Type 0 where
  pub code : ℕ
  pub text : List ℕ  -- the name, as it is printed
  pub kind : Kind  -- what its cycles are
  pub takes : ℕ  -- cells taken from the top; END's are its block's: one where a loop ends that was entered, else none
  pub sources : List ℕ  -- the cells left as copies of cells, top first: all of a pure move, none where a value is computed
  pub computes : ℕ  -- values that are computed and left
  pub advice : ℕ  -- elements taken from the tape

-- an ordinary operation
abbrev pub row : ℕ → List ℕ → ℕ → List ℕ → ℕ → ℕ → Row
row code text takes sources computes advice =
    record { code = code; text = text; kind = kinds.Ordinary; takes = takes; sources = sources; computes = computes; advice = advice }

-- one of another kind, which leaves no cell
abbrev pub of_kind : Kind → ℕ → List ℕ → ℕ → Row
of_kind kind code text takes =
    record { code = code; text = text; kind = kind; takes = takes; sources = []; computes = 0; advice = 0 }

abbrev pub row_of : Op → Row
row_of ops.Noop = row 0 (codes "NOOP") 0 [] 0 0
row_of ops.Eqz = row 1 (codes "EQZ") 1 [] 1 0
row_of ops.Neg = row 2 (codes "NEG") 1 [] 1 0
row_of ops.Inv = row 3 (codes "INV") 1 [] 1 0
row_of ops.Incr = row 4 (codes "INCR") 1 [] 1 0
row_of ops.Not = row 5 (codes "NOT") 1 [] 1 0
row_of ops.FmpAdd = row 6 (codes "FMPADD") 1 [] 1 0
row_of ops.MLoad = row 7 (codes "MLOAD") 1 [] 1 0
row_of ops.Swap = row 8 (codes "SWAP") 2 (1 ∷ 0 ∷ []) 0 0
row_of ops.Caller = row 9 (codes "CALLER") 4 [] 4 0
row_of ops.MovUp2 = row 10 (codes "MOVUP2") 3 (2 ∷ 0 ∷ 1 ∷ []) 0 0
row_of ops.MovDn2 = row 11 (codes "MOVDN2") 3 (1 ∷ 2 ∷ 0 ∷ []) 0 0
row_of ops.MovUp3 = row 12 (codes "MOVUP3") 4 (3 ∷ 0 ∷ 1 ∷ 2 ∷ []) 0 0
row_of ops.MovDn3 = row 13 (codes "MOVDN3") 4 (1 ∷ 2 ∷ 3 ∷ 0 ∷ []) 0 0
row_of ops.MovUp4 = row 14 (codes "MOVUP4") 5 (4 ∷ 0 ∷ 1 ∷ 2 ∷ 3 ∷ []) 0 0
row_of ops.MovDn4 = row 15 (codes "MOVDN4") 5 (1 ∷ 2 ∷ 3 ∷ 4 ∷ 0 ∷ []) 0 0
row_of ops.MovUp5 = row 16 (codes "MOVUP5") 6 (5 ∷ 0 ∷ 1 ∷ 2 ∷ 3 ∷ 4 ∷ []) 0 0
row_of ops.MovDn5 = row 17 (codes "MOVDN5") 6 (1 ∷ 2 ∷ 3 ∷ 4 ∷ 5 ∷ 0 ∷ []) 0 0
row_of ops.MovUp6 = row 18 (codes "MOVUP6") 7 (6 ∷ 0 ∷ 1 ∷ 2 ∷ 3 ∷ 4 ∷ 5 ∷ []) 0 0
row_of ops.MovDn6 = row 19 (codes "MOVDN6") 7 (1 ∷ 2 ∷ 3 ∷ 4 ∷ 5 ∷ 6 ∷ 0 ∷ []) 0 0
row_of ops.MovUp7 = row 20 (codes "MOVUP7") 8 (7 ∷ 0 ∷ 1 ∷ 2 ∷ 3 ∷ 4 ∷ 5 ∷ 6 ∷ []) 0 0
row_of ops.MovDn7 = row 21 (codes "MOVDN7") 8 (1 ∷ 2 ∷ 3 ∷ 4 ∷ 5 ∷ 6 ∷ 7 ∷ 0 ∷ []) 0 0
row_of ops.MovUp8 = row 22 (codes "MOVUP8") 9 (8 ∷ 0 ∷ 1 ∷ 2 ∷ 3 ∷ 4 ∷ 5 ∷ 6 ∷ 7 ∷ []) 0 0
row_of ops.MovDn8 = row 23 (codes "MOVDN8") 9 (1 ∷ 2 ∷ 3 ∷ 4 ∷ 5 ∷ 6 ∷ 7 ∷ 8 ∷ 0 ∷ []) 0 0
row_of ops.SwapW = row 24 (codes "SWAPW") 16 (4 ∷ 5 ∷ 6 ∷ 7 ∷ 0 ∷ 1 ∷ 2 ∷ 3 ∷ 8 ∷ 9 ∷ 10 ∷ 11 ∷ 12 ∷ 13 ∷ 14 ∷ 15 ∷ []) 0 0
row_of ops.SwapW2 = row 25 (codes "SWAPW2") 16 (8 ∷ 9 ∷ 10 ∷ 11 ∷ 4 ∷ 5 ∷ 6 ∷ 7 ∷ 0 ∷ 1 ∷ 2 ∷ 3 ∷ 12 ∷ 13 ∷ 14 ∷ 15 ∷ []) 0 0
row_of ops.SwapW3 = row 26 (codes "SWAPW3") 16 (12 ∷ 13 ∷ 14 ∷ 15 ∷ 4 ∷ 5 ∷ 6 ∷ 7 ∷ 8 ∷ 9 ∷ 10 ∷ 11 ∷ 0 ∷ 1 ∷ 2 ∷ 3 ∷ []) 0 0
row_of ops.SwapDW = row 27 (codes "SWAPDW") 16 (8 ∷ 9 ∷ 10 ∷ 11 ∷ 12 ∷ 13 ∷ 14 ∷ 15 ∷ 0 ∷ 1 ∷ 2 ∷ 3 ∷ 4 ∷ 5 ∷ 6 ∷ 7 ∷ []) 0 0
row_of ops.AdvPopW = row 28 (codes "ADVPOPW") 4 [] 4 4
row_of ops.HPerm = row 29 (codes "HPERM") 12 [] 12 0
row_of ops.U32Add = row 30 (codes "U32ADD") 2 [] 2 0
row_of ops.U32Sub = row 31 (codes "U32SUB") 2 [] 2 0
row_of ops.U32Mul = row 32 (codes "U32MUL") 2 [] 2 0
row_of ops.U32Div = row 33 (codes "U32DIV") 2 [] 2 0
row_of ops.U32Assert2 = row 34 (codes "U32ASSERT2") 2 (0 ∷ 1 ∷ []) 0 0
row_of ops.Assert = row 35 (codes "ASSERT") 1 [] 0 0
row_of ops.Eq = row 36 (codes "EQ") 2 [] 1 0
row_of ops.Add = row 37 (codes "ADD") 2 [] 1 0
row_of ops.Mul = row 38 (codes "MUL") 2 [] 1 0
row_of ops.And = row 39 (codes "AND") 2 [] 1 0
row_of ops.Or = row 40 (codes "OR") 2 [] 1 0
row_of ops.U32And = row 41 (codes "U32AND") 2 [] 1 0
row_of ops.U32Xor = row 42 (codes "U32XOR") 2 [] 1 0
row_of ops.Drop = row 43 (codes "DROP") 1 [] 0 0
row_of ops.CSwap = row 44 (codes "CSWAP") 3 [] 2 0
row_of ops.CSwapW = row 45 (codes "CSWAPW") 9 [] 8 0
row_of ops.MLoadW = row 46 (codes "MLOADW") 5 [] 4 0
row_of ops.MStore = row 47 (codes "MSTORE") 1 [] 0 0
row_of ops.MStoreW = row 48 (codes "MSTOREW") 1 [] 0 0
row_of ops.FmpUpdate = row 49 (codes "FMPUPDATE") 1 [] 0 0
row_of ops.U32Add3 = row 50 (codes "U32ADD3") 3 [] 2 0
row_of ops.U32MAdd = row 51 (codes "U32MADD") 3 [] 2 0
row_of ops.Pad = row 52 (codes "PAD") 0 [] 1 0
row_of ops.Dup0 = row 53 (codes "DUP0") 0 (0 ∷ []) 0 0
row_of ops.Dup1 = row 54 (codes "DUP1") 0 (1 ∷ []) 0 0
row_of ops.Dup2 = row 55 (codes "DUP2") 0 (2 ∷ []) 0 0
row_of ops.Dup3 = row 56 (codes "DUP3") 0 (3 ∷ []) 0 0
row_of ops.Dup4 = row 57 (codes "DUP4") 0 (4 ∷ []) 0 0
row_of ops.Dup5 = row 58 (codes "DUP5") 0 (5 ∷ []) 0 0
row_of ops.Dup6 = row 59 (codes "DUP6") 0 (6 ∷ []) 0 0
row_of ops.Dup7 = row 60 (codes "DUP7") 0 (7 ∷ []) 0 0
row_of ops.Dup9 = row 61 (codes "DUP9") 0 (9 ∷ []) 0 0
row_of ops.Dup11 = row 62 (codes "DUP11") 0 (11 ∷ []) 0 0
row_of ops.Dup13 = row 63 (codes "DUP13") 0 (13 ∷ []) 0 0
row_of ops.Dup15 = row 64 (codes "DUP15") 0 (15 ∷ []) 0 0
row_of ops.AdvPop = row 65 (codes "ADVPOP") 0 [] 1 1
row_of ops.SDepth = row 66 (codes "SDEPTH") 0 [] 1 0
row_of ops.Clk = row 67 (codes "CLK") 0 [] 1 0
row_of ops.U32Split = row 68 (codes "U32SPLIT") 1 [] 2 0
row_of ops.Push = row 69 (codes "PUSH") 0 [] 1 0
row_of ops.Join = of_kind kinds.Join 70 (codes "JOIN") 0
row_of ops.Split = of_kind kinds.Split 71 (codes "SPLIT") 1
row_of ops.Loop = of_kind kinds.Loop 72 (codes "LOOP") 1
row_of ops.Span = of_kind kinds.Span 73 (codes "SPAN") 0
row_of ops.Call = of_kind kinds.Call 74 (codes "CALL") 0
row_of ops.Syscall = of_kind kinds.Syscall 75 (codes "SYSCALL") 0
row_of ops.End = of_kind kinds.End 76 (codes "END") 0
row_of ops.Repeat = of_kind kinds.Repeat 77 (codes "REPEAT") 1
row_of ops.Respan = of_kind kinds.Respan 78 (codes "RESPAN") 0
row_of ops.Halt = of_kind kinds.Halt 79 (codes "HALT") 0
row_of ops.Dyn = of_kind kinds.Dyn 80 (codes "DYN") 0

-- a row of the code, as one of this table
abbrev pub row_in : declared.Row → Row
row_in r =
    record {
      code = r.code;
      text = r.text.now;
      kind = r.kind;
      takes = r.takes;
      sources = r.sources.now;
      computes = r.computes;
      advice = r.advice;
    }
