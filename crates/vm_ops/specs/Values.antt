-- What each operation computes, and when it traps (docs/MACHINE.md, the table of operations). A word lies on the stack with
-- its last element on top. b is the top cell and a the one below in "b a".
use Rattle.std.specs.Prelude.{ℕ, ◌+◌, ◌-◌, ◌*◌, ◌/◌, ◌%◌, ◌^◌, Bool, true, false, ◌==◌, ◌&&◌, nat_lt, not, if◌then◌else◌, List, [], ◌∷◌, ◌++◌, take, drop, reverse, slice_index, Option, Some, None, bit_and, bit_xor}
use Rattle.vm_field.specs.Field.{prime, felt_add, felt_sub, felt_mul, felt_neg, felt_inv}
use Rattle.vm_field.specs.Permutation.{permuted}
use Rattle.vm_ops.specs.declared.op.Op.{Op}
use Rattle.vm_ops.specs.declared.op.Op.TheVariants as ops
use Rattle.vm_ops.specs.Table.{row_of}
use Rattle.vm_ops.specs.declared.cause.Cause.{Cause}
use Rattle.vm_ops.specs.declared.cause.Cause.TheVariants.{NotBinary, ZeroInverse, AddressRange, NotInSyscall, NotU32, DivideByZero, AssertFailed}

-- what an operation can read
pub record Seen : Type 0 where
  pub constants : List ℕ  -- of the permutation
  pub immediate : ℕ  -- what PUSH pushes
  pub advice : List ℕ  -- the elements that the operation takes from the tape
  pub word : List ℕ  -- this context's word of memory at the address on top
  pub clock : ℕ
  pub fmp : ℕ
  pub in_syscall : Bool
  pub digest : List ℕ  -- of the function that runs
  pub depth : ℕ
  pub cells : List ℕ  -- the top sixteen

abbrev pub cell : Seen → ℕ → ℕ
cell s j = slice_index s.cells j

-- 1 where the test holds, else 0
abbrev pub bit_of : Bool → ℕ
bit_of test = if test then 1 else 0

-- the high word on top of the low one
abbrev pub two_words : ℕ → List ℕ
two_words n = n / 2 ^ 32 ∷ n % 2 ^ 32 ∷ []

-- the borrow on top of the difference a - b modulo 2^32
abbrev pub borrowed : ℕ → ℕ → List ℕ
borrowed a b = bit_of (nat_lt a b) ∷ (a + (2 ^ 32 - b)) % 2 ^ 32 ∷ []

-- The values that an operation leaves on top, from the cells that it takes. A pure move computes none.
unfoldable pub computed : Op → Seen → List ℕ
computed ops.Eqz s = bit_of (cell s 0 == 0) ∷ []
computed ops.Neg s = felt_neg (cell s 0) ∷ []
computed ops.Inv s = felt_inv (cell s 0) ∷ []
computed ops.Incr s = felt_add (cell s 0) 1 ∷ []
computed ops.Not s = felt_sub 1 (cell s 0) ∷ []
computed ops.FmpAdd s = felt_add (cell s 0) s.fmp ∷ []
computed ops.MLoad s = slice_index s.word 0 ∷ []
computed ops.Caller s = reverse s.digest
computed ops.AdvPopW s = reverse s.advice
computed ops.HPerm s = reverse (permuted s.constants (reverse (take 12 s.cells)))
computed ops.U32Add s = two_words (cell s 1 + cell s 0)
computed ops.U32Sub s = borrowed (cell s 1) (cell s 0)
computed ops.U32Mul s = two_words (cell s 1 * cell s 0)
computed ops.U32Div s = cell s 1 % cell s 0 ∷ cell s 1 / cell s 0 ∷ []
computed ops.Eq s = bit_of (cell s 0 == cell s 1) ∷ []
computed ops.Add s = felt_add (cell s 0) (cell s 1) ∷ []
computed ops.Mul s = felt_mul (cell s 0) (cell s 1) ∷ []
computed ops.And s = felt_mul (cell s 0) (cell s 1) ∷ []
computed ops.Or s = felt_sub (felt_add (cell s 0) (cell s 1)) (felt_mul (cell s 0) (cell s 1)) ∷ []
computed ops.U32And s = bit_and (cell s 1) (cell s 0) ∷ []
computed ops.U32Xor s = bit_xor (cell s 1) (cell s 0) ∷ []
computed ops.CSwap s = if cell s 0 == 0 then cell s 1 ∷ cell s 2 ∷ [] else cell s 2 ∷ cell s 1 ∷ []
computed ops.CSwapW s =
    if cell s 0 == 0 then take 8 (drop 1 s.cells) else take 4 (drop 5 s.cells) ++ take 4 (drop 1 s.cells)
computed ops.MLoadW s = reverse s.word
computed ops.U32Add3 s = two_words (cell s 2 + cell s 1 + cell s 0)
computed ops.U32MAdd s = two_words (cell s 1 * cell s 0 + cell s 2)
computed ops.Pad s = 0 ∷ []
computed ops.AdvPop s = s.advice
computed ops.SDepth s = s.depth % prime ∷ []
computed ops.Clk s = s.clock % prime ∷ []
computed ops.U32Split s = two_words (cell s 0)
computed ops.Push s = s.immediate ∷ []
computed op s = []

-- the frame pointer behind the operation
abbrev pub fmp_after : Op → Seen → ℕ
fmp_after ops.FmpUpdate s = felt_add s.fmp (cell s 0)
fmp_after op s = s.fmp

-- the word that the operation writes at the address on top
abbrev pub written : Op → Seen → Option (List ℕ)
written ops.MStore s = Some (cell s 1 ∷ drop 1 s.word)
written ops.MStoreW s = Some (cell s 4 ∷ cell s 3 ∷ cell s 2 ∷ cell s 1 ∷ [])
written op s = None

-- how many elements of the tape the operation takes
abbrev pub advice_of : Op → ℕ
advice_of op = (row_of op).advice

abbrev pub is_bit : ℕ → Bool
is_bit a = nat_lt a 2

abbrev pub is_u32 : ℕ → Bool
is_u32 a = nat_lt a (2 ^ 32)

-- the cause where the test fails
abbrev pub unless : Bool → Cause → Option Cause
unless true cause = None
unless false cause = Some cause

-- the first cause of two
abbrev pub or_else : Option Cause → Option Cause → Option Cause
or_else None later = later
or_else (Some cause) later = Some cause

abbrev pub two_u32 : Seen → Option Cause
two_u32 s = unless (is_u32 (cell s 0) && is_u32 (cell s 1)) NotU32

abbrev pub three_u32 : Seen → Option Cause
three_u32 s = unless (is_u32 (cell s 0) && is_u32 (cell s 1) && is_u32 (cell s 2)) NotU32

abbrev pub address : Seen → Option Cause
address s = unless (is_u32 (cell s 0)) AddressRange

-- The operation's own trap, but for an empty tape: the first of its line's causes that stands.
unfoldable pub trap_of : Op → Seen → Option Cause
trap_of ops.Inv s = unless (not (cell s 0 == 0)) ZeroInverse
trap_of ops.Not s = unless (is_bit (cell s 0)) NotBinary
trap_of ops.MLoad s = address s
trap_of ops.Caller s = unless s.in_syscall NotInSyscall
trap_of ops.U32Add s = two_u32 s
trap_of ops.U32Sub s = two_u32 s
trap_of ops.U32Mul s = two_u32 s
trap_of ops.U32Div s = or_else (two_u32 s) (unless (not (cell s 0 == 0)) DivideByZero)
trap_of ops.U32Assert2 s = two_u32 s
trap_of ops.Assert s = unless (cell s 0 == 1) AssertFailed
trap_of ops.And s = unless (is_bit (cell s 0) && is_bit (cell s 1)) NotBinary
trap_of ops.Or s = unless (is_bit (cell s 0) && is_bit (cell s 1)) NotBinary
trap_of ops.U32And s = two_u32 s
trap_of ops.U32Xor s = two_u32 s
trap_of ops.CSwap s = unless (is_bit (cell s 0)) NotBinary
trap_of ops.CSwapW s = unless (is_bit (cell s 0)) NotBinary
trap_of ops.MLoadW s = address s
trap_of ops.MStore s = address s
trap_of ops.MStoreW s = address s
trap_of ops.U32Add3 s = three_u32 s
trap_of ops.U32MAdd s = three_u32 s
trap_of op s = None
