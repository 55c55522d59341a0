-- What each instruction does to a state, apart from the operations that it stands for (docs/ASSEMBLY.md, the tables of the
-- instructions). b is the top cell and a the one below in "b a".
use Rattle.std.specs.Prelude.{ℕ, zero, suc, ◌+◌, ◌-◌, ◌*◌, ◌/◌, ◌%◌, ◌^◌, Bool, true, false, ◌==◌, ◌&&◌, ◌||◌, not, max, min, nat_lt, nat_le, if◌then◌else◌, List, [], ◌∷◌, ◌++◌, length, reverse, slice_index, Option, Some, None, bit_and, bit_or, bit_xor}
use Rattle.vm_field.specs.Field.{prime, felt_add, felt_sub, felt_mul, felt_neg, felt_inv, felt_pow}
use Rattle.vm_field.specs.Machine.{State, word_at}
use Rattle.vm_field.specs.Permutation.{permuted}
use Rattle.vm_field.specs.Sponge.{hashed}
use Rattle.vm_ops.specs.Values.{bit_of, is_bit, is_u32}
use Rattle.masm_instr.specs.declared.name.Name.{Name}
use Rattle.masm_instr.specs.declared.name.Name.TheVariants as names
use Rattle.masm_instr.specs.Instructions.{first, first_or}

-- Where it doesn't trap, it takes cells from the top and leaves others in their place, writes a word of this context's
-- memory or none, and takes elements of the tape. No instruction changes the frame pointer.
pub record Effect : Type 0 where
  pub traps : Bool
  pub takes : ℕ
  pub leaves : List ℕ  -- top first
  pub address : ℕ  -- of the word that is written
  pub word : Option (List ℕ)
  pub advice : ℕ

-- n elements of a list from the k-th on; 0 stands past its end
abbrev pub listed : ℕ → ℕ → List ℕ → List ℕ
listed zero k xs = []
listed (suc n) k xs = slice_index xs k ∷ listed n (suc k) xs

-- cell k of the stack
abbrev pub top : State → ℕ → ℕ
top s k = slice_index s.core.stack k

-- n cells of the stack from the k-th on
abbrev pub cells : State → ℕ → ℕ → List ℕ
cells s n k = listed n k s.core.stack

-- an effect on the stack alone
abbrev pub leaving : Bool → ℕ → List ℕ → Effect
leaving traps takes leaves = record { traps = traps; takes = takes; leaves = leaves; address = 0; word = None; advice = 0 }

-- from one operand, a
abbrev pub of_one : (ℕ → Bool) → (ℕ → List ℕ) → State → Effect
of_one traps leaves s = leaving (traps (top s 0)) 1 (leaves (top s 0))

-- from two operands, b and a, of which b is the number where one is given
abbrev pub of_two : (ℕ → ℕ → Bool) → (ℕ → ℕ → List ℕ) → List ℕ → State → Effect
of_two traps leaves numbers s =
    leaving (traps (slice_index (numbers ++ s.core.stack) 0) (slice_index (numbers ++ s.core.stack) 1))
    (2 - length numbers)
    (leaves (slice_index (numbers ++ s.core.stack) 0) (slice_index (numbers ++ s.core.stack) 1))

-- from three operands, c, b and a in their order from the top
abbrev pub of_three : (ℕ → ℕ → ℕ → Bool) → (ℕ → ℕ → ℕ → List ℕ) → State → Effect
of_three traps leaves s = leaving (traps (top s 0) (top s 1) (top s 2)) 3 (leaves (top s 0) (top s 1) (top s 2))

abbrev pub never : ℕ → ℕ → Bool
never b a = false

abbrev pub are_bits : ℕ → ℕ → Bool
are_bits b a = is_bit b && is_bit a

abbrev pub are_u32 : ℕ → ℕ → Bool
are_u32 b a = is_u32 b && is_u32 a

abbrev pub are_three_u32 : ℕ → ℕ → ℕ → Bool
are_three_u32 c b a = is_u32 c && is_u32 b && is_u32 a

abbrev pub not_bits : ℕ → ℕ → Bool
not_bits b a = not (are_bits b a)

abbrev pub not_u32 : ℕ → ℕ → Bool
not_u32 b a = not (are_u32 b a)

abbrev pub not_three_u32 : ℕ → ℕ → ℕ → Bool
not_three_u32 c b a = not (are_three_u32 c b a)

-- the quotient and the remainder by 2^32, the quotient on top
abbrev pub high_low : ℕ → List ℕ
high_low n = n / 2 ^ 32 ∷ n % 2 ^ 32 ∷ []

abbrev pub low : ℕ → ℕ
low n = n % 2 ^ 32

-- a - b modulo 2^32
abbrev pub difference : ℕ → ℕ → ℕ
difference a b = (a + (2 ^ 32 - b)) % 2 ^ 32

-- no u32, or b is no amount of bits
abbrev pub no_shift : ℕ → ℕ → Bool
no_shift b a = not (nat_lt b 32 && is_u32 a)

-- the 32 bits of a turned left by b: its upper b bits come to the lower end
abbrev pub turned_left : ℕ → ℕ → ℕ
turned_left a b = (a * 2 ^ b) % 2 ^ 32 + a / 2 ^ (32 - b)

-- turned right by b: its lower b bits come to the upper end
abbrev pub turned_right : ℕ → ℕ → ℕ
turned_right a b = a / 2 ^ b + a % 2 ^ b * 2 ^ (32 - b)

-- whether n cells from the i-th on are those from the j-th on
abbrev pub same_cells : State → ℕ → ℕ → ℕ → Bool
same_cells s zero i j = true
same_cells s (suc n) i j = (top s i == top s j) && same_cells s n (suc i) (suc j)

-- a word as it lies on the stack: its last element on top
abbrev pub laid : List ℕ → List ℕ
laid word = reverse (listed 4 0 word)

-- the word at an address of this context
abbrev pub word_of : State → ℕ → List ℕ
word_of s i = word_at s.core.memory s.core.context i

-- loads from address i, where the instruction takes so many cells
abbrev pub loading : ℕ → ℕ → State → Effect
loading takes i s = leaving (not (is_u32 i)) takes (slice_index (word_of s i) 0 ∷ [])

abbrev pub loading_word : ℕ → ℕ → State → Effect
loading_word takes i s = leaving (not (is_u32 i)) takes (laid (word_of s i))

-- v becomes element 0 of the word at address i
abbrev pub storing : ℕ → ℕ → ℕ → State → Effect
storing takes i v s =
    record (leaving (not (is_u32 i)) takes []) { address = i; word = Some (v ∷ listed 3 1 (word_of s i)) }

-- the word of the cells from the k-th on comes to address i
abbrev pub storing_word : ℕ → ℕ → ℕ → State → Effect
storing_word takes i k s = record (leaving (not (is_u32 i)) takes []) { address = i; word = Some (reverse (cells s 4 k)) }

-- the address in front of the stack: the number where one is given, else the top
abbrev pub address_in : List ℕ → State → ℕ
address_in numbers s = slice_index (numbers ++ s.core.stack) 0

-- the address of local i of so many: so much below the frame pointer
abbrev pub local_address : ℕ → List ℕ → State → ℕ
local_address locals numbers s = felt_sub s.core.fmp (locals - first numbers)

-- so many elements of the tape replace so many cells, the last on top
abbrev pub taking_advice : ℕ → ℕ → State → Effect
taking_advice n takes s =
    record (leaving (nat_lt (length s.tape) n) takes (reverse (listed n 0 s.tape))) { advice = n }

-- The effect of an instruction with its numbers, in a procedure of so many locals, on a state.
unfoldable pub instr_effect : List ℕ → Name → List ℕ → ℕ → State → Effect
instr_effect constants names.Add ns locals s = of_two never (λ b a. felt_add b a ∷ []) ns s
instr_effect constants names.Sub ns locals s = of_two never (λ b a. felt_sub a b ∷ []) ns s
instr_effect constants names.Mul ns locals s = of_two never (λ b a. felt_mul b a ∷ []) ns s
instr_effect constants names.Div ns locals s = of_two (λ b a. b == 0) (λ b a. felt_mul (felt_inv b) a ∷ []) ns s
instr_effect constants names.Neg ns locals s = of_one (λ a. false) (λ a. felt_neg a ∷ []) s
instr_effect constants names.Inv ns locals s = of_one (λ a. a == 0) (λ a. felt_inv a ∷ []) s
instr_effect constants names.Exp ns locals s = of_one (λ a. false) (λ a. felt_pow a (first ns) ∷ []) s
instr_effect constants names.Pow2 ns locals s = of_one (λ a. not (nat_lt a 64)) (λ a. 2 ^ a ∷ []) s
instr_effect constants names.Not ns locals s = of_one (λ a. not (is_bit a)) (λ a. felt_sub 1 a ∷ []) s
instr_effect constants names.And ns locals s = of_two not_bits (λ b a. felt_mul b a ∷ []) [] s
instr_effect constants names.Or ns locals s = of_two not_bits (λ b a. felt_sub (felt_add b a) (felt_mul b a) ∷ []) [] s
instr_effect constants names.Xor ns locals s = of_two not_bits (λ b a. bit_of (not (b == a)) ∷ []) [] s
instr_effect constants names.Eq ns locals s = of_two never (λ b a. bit_of (b == a) ∷ []) ns s
instr_effect constants names.Neq ns locals s = of_two never (λ b a. bit_of (not (b == a)) ∷ []) ns s
instr_effect constants names.Lt ns locals s = of_two never (λ b a. bit_of (nat_lt a b) ∷ []) [] s
instr_effect constants names.Gt ns locals s = of_two never (λ b a. bit_of (nat_lt b a) ∷ []) [] s
instr_effect constants names.Lte ns locals s = of_two never (λ b a. bit_of (nat_le a b) ∷ []) [] s
instr_effect constants names.Gte ns locals s = of_two never (λ b a. bit_of (nat_le b a) ∷ []) [] s
instr_effect constants names.IsOdd ns locals s = of_one (λ a. false) (λ a. a % 2 ∷ []) s
instr_effect constants names.Eqw ns locals s = leaving false 0 (bit_of (same_cells s 4 0 4) ∷ [])
instr_effect constants names.Assert ns locals s = of_one (λ a. not (a == 1)) (λ a. []) s
instr_effect constants names.Assertz ns locals s = of_one (λ a. not (a == 0)) (λ a. []) s
instr_effect constants names.AssertEq ns locals s = of_two (λ b a. not (b == a)) (λ b a. []) [] s
instr_effect constants names.AssertEqw ns locals s = leaving (not (same_cells s 4 0 4)) 8 []
instr_effect constants names.U32Test ns locals s = leaving false 0 (bit_of (is_u32 (top s 0)) ∷ [])
instr_effect constants names.U32Assert [] locals s = leaving (not (is_u32 (top s 0))) 0 []
instr_effect constants names.U32Assert (two ∷ ns) locals s = leaving (not_u32 (top s 0) (top s 1)) 0 []
instr_effect constants names.U32Assertw ns locals s =
    leaving (not_u32 (top s 0) (top s 1) || not_u32 (top s 2) (top s 3)) 0 []
instr_effect constants names.U32Cast ns locals s = of_one (λ a. false) (λ a. low a ∷ []) s
instr_effect constants names.U32Split ns locals s = of_one (λ a. false) high_low s
instr_effect constants names.U32CheckedAdd ns locals s =
    of_two (λ b a. not_u32 b a || not (is_u32 (a + b))) (λ b a. (a + b) ∷ []) ns s
instr_effect constants names.U32CheckedSub ns locals s =
    of_two (λ b a. not_u32 b a || nat_lt a b) (λ b a. (a - b) ∷ []) ns s
instr_effect constants names.U32CheckedMul ns locals s =
    of_two (λ b a. not_u32 b a || not (is_u32 (a * b))) (λ b a. (a * b) ∷ []) ns s
instr_effect constants names.U32WrappingAdd ns locals s = of_two not_u32 (λ b a. low (a + b) ∷ []) ns s
instr_effect constants names.U32WrappingSub ns locals s = of_two not_u32 (λ b a. difference a b ∷ []) ns s
instr_effect constants names.U32WrappingMul ns locals s = of_two not_u32 (λ b a. low (a * b) ∷ []) ns s
instr_effect constants names.U32OverflowingAdd ns locals s = of_two not_u32 (λ b a. high_low (a + b)) ns s
instr_effect constants names.U32OverflowingSub ns locals s =
    of_two not_u32 (λ b a. bit_of (nat_lt a b) ∷ difference a b ∷ []) ns s
instr_effect constants names.U32OverflowingMul ns locals s = of_two not_u32 (λ b a. high_low (a * b)) ns s
instr_effect constants names.U32OverflowingAdd3 ns locals s = of_three not_three_u32 (λ c b a. high_low (a + b + c)) s
instr_effect constants names.U32WrappingAdd3 ns locals s = of_three not_three_u32 (λ c b a. low (a + b + c) ∷ []) s
instr_effect constants names.U32OverflowingMadd ns locals s = of_three not_three_u32 (λ b a c. high_low (a * b + c)) s
instr_effect constants names.U32WrappingMadd ns locals s = of_three not_three_u32 (λ b a c. low (a * b + c) ∷ []) s
instr_effect constants names.U32CheckedDiv ns locals s = of_two (λ b a. not_u32 b a || b == 0) (λ b a. a / b ∷ []) ns s
instr_effect constants names.U32CheckedMod ns locals s = of_two (λ b a. not_u32 b a || b == 0) (λ b a. a % b ∷ []) ns s
instr_effect constants names.U32CheckedDivmod ns locals s =
    of_two (λ b a. not_u32 b a || b == 0) (λ b a. a % b ∷ a / b ∷ []) ns s
instr_effect constants names.U32CheckedAnd ns locals s = of_two not_u32 (λ b a. bit_and a b ∷ []) [] s
instr_effect constants names.U32CheckedXor ns locals s = of_two not_u32 (λ b a. bit_xor a b ∷ []) [] s
instr_effect constants names.U32CheckedOr ns locals s = of_two not_u32 (λ b a. bit_or a b ∷ []) [] s
instr_effect constants names.U32CheckedNot ns locals s =
    of_one (λ a. not (is_u32 a)) (λ a. (2 ^ 32 - 1 - a) ∷ []) s
instr_effect constants names.U32CheckedShl ns locals s = of_two no_shift (λ b a. low (a * 2 ^ b) ∷ []) ns s
instr_effect constants names.U32CheckedShr ns locals s = of_two no_shift (λ b a. a / 2 ^ b ∷ []) ns s
instr_effect constants names.U32CheckedRotl ns locals s = of_two no_shift (λ b a. turned_left a b ∷ []) ns s
instr_effect constants names.U32CheckedRotr ns locals s = of_two no_shift (λ b a. turned_right a b ∷ []) ns s
instr_effect constants names.U32CheckedLt ns locals s = of_two not_u32 (λ b a. bit_of (nat_lt a b) ∷ []) [] s
instr_effect constants names.U32CheckedGte ns locals s = of_two not_u32 (λ b a. bit_of (nat_le b a) ∷ []) [] s
instr_effect constants names.U32CheckedGt ns locals s = of_two not_u32 (λ b a. bit_of (nat_lt b a) ∷ []) [] s
instr_effect constants names.U32CheckedLte ns locals s = of_two not_u32 (λ b a. bit_of (nat_le a b) ∷ []) [] s
instr_effect constants names.U32CheckedMax ns locals s = of_two not_u32 (λ b a. max a b ∷ []) [] s
instr_effect constants names.U32CheckedMin ns locals s = of_two not_u32 (λ b a. min a b ∷ []) [] s
instr_effect constants names.Drop ns locals s = leaving false 1 []
instr_effect constants names.Dropw ns locals s = leaving false 4 []
instr_effect constants names.Padw ns locals s = leaving false 0 (0 ∷ 0 ∷ 0 ∷ 0 ∷ [])
instr_effect constants names.Dup ns locals s = leaving false 0 (top s (first_or 0 ns) ∷ [])
instr_effect constants names.Dupw ns locals s = leaving false 0 (cells s 4 (4 * first_or 0 ns))
instr_effect constants names.Movup ns locals s =
    leaving false (first ns + 1) (top s (first ns) ∷ cells s (first ns) 0)
instr_effect constants names.Movdn ns locals s =
    leaving false (first ns + 1) (cells s (first ns) 1 ++ top s 0 ∷ [])
instr_effect constants names.Swap ns locals s =
    leaving false (first_or 1 ns + 1) (top s (first_or 1 ns) ∷ (cells s (first_or 1 ns - 1) 1 ++ top s 0 ∷ []))
instr_effect constants names.Swapw ns locals s =
    leaving false (4 * first_or 1 ns + 4)
    (cells s 4 (4 * first_or 1 ns) ++ cells s (4 * first_or 1 ns - 4) 4 ++ cells s 4 0)
instr_effect constants names.Swapdw ns locals s = leaving false 16 (cells s 8 8 ++ cells s 8 0)
instr_effect constants names.Movupw ns locals s =
    leaving false (4 * first ns + 4) (cells s 4 (4 * first ns) ++ cells s (4 * first ns) 0)
instr_effect constants names.Movdnw ns locals s =
    leaving false (4 * first ns + 4) (cells s (4 * first ns) 4 ++ cells s 4 0)
instr_effect constants names.Cswap ns locals s =
    of_three (λ c b a. not (is_bit c)) (λ c b a. if c == 0 then b ∷ a ∷ [] else a ∷ b ∷ []) s
instr_effect constants names.Cswapw ns locals s =
    leaving (not (is_bit (top s 0))) 9 (if top s 0 == 0 then cells s 8 1 else cells s 4 5 ++ cells s 4 1)
instr_effect constants names.Cdrop ns locals s =
    of_three (λ c b a. not (is_bit c)) (λ c b a. (if c == 0 then a else b) ∷ []) s
instr_effect constants names.Cdropw ns locals s =
    leaving (not (is_bit (top s 0))) 9 (if top s 0 == 0 then cells s 4 5 else cells s 4 1)
instr_effect constants names.Push ns locals s = leaving false 0 (reverse ns)
instr_effect constants names.Sdepth ns locals s = leaving false 0 (length s.core.stack % prime ∷ [])
instr_effect constants names.Caller ns locals s = leaving (not s.core.in_syscall) 4 (laid s.core.digest)
instr_effect constants names.Clk ns locals s = leaving false 0 (s.core.clock % prime ∷ [])
instr_effect constants names.AdvPush ns locals s = taking_advice (first ns) 0 s
instr_effect constants names.AdvLoadw ns locals s = taking_advice 4 4 s
instr_effect constants names.MemLoad ns locals s = loading (1 - length ns) (address_in ns s) s
instr_effect constants names.MemLoadw ns locals s = loading_word (5 - length ns) (address_in ns s) s
instr_effect constants names.MemStore ns locals s =
    storing (2 - length ns) (address_in ns s) (slice_index (ns ++ s.core.stack) 1) s
instr_effect constants names.MemStorew ns locals s = storing_word (1 - length ns) (address_in ns s) (1 - length ns) s
instr_effect constants names.Locaddr ns locals s = leaving false 0 (local_address locals ns s ∷ [])
instr_effect constants names.LocLoad ns locals s = loading 0 (local_address locals ns s) s
instr_effect constants names.LocLoadw ns locals s = loading_word 4 (local_address locals ns s) s
instr_effect constants names.LocStore ns locals s = storing 1 (local_address locals ns s) (top s 0) s
instr_effect constants names.LocStorew ns locals s = storing_word 0 (local_address locals ns s) 0 s
instr_effect constants names.Hperm ns locals s = leaving false 12 (reverse (permuted constants (reverse (cells s 12 0))))
instr_effect constants names.Hmerge ns locals s =
    leaving false 8 (laid (hashed constants 0 (reverse (cells s 8 0) ∷ [])))
