-- A step of the machine fills a row of an ordinary operation and the row behind it.
use Rattle.std.specs.Prelude.{◌≡◌, ℕ, ◌-◌, ◌/◌, ◌%◌, ◌^◌, ◌<◌, true, false, ◌||◌, List, [], ◌∷◌, take, drop, length, slice_index}
use Rattle.vm_field.specs.Field.{felt_inv}
use Rattle.vm_field.specs.Machine.{State}
use Rattle.vm_field.specs.Signs.{◌⊞◌, ◌⊟◌}
use Rattle.vm_ops.specs.Values.{bit_of}
use Rattle.vm_ops.specs.declared.item.Item.{Item}
use Rattle.vm_ops.specs.declared.op.Op.{Op}
use Rattle.vm_ops.specs.declared.op.Op.TheVariants as ops
use Rattle.vm_table.specs.MainColumns.{clk, fmp, ctx, sys, addr, s, depth, key, inv, lv, w, t}
use Rattle.air_kit.specs.Flags.{is_op, is_left, is_right}
use Rattle.air_kit.specs.MainTuples.{count_of_limbs}
use Rattle.air_kit.specs.RowStates.{Elsewhere}
use Rattle.air_kit.specs.StackValues.{cells, function_digest}
use Rattle.facts_main.specs.Blocks.{IsBlockRow, KeepsBlock}
use Rattle.facts_main.specs.Limbs.{IsLimbRow, MovesLimbs, has_high_word}
use Rattle.facts_main.specs.Stack.{IsStackRow, MovesStack}
use Rattle.facts_steps.specs.Joined.{GoesOnBy, item_of}
use Rattle.facts_steps.specs.Lookups.{Lookups, word_before}

-- what no row shows of a state
abbrev pub elsewhere_of : State → Elsewhere
elsewhere_of s = record { below = drop 16 s.core.stack; memory = s.core.memory; tape = s.tape }

-- the row's cells are those of the state
pub record ShowsState (x : List ℕ) (state : State) : Type 0 where
  pub clock : clk x ≡ state.core.clock
  pub context : ctx x ≡ state.core.context
  pub frame : fmp x ≡ state.core.fmp
  pub syscall : sys x ≡ bit_of state.core.in_syscall
  pub digest : function_digest x ≡ state.core.digest
  pub nesting : lv x ≡ state.core.nesting
  pub stack : cells x ≡ take 16 state.core.stack
  pub depth_is : depth x ≡ length state.core.stack

-- the two limbs of a number of 32 bits, before further limbs
abbrev pub halves : ℕ → List ℕ → List ℕ
halves n more = n % 2 ^ 16 ∷ n / 2 ^ 16 ∷ more

-- The limbs of a row: those of the operands, those of the low word and those of the high one. A carry is one limb. U32DIV has the
-- quotient, the remainder, and how far the remainder is below the divisor.
abbrev pub limbs_filled : Op → List ℕ → List ℕ → List ℕ
limbs_filled ops.U32Split x y = halves (s y 1) (halves (s y 0) [])
limbs_filled ops.U32Assert2 x y = halves (s x 0) (halves (s x 1) [])
limbs_filled ops.U32Add x y = halves (s x 0) (halves (s x 1) (halves (s y 1) (s y 0 ∷ [])))
limbs_filled ops.U32Sub x y = halves (s x 0) (halves (s x 1) (halves (s y 1) []))
limbs_filled ops.U32Mul x y = halves (s x 0) (halves (s x 1) (halves (s y 1) (halves (s y 0) [])))
limbs_filled ops.U32Div x y = halves (s x 0) (halves (s x 1) (halves (s y 1) (halves (s y 0) (halves (s x 0 - s y 0 - 1) []))))
limbs_filled ops.U32Add3 x y = halves (s x 0) (halves (s x 1) (halves (s x 2) (halves (s y 1) (s y 0 ∷ []))))
limbs_filled ops.U32MAdd x y = halves (s x 0) (halves (s x 1) (halves (s x 2) (halves (s y 1) (halves (s y 0) []))))
limbs_filled op x y = []

-- The cells that no state has: inverses, which are 0 of 0, limbs, the other elements of a word of memory, and the key of the first
-- cell below the sixteenth, which behind a left shift of a deeper stack is that of the next one.
pub record FilledBy (op : Op) (x y : List ℕ) (e : Elsewhere) : Type 0 where
  pub deeper : inv x ≡ felt_inv (depth x ⊟ 16)
  pub not_zero : is_op op ops.Eqz ≡ true → w x 0 ≡ felt_inv (s x 0)
  pub not_same : is_op op ops.Eq ≡ true → w x 0 ≡ felt_inv (s x 0 ⊟ s x 1)
  pub not_highest : has_high_word op ≡ true → w x 0 ≡ felt_inv (2 ^ 32 - 1 ⊟ s y 0)
  pub limb : (j : ℕ) → j < count_of_limbs op → t x j ≡ slice_index (limbs_filled op x y) j
  pub word : is_op op ops.MLoad || is_op op ops.MStore ≡ true → drop 1 (word_before x e) ≡ t x 0 ∷ t x 1 ∷ t x 2 ∷ []
  pub key_right : is_right op ≡ true → key y ≡ clk x
  pub key_flat : is_left op ≡ true → depth x ≡ 16 → key y ≡ key x
  pub key_same : is_left op ≡ false → is_right op ≡ false → key y ≡ key x
  pub block : addr y ≡ addr x

-- The facts of both rows but those of their spans, what the buses are asked, and how what no row shows goes on.
pub record FillsRows (constants : List ℕ) (item : Item) (x y : List ℕ) (e f : Elsewhere) : Type 0 where
  pub item_is : item ≡ item_of item.op y
  pub clock : clk y ≡ clk x ⊞ 1
  pub block_row : IsBlockRow item.op x
  pub block_pair : KeepsBlock item.op x y
  pub stack_row : IsStackRow item.op x
  pub stack_pair : MovesStack item.op x y
  pub limb_row : IsLimbRow item.op x
  pub limb_pair : MovesLimbs item.op x y
  pub goes : GoesOnBy item.op x y e f
  pub looks : Lookups constants item.op x y e
