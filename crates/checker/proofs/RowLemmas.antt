-- From the first fault of a row's list of values to what is answered of the row, its table and the trace.
use Rattle.std.proofs.Common.{◌≡◌, ℕ, zero, suc, ◌+◌, ◌<◌, ◌≤◌, List, ◌++◌, length, slice_index, Option, Some, None, refl, sym, ap, subst, ◌∙◌, add-one, arith}
use Rattle.std.proofs.Common.{inl, inr}
use Rattle.std.proofs.lemmas.Bool.{cases_lt}
use Rattle.air_kit.specs.declared.fault.Fault.{Fault}
use Rattle.air_kit.specs.declared.trace.TableName.{TableName}
use Rattle.air_kit.specs.declared.trace.TableName.TheVariants as table
use Rattle.air_kit.specs.declared.trace.Trace.{Trace}
use Rattle.air_kit.specs.Acceptance.{IsBefore, by_table, by_row, by_number}
use Rattle.air_kit.specs.Places.{Claim, Spot, family, first_fault_of, at_number, or_next}
use Rattle.air_kit.specs.Tables.{table_number}
use Rattle.air_kit.specs.Traces.{rows_of, value_at, values_at}
use Rattle.air_kit.specs.OpcodeValues.{opcode_values}
use Rattle.air_kit.specs.BoundaryValues.{boundary_values, start_values, inputs_values, end_values, outputs_values}
use Rattle.air_kit.specs.BlockValues.{block_values, follow_values, shown_values, kept_values}
use Rattle.air_kit.specs.SpanValues.{span_values, batch_values, group_values}
use Rattle.air_kit.specs.StackValues.{stack_values, depth_values, cell_values, operand_values}
use Rattle.air_kit.specs.U32Values.{u32_values}
use Rattle.air_kit.specs.DynValues.{dyn_values}
use Rattle.air_kit.specs.MainValues.{decoder_values, main_values}
use Rattle.air_kit.proofs.FaultLemmas.{first_append, first_none, first_some}
use Rattle.checker.proofs.PieceLemmas.{lower_table, number_at_least, number_below, row_at_least, row_below}
use Rattle.checker.proofs.TableOrder.{number_at, same_table, table_at, table_below}
use Rattle.checker.specs.Answers.{AreZeroBelow, AreZeroBetween, IsPieceFault, IsRowAnswer, IsRowFault, IsTableAnswer, IsTableFault, IsZeroRow, IsZeroTable}
use Rattle.checker.specs.Pieces.{number_of, rows_below}

numbers_zero : (values : List ℕ) → ((k : ℕ) → slice_index values k ≡ 0) → (number : ℕ) → at_number values number ≡ 0
unfolding at_number
numbers_zero values zeros zero = refl
numbers_zero values zeros (suc k) = zeros k

below_place : (values : List ℕ) (place : ℕ) → ((k : ℕ) → k < place → slice_index values k ≡ 0) → (number : ℕ) → number < suc place
    → at_number values number ≡ 0
unfolding at_number
below_place values place zeros zero h = refl
below_place values place zeros (suc k) h = zeros k (omega (arith, h))

at_suc : (values : List ℕ) (place : ℕ) → at_number values (suc place) ≡ slice_index values place
unfolding at_number
at_suc values place = refl

-- the first fault of a row's values is the row's answer
pub row_answer : (c : Claim) (t : Trace) (name : TableName) (row : ℕ) (r : Option (ℕ × ℕ))
    → r ≡ first_fault_of 1 (values_at c t name row) → IsRowAnswer c t name row r
row_answer c t name row None e = numbers_zero (values_at c t name row) (first_none 1 (values_at c t name row) (sym e))
row_answer c t name row (Some f) e =
    let first = first_some 1 (values_at c t name row) f (sym e) in
    let number : f.0 ≡ suc first.place = let h = first.number_is in omega (arith, h) in
    record {
      value_is = first.value_is ∙ sym (ap (at_number (values_at c t name row)) number ∙ at_suc (values_at c t name row) first.place);
      nonzero = first.nonzero;
      first = λ k h. below_place (values_at c t name row) first.place first.earlier k (subst (λ n. k < n) number h);
    }

decoder_length : (c : Claim) (p : Spot) → length (decoder_values c p) ≡ 114
unfolding decoder_values opcode_values boundary_values start_values inputs_values end_values outputs_values block_values
    follow_values shown_values kept_values span_values batch_values group_values family
decoder_length c p = refl

stack_length : (p : Spot) → length (stack_values p) ≡ 25
unfolding stack_values depth_values cell_values operand_values family
stack_length p = refl

u32_length : (p : Spot) → length (u32_values p) ≡ 8
unfolding u32_values
u32_length p = refl

-- the faults of two lists of which the second one's numbers follow those of the first
two_joined : (n m : ℕ) (xs ys : List ℕ) → n + length xs ≡ m
    → or_next (first_fault_of n xs) (first_fault_of m ys) ≡ first_fault_of n (xs ++ ys)
two_joined n m xs ys follows =
    ap (λ k. or_next (first_fault_of n xs) (first_fault_of k ys)) (sym follows) ∙ sym (first_append n xs ys)

-- the faults of the four parts of a main row, one behind the other
pub main_joined : (c : Claim) (p : Spot)
    → or_next (first_fault_of 1 (decoder_values c p))
    (or_next (first_fault_of 115 (stack_values p)) (or_next (first_fault_of 140 (u32_values p)) (first_fault_of 148 (dyn_values p))))
    ≡ first_fault_of 1 (main_values c p)
unfolding main_values
main_joined c p =
    ap (or_next (first_fault_of 1 (decoder_values c p)))
    (ap (or_next (first_fault_of 115 (stack_values p)))
    (two_joined 140 148 (u32_values p) (dyn_values p) (let h = u32_length p in omega (arith, h)))
    ∙ two_joined 115 140 (stack_values p) (u32_values p ++ dyn_values p) (let h = stack_length p in omega (arith, h)))
    ∙ two_joined 1 115 (decoder_values c p) (stack_values p ++ (u32_values p ++ dyn_values p)) (let h = decoder_length c p in omega (arith, h))

-- the same for what four functions answer
pub main_of_parts : (c : Claim) (p : Spot) (decoder stack u32 dyn whole : Option (ℕ × ℕ))
    → decoder ≡ first_fault_of 1 (decoder_values c p) → stack ≡ first_fault_of 115 (stack_values p) → u32 ≡ first_fault_of 140 (u32_values p)
    → dyn ≡ first_fault_of 148 (dyn_values p)
    → whole ≡ or_next decoder (or_next stack (or_next u32 dyn)) → whole ≡ first_fault_of 1 (main_values c p)
main_of_parts c p decoder stack u32 dyn whole d s u b w = w ∙ rw (d, s, u, b) (main_joined c p)

-- the first row with a fault of those that a table has in the piece
pub table_fault_at : (c : Claim) (t : Trace) (name : TableName) (a b start end row number value : ℕ) → start ≡ rows_below t name a → end ≡ rows_below t name b
    → start ≤ row → row < end → ((i : ℕ) → start ≤ i → i < row → IsZeroRow c t name i) → IsRowFault c t name row (number, value)
    → IsTableFault c t a b (record { table = name; row = row; number = number; value = value })
table_fault_at c t name a b start end row number value first last from to zeros fault =
    let inside = number_below t name row b (omega (arith, last, to)) in record {
      within = inside.0;
      from = number_at_least t name row a inside.0 (omega (arith, first, from));
      to = inside.1;
      row = fault;
      earlier = λ i above. zeros i (let h = row_at_least t name i a above in omega (arith, first, h));
    }

-- no row of the piece has a fault
pub table_zero : (c : Claim) (t : Trace) (name : TableName) (a b start end : ℕ) → start ≡ rows_below t name a → end ≡ rows_below t name b
    → ((i : ℕ) → start ≤ i → i < end → IsZeroRow c t name i) → IsTableAnswer c t a b name None
table_zero c t name a b start end first last zeros = λ row within from to.
    zeros row (let h = row_at_least t name row a from in omega (arith, first, h))
    (let h = row_below t name row b within to in omega (arith, last, h))

-- one table more is 0
zero_below_next : (c : Claim) (t : Trace) (a b : ℕ) (name : TableName) → AreZeroBelow c t a b (table_number name) → IsZeroTable c t a b name
    → AreZeroBelow c t a b (suc (table_number name))
zero_below_next c t a b name below zeros other h = elim (cases_lt (table_number other) (table_number name)) [
  | inl lower ↦ below other lower
  | inr high ↦ subst (IsZeroTable c t a b) (sym (same_table other name (omega (arith, h, high)))) zeros
]

first_of : (c : Claim) (t : Trace) (a b : ℕ) (f : Fault) → IsTableFault c t a b f → AreZeroBelow c t a b (table_number f.table)
    → (name : TableName) (row number : ℕ) → row < length (rows_of t name) → a ≤ number_of t name row → IsBefore name row number f
    → value_at c t name row number ≡ 0
first_of c t a b f fault below name row number h from (by_table lower) =
    let number_lower = lower_table t name f.table row f.row lower h in
    let to = fault.to in
    below name lower row h from (omega (arith, number_lower, to)) number
first_of c t a b f fault below name row number h from (by_row same lower) =
    subst (λ x. value_at c t x row number ≡ 0) (sym same) (fault.earlier row (subst (λ x. a ≤ number_of t x row) same from) lower number)
first_of c t a b f fault below name row number h from (by_number same at lower) =
    subst (λ x. value_at c t x row number ≡ 0) (sym same) (subst (λ r. value_at c t f.table r number ≡ 0) (sym at) (fault.row.first number lower))

-- the first fault of a table behind tables that are 0 is that of the piece
first_from_table : (c : Claim) (t : Trace) (a b : ℕ) (f : Fault) → IsTableFault c t a b f → AreZeroBelow c t a b (table_number f.table)
    → IsPieceFault c t a b f
first_from_table c t a b f fault below = record {
  within = fault.within;
  value_is = fault.row.value_is;
  nonzero = fault.row.nonzero;
  from = fault.from;
  to = fault.to;
  first = first_of c t a b f fault below;
}

-- the tables before a place are 0, and so is the table at that place
pub zero_next : (c : Claim) (t : Trace) (a b n : ℕ) → n < 7 → AreZeroBelow c t a b n → IsZeroTable c t a b (table_at n) → AreZeroBelow c t a b (n + 1)
zero_next c t a b n h below zeros =
    rw add-one
    (subst (λ k. AreZeroBelow c t a b (suc k)) (number_at n h)
    (zero_below_next c t a b (table_at n) (subst (AreZeroBelow c t a b) (sym (number_at n h)) below) zeros))

-- or it has a fault
pub fault_at : (c : Claim) (t : Trace) (a b n : ℕ) (f : Fault) → n < 7 → AreZeroBelow c t a b n → IsTableAnswer c t a b (table_at n) (Some f)
    → IsPieceFault c t a b f
fault_at c t a b n f h below fault =
    first_from_table c t a b f fault.1 (subst (AreZeroBelow c t a b) (sym (ap table_number fault.0 ∙ number_at n h)) below)

-- all tables
pub all_zero : (c : Claim) (t : Trace) (a b : ℕ) → AreZeroBelow c t a b 7 → AreZeroBetween c t a b
all_zero c t a b zeros = λ name. zeros name (table_below name)

-- before the first table
pub none_below : (c : Claim) (t : Trace) (a b : ℕ) → AreZeroBelow c t a b 0
none_below c t a b name h = absurd (omega (arith, h))

-- the table of cells left has no entries
pub left_zero : (c : Claim) (t : Trace) (row number : ℕ) → value_at c t table.Left row number ≡ 0
unfolding at_number
left_zero c t row zero = refl
left_zero c t row (suc number) = refl

-- what is answered of a row of a table that has another name, too
pub row_renamed : (c : Claim) (t : Trace) (name other : TableName) (row : ℕ) (r : Option (ℕ × ℕ)) → name ≡ other
    → IsRowAnswer c t other row r → IsRowAnswer c t name row r
row_renamed c t name other row r same answer = subst (λ n. IsRowAnswer c t n row r) (sym same) answer
