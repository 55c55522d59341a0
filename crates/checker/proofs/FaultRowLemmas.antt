-- The first faults of rows: of one row, of the rows of a table, of all tables, and the first of all.
use Rattle.std.proofs.Common.{◌≡◌, ◌≢◌, ℕ, zero, suc, ◌+◌, ◌-◌, ◌<◌, ◌≤◌, ◌↔◌, List, [], ◌++◌, length, slice_get, take, drop, Option, Some, None, refl, sym, ap, ap₂, subst, ◌∙◌, arith, inl, inr}
use Rattle.std.specs.List.{Contains, flat_map}
use Rattle.std.specs.Option.{option_map, option_or, option_to_list}
use Rattle.std.proofs.lemmas.Bool.{cases_lt}
use Rattle.std.proofs.lemmas.List.{drop_more, flat_map_more, take_more}
use Rattle.std.proofs.lemmas.List.Elements.{Contains-get_or}
use Rattle.air_kit.specs.Acceptance.{AreZero, IsBefore, IsFirstFault, IsRowsAnswer, by_number, by_row, by_table}
use Rattle.air_kit.specs.Places.{Claim, first_fault_of}
use Rattle.air_kit.specs.Tables.{every_table, table_number}
use Rattle.air_kit.specs.Traces.{rows_of, value_at, values_at}
use Rattle.air_kit.specs.declared.fault.Fault.{Fault}
use Rattle.air_kit.specs.declared.trace.TableName.{TableName}
use Rattle.air_kit.specs.declared.trace.TableName.TheVariants as table
use Rattle.air_kit.specs.declared.trace.Trace.{Trace}
use Rattle.checker.specs.Answers.{AreZeroBelow, IsPieceAnswer, IsRowAnswer, IsRowFault, IsTableAnswer, IsTableFault, IsZeroRow}
use Rattle.checker.specs.FaultRows.{IsFaultOfRow, fault_of_row, faults_of, row_faults, table_faults}
use Rattle.checker.specs.Pieces.{all_rows}
use Rattle.checker.proofs.GivenLemmas.{empty_list, first_given, first_of_two, given, given_joined, given_next, given_of, is_given, member_of_part, part_member}
use Rattle.checker.proofs.PieceLemmas.{rows_within}
use Rattle.checker.proofs.RowLemmas.{all_zero, fault_at, none_below, row_answer, zero_next}
use Rattle.checker.proofs.TableOrder.{at_own_number, same_table, table_at, table_below}

-- a row's fault in its place
abbrev pub placed : TableName → ℕ → ℕ × ℕ → Fault
placed name row f = record { table = name; row = row; number = f.0; value = f.1 }

-- a row of which this is the first fault
pub record IsPlaced (c : Claim) (t : Trace) (name : TableName) (row : ℕ) (f : Fault) : Type 0 where
  pub own : ℕ × ℕ
  pub is : f ≡ placed name row own
  pub fault : IsRowFault c t name row own

every_there : (name : TableName) → Contains every_table name
every_there name = subst (Contains every_table) (at_own_number name) (Contains-get_or every_table (table_number name) table.Main (table_below name))

module _ (c : Claim) (t : Trace) where
  -- ---- One row

  same_number : (name : TableName) (row : ℕ) (f g : ℕ × ℕ) → IsRowFault c t name row f → IsRowFault c t name row g → f.0 ≡ g.0
  same_number name row f g one other = elim (cases_lt f.0 g.0) [
    | inl lower ↦ absurd (one.nonzero (one.value_is ∙ other.first f.0 lower))
    | inr high ↦ elim (cases_lt g.0 f.0) [
      | inl lower ↦ absurd (other.nonzero (other.value_is ∙ one.first g.0 lower))
      | inr low ↦ omega (arith, high, low)
    ]
  ]

  -- a row has one answer
  answer_once : (name : TableName) (row : ℕ) (r q : Option (ℕ × ℕ)) → IsRowAnswer c t name row r → IsRowAnswer c t name row q → r ≡ q
  answer_once name row None None zeros others = refl
  answer_once name row None (Some g) zeros fault = absurd (fault.nonzero (fault.value_is ∙ zeros g.0))
  answer_once name row (Some f) None fault zeros = absurd (fault.nonzero (fault.value_is ∙ zeros f.0))
  answer_once name row (Some f) (Some g) one other =
      let number = same_number name row f g one other in
      let value : f.1 ≡ g.1 = one.value_is ∙ ap (value_at c t name row) number ∙ sym other.value_is in
      ap₂ (λ n v. Some (n, v)) number value

  -- and that is its fault
  pub fault_is : (name : TableName) (row : ℕ) (r : Option (ℕ × ℕ)) → IsRowAnswer c t name row r → fault_of_row c t name row ≡ option_map (placed name row) r
  unfolding fault_of_row
  fault_is name row r answer =
      ap (option_map (placed name row))
      (answer_once name row (first_fault_of 1 (values_at c t name row)) r (row_answer c t name row (first_fault_of 1 (values_at c t name row)) refl) answer)

  zero_of : (name : TableName) (row : ℕ) (r : Option (ℕ × ℕ)) → r ≡ first_fault_of 1 (values_at c t name row) → option_map (placed name row) r ≡ None
      → IsZeroRow c t name row
  zero_of name row None e none = row_answer c t name row None e
  zero_of name row (Some f) e none = absurd (cc)

  pub zero_row : (name : TableName) (row : ℕ) → fault_of_row c t name row ≡ None → IsZeroRow c t name row
  unfolding fault_of_row
  zero_row name row none = zero_of name row (first_fault_of 1 (values_at c t name row)) refl none

  placed_of : (name : TableName) (row : ℕ) (r : Option (ℕ × ℕ)) (f : Fault) → r ≡ first_fault_of 1 (values_at c t name row)
      → option_map (placed name row) r ≡ Some f → IsPlaced c t name row f
  placed_of name row None f e some = absurd (cc)
  placed_of name row (Some g) f e some = record {
    own = g;
    is = let same : Some (placed name row g) ≡ Some f = some in let back : placed name row g ≡ f = cc in sym back;
    fault = row_answer c t name row (Some g) e;
  }

  pub placed_row : (name : TableName) (row : ℕ) (f : Fault) → fault_of_row c t name row ≡ Some f → IsPlaced c t name row f
  unfolding fault_of_row
  placed_row name row f some = placed_of name row (first_fault_of 1 (values_at c t name row)) f refl some

  -- ---- Rows one behind another

  pub no_rows : (name : TableName) → row_faults c t name 0 0 ≡ []
  unfolding row_faults
  no_rows name = refl

  pub one_row_more : (name : TableName) (n : ℕ) → row_faults c t name 0 (n + 1) ≡ row_faults c t name 0 n ++ option_to_list (fault_of_row c t name n)
  unfolding row_faults
  one_row_more name n =
      let next : n + 1 - 0 ≡ n + 1 = omega arith in
      let here : n - 0 ≡ n = omega arith in
      ap (given (fault_of_row c t name) 0) next ∙ given_next (fault_of_row c t name) n
      ∙ ap (λ k. given (fault_of_row c t name) 0 k ++ option_to_list (fault_of_row c t name n)) (sym here)

  pub rows_joined : (name : TableName) (a b d : ℕ) → a ≤ b → b ≤ d → row_faults c t name a b ++ row_faults c t name b d ≡ row_faults c t name a d
  unfolding row_faults
  rows_joined name a b d first last =
      let middle : a + (b - a) ≡ b = omega (arith, first) in
      let whole : b - a + (d - b) ≡ d - a = omega (arith, first, last) in
      subst (λ k. row_faults c t name a b ++ given (fault_of_row c t name) k (d - b) ≡ given (fault_of_row c t name) a (b - a + (d - b))) middle
      (given_joined (fault_of_row c t name) a (b - a) (d - b))
      ∙ ap (given (fault_of_row c t name) a) whole

  -- ---- A table

  table_fault : (name : TableName) (row : ℕ) (f : ℕ × ℕ) → row < length (rows_of t name) → IsRowFault c t name row f
      → ((i : ℕ) → i < row → IsZeroRow c t name i) → IsTableFault c t 0 (all_rows t) (placed name row f)
  table_fault name row f within fault zeros = record {
    within = within;
    from = omega arith;
    to = let whole = rows_within t name in omega (arith, whole, within);
    row = fault;
    earlier = λ i from below. zeros i below;
  }

  -- the first of a table's is its answer
  pub table_answer : (name : TableName) (r : Option Fault) → slice_get (table_faults c t name) 0 ≡ r → IsTableAnswer c t 0 (all_rows t) name r
  unfolding row_faults
  table_answer name None e = λ row within from to.
      zero_row name row (first_given (fault_of_row c t name) 0 (length (rows_of t name) - 0) None e row (omega arith) (omega (arith, within)))
  table_answer name (Some f) e =
      let first = first_given (fault_of_row c t name) 0 (length (rows_of t name) - 0) (Some f) e in
      let here = placed_row name first.place f first.made in
      let inside = first.to in
      subst (λ g. (g.table ≡ name) × IsTableFault c t 0 (all_rows t) g) (sym here.is)
      (refl, table_fault name first.place here.own (omega (arith, inside)) here.fault (λ i below. zero_row name i (first.earlier i (omega arith) below)))

  -- ---- All tables

  pub one_table_more : (n : ℕ) → n < 7
      → flat_map (table_faults c t) (take n every_table) ++ table_faults c t (table_at n) ≡ flat_map (table_faults c t) (take (n + 1) every_table)
  one_table_more n within =
      flat_map_more (table_faults c t) [] (take n every_table) (table_at n)
      ∙ ap (flat_map (table_faults c t)) (sym (take_more every_table n table.Main within))

  pub all_tables : flat_map (table_faults c t) every_table ≡ faults_of c t
  unfolding faults_of
  all_tables = refl

  -- what the tables from one on have
  abbrev behind : ℕ → List Fault
  behind n = flat_map (table_faults c t) (drop n every_table)

  behind_next : (n : ℕ) → n < 7 → behind n ≡ table_faults c t (table_at n) ++ behind (n + 1)
  behind_next n within = ap (flat_map (table_faults c t)) (drop_more every_table n table.Main within)

  or_behind : (n : ℕ) (o r : Option Fault) → n < 7 → AreZeroBelow c t 0 (all_rows t) n → slice_get (table_faults c t (table_at n)) 0 ≡ o
      → option_or o (slice_get (behind (n + 1)) 0) ≡ r
      → (AreZeroBelow c t 0 (all_rows t) (n + 1) → slice_get (behind (n + 1)) 0 ≡ r → IsPieceAnswer c t 0 (all_rows t) r)
      → IsPieceAnswer c t 0 (all_rows t) r
  or_behind n None r within below first e rest = rest (zero_next c t 0 (all_rows t) n within below (table_answer (table_at n) None first)) e
  or_behind n (Some f) r within below first e rest =
      subst (IsPieceAnswer c t 0 (all_rows t)) e (fault_at c t 0 (all_rows t) n f within below (table_answer (table_at n) (Some f) first))

  from_table : (k n : ℕ) (r : Option Fault) → n + k ≡ 7 → AreZeroBelow c t 0 (all_rows t) n → slice_get (behind n) 0 ≡ r → IsPieceAnswer c t 0 (all_rows t) r
  from_table zero n r all below e =
      let last : n ≡ 7 = omega (arith, all) in
      subst (IsPieceAnswer c t 0 (all_rows t)) (sym (ap (λ m. slice_get (behind m) 0) last) ∙ e)
      (all_zero c t 0 (all_rows t) (subst (AreZeroBelow c t 0 (all_rows t)) last below))
  from_table (suc k) n r all below e =
      let within : n < 7 = omega (arith, all) in
      or_behind n (slice_get (table_faults c t (table_at n)) 0) r within below refl
      (sym (ap (λ fs. slice_get fs 0) (behind_next n within) ∙ first_of_two (table_faults c t (table_at n)) (behind (n + 1))) ∙ e)
      (from_table k (n + 1) r (omega (arith, all)))

  rows_answer : (r : Option Fault) → IsPieceAnswer c t 0 (all_rows t) r → IsRowsAnswer c t r
  rows_answer None zeros = λ name row number within. zeros name row within (omega arith) (let whole = rows_within t name in omega (arith, whole, within)) number
  rows_answer (Some f) fault = record {
    within = fault.within;
    value_is = fault.value_is;
    nonzero = fault.nonzero;
    first = λ name row number within before. fault.first name row number within (omega arith) before;
  }

  -- the first of all is the trace's answer
  pub first_answer : IsRowsAnswer c t (slice_get (faults_of c t) 0)
  unfolding faults_of
  first_answer = rows_answer (slice_get (faults_of c t) 0) (from_table 7 0 (slice_get (faults_of c t) 0) refl (none_below c t 0 (all_rows t)) refl)

  -- ---- A trace has one answer

  not_before : (f g : Fault) → IsFirstFault c t f → IsFirstFault c t g → IsBefore g.table g.row g.number f → ⊥
  not_before f g first other before = other.nonzero (other.value_is ∙ first.first g.table g.row g.number other.within before)

  same_tables : (f g : Fault) → IsFirstFault c t f → IsFirstFault c t g → f.table ≡ g.table
  same_tables f g first other = same_table f.table g.table (elim (cases_lt (table_number f.table) (table_number g.table)) [
    | inl lower ↦ absurd (not_before g f other first (by_table lower))
    | inr high ↦ elim (cases_lt (table_number g.table) (table_number f.table)) [
      | inl lower ↦ absurd (not_before f g first other (by_table lower))
      | inr low ↦ omega (arith, high, low)
    ]
  ])

  same_rows : (f g : Fault) → IsFirstFault c t f → IsFirstFault c t g → f.table ≡ g.table → f.row ≡ g.row
  same_rows f g first other tables = elim (cases_lt f.row g.row) [
    | inl lower ↦ absurd (not_before g f other first (by_row tables lower))
    | inr high ↦ elim (cases_lt g.row f.row) [
      | inl lower ↦ absurd (not_before f g first other (by_row (sym tables) lower))
      | inr low ↦ omega (arith, high, low)
    ]
  ]

  same_numbers : (f g : Fault) → IsFirstFault c t f → IsFirstFault c t g → f.table ≡ g.table → f.row ≡ g.row → f.number ≡ g.number
  same_numbers f g first other tables rows = elim (cases_lt f.number g.number) [
    | inl lower ↦ absurd (not_before g f other first (by_number tables rows lower))
    | inr high ↦ elim (cases_lt g.number f.number) [
      | inl lower ↦ absurd (not_before f g first other (by_number (sym tables) (sym rows) lower))
      | inr low ↦ omega (arith, high, low)
    ]
  ]

  fault_once : (f g : Fault) → IsFirstFault c t f → IsFirstFault c t g → f ≡ g
  fault_once f g first other =
      let tables = same_tables f g first other in
      let rows = same_rows f g first other tables in
      let numbers = same_numbers f g first other tables rows in
      let values : f.value ≡ g.value = first.value_is ∙ (λ k. value_at c t (tables k) (rows k) (numbers k)) ∙ sym other.value_is in
      λ k. record { table = tables k; row = rows k; number = numbers k; value = values k }

  pub rows_answer_once : (r q : Option Fault) → IsRowsAnswer c t r → IsRowsAnswer c t q → r ≡ q
  rows_answer_once None None zeros others = refl
  rows_answer_once None (Some g) zeros fault = absurd (fault.nonzero (fault.value_is ∙ zeros g.table g.row g.number fault.within))
  rows_answer_once (Some f) None fault zeros = absurd (fault.nonzero (fault.value_is ∙ zeros f.table f.row f.number fault.within))
  rows_answer_once (Some f) (Some g) first other = ap Some (fault_once f g first other)

  -- ---- The laws

  pub none_where_zero : AreZero c t ↔ (faults_of c t ≡ [])
  none_where_zero = (
    λ zeros. empty_list (faults_of c t) (rows_answer_once (slice_get (faults_of c t) 0) None first_answer zeros),
    λ none. subst (IsRowsAnswer c t) (ap (λ fs. slice_get fs 0) none) first_answer,
  )

  pub first_is_first : (f : Fault) → IsFirstFault c t f ↔ (slice_get (faults_of c t) 0 ≡ Some f)
  first_is_first f = (
    λ first. rows_answer_once (slice_get (faults_of c t) 0) (Some f) first_answer first,
    λ is. subst (IsRowsAnswer c t) is first_answer,
  )

  row_of_table : (name : TableName) (f : Fault) → Contains (table_faults c t name) f → IsFaultOfRow c t f
  unfolding row_faults
  row_of_table name f has =
      let made = given_of (fault_of_row c t name) 0 (length (rows_of t name) - 0) f has in
      let here = placed_row name made.place f made.made in
      let inside = made.to in
      subst (IsFaultOfRow c t) (sym here.is) (record {
        within = omega (arith, inside);
        value_is = here.fault.value_is;
        nonzero = here.fault.nonzero;
        first = here.fault.first;
      })

  table_has : (name : TableName) (row : ℕ) (f : Fault) → row < length (rows_of t name) → fault_of_row c t name row ≡ Some f → Contains (faults_of c t) f
  unfolding row_faults faults_of
  table_has name row f within made =
      part_member (table_faults c t) every_table name f (every_there name)
      (is_given (fault_of_row c t name) 0 (length (rows_of t name) - 0) row f (omega arith) (omega (arith, within)) made)

  pub each_is_of_row : (f : Fault) → Contains (faults_of c t) f ↔ IsFaultOfRow c t f
  unfolding faults_of
  each_is_of_row f = (
    λ has. (let part = member_of_part (table_faults c t) every_table f has in row_of_table part.0 f part.1),
    λ fault. table_has f.table f.row f fault.within (fault_is f.table f.row (Some (f.number, f.value)) (record {
      value_is = fault.value_is;
      nonzero = fault.nonzero;
      first = fault.first;
    })),
  )

  abbrev RowIsThere : TableName → ℕ → Type 0
  RowIsThere name row = (f : Fault) × Contains (faults_of c t) f × (f.table ≡ name) × (f.row ≡ row)

  there_by : (name : TableName) (row number : ℕ) (o : Option Fault) → fault_of_row c t name row ≡ o → row < length (rows_of t name)
      → value_at c t name row number ≢ 0 → RowIsThere name row
  there_by name row number None none within nonzero = absurd (nonzero (zero_row name row none number))
  there_by name row number (Some f) some within nonzero =
      let here = placed_row name row f some in
      (f, table_has name row f within some, ap (λ (g : Fault). g.table) here.is, ap (λ (g : Fault). g.row) here.is)

  pub each_row_is_there : (name : TableName) (row number : ℕ) → row < length (rows_of t name) → value_at c t name row number ≢ 0 → RowIsThere name row
  each_row_is_there name row number within nonzero = there_by name row number (fault_of_row c t name row) refl within nonzero
