-- The counts of a tuple by rows: of a row, of a table, of all tables, and their sums.
use Rattle.std.proofs.Common.{◌≡◌, ℕ, zero, suc, ◌+◌, ◌^◌, ◌<◌, ◌==◌, ◌&&◌, true, false, cond, List, [], ◌∷◌, ◌++◌, length, take, refl, sym, ap, ap₂, ◌∙◌, add-one, arith}
use Rattle.std.specs.List.{flat_map, sum_by}
use Rattle.std.proofs.lemmas.Bool.{and_parts, eqb-true}
use Rattle.std.proofs.lemmas.List.{append-nil, append_assoc, flat_map_more, take_more}
use Rattle.std.proofs.lemmas.List.Sums.{sum_by-append}
use Rattle.air_kit.specs.Acceptance.{asked_on, given_on, statement_given}
use Rattle.air_kit.specs.Places.{Claim}
use Rattle.air_kit.specs.Tables.{every_table, sum_over}
use Rattle.air_kit.specs.Traces.{rows_of}
use Rattle.air_kit.specs.declared.trace.TableName.{TableName}
use Rattle.air_kit.specs.declared.trace.TableName.TheVariants as table
use Rattle.air_kit.specs.declared.trace.Trace.{Trace}
use Rattle.buses.specs.Counts.{Counted, at_row, counted, over_first, over_rows, total}
use Rattle.buses.specs.declared.bus.Bus.{Bus}
use Rattle.buses.proofs.Counting.{counted-append}
use Rattle.bus_kit.specs.ByBus.{AreCounted, both_by}
use Rattle.bus_kit.specs.declared.tallies.Tallies.{Tallies}
use Rattle.checker.proofs.TableOrder.{table_at}
use Rattle.checker.specs.Counting.{IsRowCounted, asked_of, given_of}
use Rattle.checker.specs.RowCounts.{beside, counts_on, first_counts, given_alone, row_asks, row_count, row_gives, statement_gives, table_counts, where_some}
use Rattle.checker.specs.declared.row_counts.RowCount.{RowCount}

-- what is counted of the statement where it stands alone
pub statement_alone : (c : Claim) (bus : Bus) (u : List ℕ) → counted (statement_given bus c ++ []) u ≡ statement_gives c bus u
unfolding counted
statement_alone c bus u = let sum = counted-append (statement_given bus c) [] u in omega (arith, sum)

pub statement_counted : (c : Claim) (bus : Bus) (u : List ℕ) (none now : Tallies) (asked : Bus → List Counted) (both : ℕ × ℕ)
    → ((b : Bus) (v : List ℕ) → both_by none b v ≡ (0, 0)) → AreCounted (2 ^ 66) none now asked (λ b. statement_given b c ++ [])
    → both ≡ both_by now bus u → both.1 ≡ statement_gives c bus u
statement_counted c bus u none now asked both empty p is =
    let grown = (p bus).given_is u in
    let zero = ap (λ k. k.1) (empty bus u) in
    let same = ap (λ k. k.1) is in
    let alone = statement_alone c bus u in
    omega (arith, grown, zero, same, alone)

module _ (c : Claim) (t : Trace) (bus : Bus) (u : List ℕ) where
  -- what is counted at a row: what it gives by itself, and at the first one of the main table what the statement gives
  pub given_parts : (name : TableName) (i : ℕ)
      → counted (at_row (given_of c bus name) (rows_of t name) i) u ≡ beside name i (statement_gives c bus u) + row_gives t bus u name i
  given_parts table.Main i =
      let own = at_row (given_alone bus table.Main) t.main i in
      elim (i == 0) as (λ b. counted (cond b (statement_given bus c ++ own) own) u ≡ cond b (statement_gives c bus u) 0 + counted own u)
      [ true ↦ counted-append (statement_given bus c) own u | false ↦ omega arith ]
  given_parts table.Range i = omega arith
  given_parts table.Hasher i = omega arith
  given_parts table.Bitwise i = omega arith
  given_parts table.Memory i = omega arith
  given_parts table.Kernel i = omega arith
  given_parts table.Left i = omega arith

  -- by how much both counts grow at a row
  pub asked_grows : (name : TableName) (i : ℕ) (old new : Tallies) (before after : ℕ × ℕ) → IsRowCounted c t name i old new
      → before ≡ both_by old bus u → after ≡ both_by new bus u → after.0 ≡ before.0 + row_asks c t bus u name i
  asked_grows name i old new before after p was is = rw (was, is) ((p bus).asked_is u)

  pub given_grows : (name : TableName) (i : ℕ) (old new : Tallies) (before after : ℕ × ℕ) (statement out : ℕ) → IsRowCounted c t name i old new
      → before ≡ both_by old bus u → after ≡ both_by new bus u → statement ≡ statement_gives c bus u → out ≡ beside name i statement
      → after.1 ≡ before.1 + out + row_gives t bus u name i
  given_grows name i old new before after statement out p was is stated beside_is =
      let grown : after.1 ≡ before.1 + counted (at_row (given_of c bus name) (rows_of t name) i) u = rw (was, is) ((p bus).given_is u) in
      let parts = given_parts name i in
      let same : out ≡ beside name i (statement_gives c bus u) = beside_is ∙ ap (beside name i) stated in
      omega (arith, grown, parts, same)

  -- so these are its counts
  pub row_count_is : (name : TableName) (i asked given : ℕ) → asked ≡ row_asks c t bus u name i → given ≡ row_gives t bus u name i
      → record { table = name; row = i; asked = asked; given = given } ≡ row_count c t bus u name i
  row_count_is name i asked given a g = ap₂ (λ x y. record { table = name; row = i; asked = x; given = y }) a g

  -- no row, and one row more of a table
  pub no_row_told : (name : TableName) (rows : List RowCount) → rows ≡ rows ++ first_counts c t bus u name 0
  unfolding first_counts
  no_row_told name rows = sym (append-nil rows)

  pub one_row_told : (name : TableName) (n : ℕ) (rows so_far longer : List RowCount) (r : RowCount) → so_far ≡ rows ++ first_counts c t bus u name n
      → r ≡ row_count c t bus u name n → longer ≡ so_far ++ where_some r → longer ≡ rows ++ first_counts c t bus u name (n + 1)
  unfolding first_counts
  one_row_told name n rows so_far longer r made is more = rw add-one
      (more ∙ ap₂ (λ x y. x ++ where_some y) made is ∙ append_assoc rows (first_counts c t bus u name n) (where_some (row_count c t bus u name n)))

  -- one table more
  pub one_table_told : (n : ℕ) (so_far longer : List RowCount) → n < 7 → so_far ≡ flat_map (table_counts c t bus u) (take n every_table)
      → longer ≡ so_far ++ table_counts c t bus u (table_at n) → longer ≡ flat_map (table_counts c t bus u) (take (n + 1) every_table)
  one_table_told n so_far longer within made more =
      more ∙ ap (λ x. x ++ table_counts c t bus u (table_at n)) made
      ∙ flat_map_more (table_counts c t bus u) [] (take n every_table) (table_at n)
      ∙ ap (flat_map (table_counts c t bus u)) (sym (take_more every_table n table.Main within))

  -- ---- sums

  where_asked : (r : RowCount) → sum_by (λ (x : RowCount). x.asked) (where_some r) ≡ r.asked
  where_asked r =
      elim (r.asked == 0 && r.given == 0) as (λ b. (r.asked == 0 && r.given == 0) ≡ b → sum_by (λ (x : RowCount). x.asked) (cond b [] (r ∷ [])) ≡ r.asked)
      [ true ↦ λ none. sym (none_asked r none) | false ↦ λ _. omega arith ] refl
    where
      none_asked : (r : RowCount) → (r.asked == 0 && r.given == 0) ≡ true → r.asked ≡ 0
      none_asked r none = eqb-true r.asked 0 (and_parts (r.asked == 0) (r.given == 0) none).0

  where_given : (r : RowCount) → sum_by (λ (x : RowCount). x.given) (where_some r) ≡ r.given
  where_given r =
      elim (r.asked == 0 && r.given == 0) as (λ b. (r.asked == 0 && r.given == 0) ≡ b → sum_by (λ (x : RowCount). x.given) (cond b [] (r ∷ [])) ≡ r.given)
      [ true ↦ λ none. sym (none_given r none) | false ↦ λ _. omega arith ] refl
    where
      none_given : (r : RowCount) → (r.asked == 0 && r.given == 0) ≡ true → r.given ≡ 0
      none_given r none = eqb-true r.given 0 (and_parts (r.asked == 0) (r.given == 0) none).1

  first_asked : (name : TableName) (n : ℕ)
      → sum_by (λ (x : RowCount). x.asked) (first_counts c t bus u name n) ≡ over_first (asked_of c bus name) (rows_of t name) n u
  unfolding first_counts over_first total
  first_asked name zero = refl
  first_asked name (suc n) =
      sum_by-append (λ (x : RowCount). x.asked) (first_counts c t bus u name n) (where_some (row_count c t bus u name n))
      ∙ ap₂ ◌+◌ (first_asked name n) (where_asked (row_count c t bus u name n))

  first_given : (name : TableName) (n : ℕ)
      → sum_by (λ (x : RowCount). x.given) (first_counts c t bus u name n) ≡ over_first (given_alone bus name) (rows_of t name) n u
  unfolding first_counts over_first total
  first_given name zero = refl
  first_given name (suc n) =
      sum_by-append (λ (x : RowCount). x.given) (first_counts c t bus u name n) (where_some (row_count c t bus u name n))
      ∙ ap₂ ◌+◌ (first_given name n) (where_given (row_count c t bus u name n))

  tables_asked : (names : List TableName) → sum_by (λ (x : RowCount). x.asked) (flat_map (table_counts c t bus u) names)
      ≡ sum_over names (λ name. over_rows (asked_of c bus name) (rows_of t name) u)
  tables_asked [] = refl
  tables_asked (name ∷ names) =
      sum_by-append (λ (x : RowCount). x.asked) (table_counts c t bus u name) (flat_map (table_counts c t bus u) names)
      ∙ ap₂ ◌+◌ (first_asked name (length (rows_of t name))) (tables_asked names)

  tables_given : (names : List TableName) → sum_by (λ (x : RowCount). x.given) (flat_map (table_counts c t bus u) names)
      ≡ sum_over names (λ name. over_rows (given_alone bus name) (rows_of t name) u)
  tables_given [] = refl
  tables_given (name ∷ names) =
      sum_by-append (λ (x : RowCount). x.given) (table_counts c t bus u name) (flat_map (table_counts c t bus u) names)
      ∙ ap₂ ◌+◌ (first_given name (length (rows_of t name))) (tables_given names)

  -- the rows ask the tuple as often as the bus does in all
  pub asked_in_all : sum_by (λ (x : RowCount). x.asked) (counts_on c t bus u) ≡ asked_on c t bus u
  unfolding asked_on
  asked_in_all = tables_asked every_table

  -- and with the statement they give it as often
  pub given_in_all : statement_gives c bus u + sum_by (λ (x : RowCount). x.given) (counts_on c t bus u) ≡ given_on c t bus u
  unfolding given_on
  given_in_all = let sum = tables_given every_table in omega (arith, sum)
