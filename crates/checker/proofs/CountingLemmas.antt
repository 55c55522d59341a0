-- Rows counted one after another, tables, and pieces.
use Rattle.std.proofs.Common.{◌≡◌, ℕ, zero, suc, ◌+◌, ◌*◌, ◌^◌, ◌<◌, ◌≤◌, ◌==◌, true, false, List, [], ◌∷◌, length, Option, Some, None, IfSome, Result, Ok, Err, OnOk, OnSome, refl, sym, ap, ap₂, ◌∙◌, subst, add-one, arith}
use Rattle.std.proofs.lemmas.Bool.{eqb-true}
use Rattle.std.proofs.lemmas.Option.{get_or_from_slice_get, slice_get_within}
use Rattle.std.specs.List.{slice_get}
use Rattle.std.specs.Option.{option_map}
use Rattle.air_kit.specs.Flags.{HasBits}
use Rattle.std.specs.Result.{result_ok}
use Rattle.air_kit.specs.Acceptance.{AreZero, asked_on, given_on, statement_given}
use Rattle.air_kit.specs.MainTuples.{main_given}
use Rattle.air_kit.specs.MainValues.{main_values}
use Rattle.air_kit.specs.Places.{Claim, Spot}
use Rattle.air_kit.specs.Tables.{every_table, sum_over, table_number}
use Rattle.air_kit.specs.Traces.{HasCounts, rows_of, spot_of}
use Rattle.air_kit.specs.declared.trace.TableName.{TableName}
use Rattle.air_kit.specs.declared.trace.TableName.TheVariants as table
use Rattle.air_kit.specs.declared.trace.Trace.{Trace}
use Rattle.buses.specs.Counts.{Counted, OfRow, at_row, counted, over_first, over_rows, total, with_next}
use Rattle.buses.specs.declared.bus.Bus.{Bus}
use Rattle.buses.proofs.Counting.{counted-append}
use Rattle.bus_kit.specs.ByBus.{AreCounted, HaveRoom, both_by}
use Rattle.bus_kit.specs.Counting.{FitTogether, summed}
use Rattle.bus_kit.specs.declared.tallies.Tallies.{Tallies}
use Rattle.bus_main.specs.RowTuples.{main_given_at}
use Rattle.facts_main.proofs.BatchFacts.{batch_row}
use Rattle.facts_main.proofs.OpcodeFacts.{main_parts, opcode_bits}
use Rattle.facts_main.proofs.Zeros.{numbers_zero}
use Rattle.vm_table.specs.Layout.{IsTable}
use Rattle.checker.proofs.TableOrder.{number_at, sum_next, table_at, table_below}
use Rattle.checker.specs.Counting.{AreReadable, AreRowsCounted, AreTablesCounted, AreWithin, IsPartCounted, IsRowCounted, IsTableCounted, IsTraceCounted, asked_below, asked_of, given_below, given_of, room_before, room_behind, share_at}
use Rattle.checker.specs.declared.parts.Part.{Part}
use Rattle.pieces.proofs.CutLemmas.{cut_ends, cut_starts}

-- no row
pub none_counted : (c : Claim) (t : Trace) (name : TableName) (i : ℕ) (a : Tallies) → AreRowsCounted c t name i i a a
none_counted c t name i a = record {
  asked_is = λ bus u. refl;
  given_is = λ bus u. refl;
  asked_grows = λ bus u. omega arith;
  given_grows = λ bus u. omega arith;
}

total_more : (n : ℕ) (f : ℕ → ℕ) → total (n + 1) f ≡ total n f + f n
unfolding total
total_more n f = rw add-one refl

over_more : (tuples : OfRow) (rows : List (List ℕ)) (n : ℕ) (u : List ℕ)
    → over_first tuples rows (n + 1) u ≡ over_first tuples rows n u + counted (at_row tuples rows n) u
unfolding over_first
over_more tuples rows n u = total_more n (λ i. counted (at_row tuples rows i) u)

-- one row more
pub one_more_counted : (c : Claim) (t : Trace) (name : TableName) (i n : ℕ) (a b e : Tallies) → i ≤ n
    → AreRowsCounted c t name i n a b → IsRowCounted c t name n b e → AreRowsCounted c t name i (n + 1) a e
one_more_counted c t name i n a b e start p q = record {
  asked_is = λ bus u.
      let before = p.asked_is bus u in
      let row = (q bus).asked_is u in
      let more = over_more (asked_of c bus name) (rows_of t name) n u in
      omega (arith, before, row, more);
  given_is = λ bus u.
      let before = p.given_is bus u in
      let row = (q bus).given_is u in
      let more = over_more (given_of c bus name) (rows_of t name) n u in
      omega (arith, before, row, more);
  asked_grows = λ bus u. let before = p.asked_grows bus u in let row = (q bus).asked_grows u in omega (arith, before, row, start);
  given_grows = λ bus u. let before = p.given_grows bus u in let row = (q bus).given_grows u in omega (arith, before, row, start);
}

number_small : (name : TableName) → table_number name ≤ 6
number_small name = let h = table_below name in omega (arith, h)

-- there is room for one row more
pub room_for_row : (c : Claim) (t : Trace) (name : TableName) (i n : ℕ) (a b : Tallies)
    → AreWithin (room_before name) a → AreRowsCounted c t name i n a b → n ≤ 2 ^ 22 → HaveRoom b
room_for_row c t name i n a b within p few bus u =
    let start = within bus u in
    let number = number_small name in
    let asked = p.asked_grows bus u in
    let given = p.given_grows bus u in
    (omega (arith, start.0, number, asked, few), omega (arith, start.1, number, given, few))

-- and behind the table for the next one
pub room_for_table : (c : Claim) (t : Trace) (name : TableName) (i n : ℕ) (a b : Tallies)
    → AreWithin (room_before name) a → AreRowsCounted c t name i n a b → n ≤ 2 ^ 22 → AreWithin (room_behind name) b
room_for_table c t name i n a b within p few bus u =
    let start = within bus u in
    let asked = p.asked_grows bus u in
    let given = p.given_grows bus u in
    (omega (arith, start.0, few, asked), omega (arith, start.1, few, given))

-- the rows that a table has in some pieces
pub table_counted : (c : Claim) (t : Trace) (part : Part) (name : TableName) (i n : ℕ) (a b : Tallies) → i ≡ share_at t name part.low part.pieces
    → n ≡ share_at t name part.high part.pieces → AreRowsCounted c t name i n a b → IsTableCounted c t part name a b
table_counted c t part name i n a b start end p =
    subst (λ k. AreRowsCounted c t name k (share_at t name part.high part.pieces) a b) start (subst (λ k. AreRowsCounted c t name i k a b) end p)

-- what was counted where there was memory
pub as_option : {E : Type 0} (P : Type 0) (r : Result (Unit {0}) E) (o : Option (Unit {0})) → o ≡ result_ok r → OnOk r P → OnSome o P
as_option P (Ok v) o is h = subst (λ x. OnSome x P) (sym is) h
as_option P (Err e) o is h = subst (λ x. OnSome x P) (sym is) tt

-- what a function of places counted, of another name and place that are the same
pub row_counted : {E : Type 0} (r : Result (Unit {0}) E) (o : Option (Unit {0})) (c d : Claim) (p q : Spot) (old new : Tallies)
    (asked given : Claim → Spot → Bus → List Counted)
    → o ≡ result_ok r → c ≡ d → p ≡ q → OnOk r (AreCounted (2 ^ 66) old new (asked c p) (given c p))
    → OnSome o (AreCounted (2 ^ 66) old new (asked d q) (given d q))
row_counted r o c d p q old new asked given is same there h =
    subst (λ s. OnSome o (AreCounted (2 ^ 66) old new (asked d s) (given d s))) there
    (subst (λ k. OnSome o (AreCounted (2 ^ 66) old new (asked k p) (given k p))) same
    (as_option (AreCounted (2 ^ 66) old new (asked c p) (given c p)) r o is h))

suc_apart : (i : ℕ) → (suc i == 0) ≡ false
suc_apart i =
    elim (suc i == 0) as (λ b. (suc i == 0) ≡ b → b ≡ false)
    [ true ↦ λ e. absurd (let same = eqb-true (suc i) 0 e in omega (arith, same)) | false ↦ λ _. refl ] refl

-- a row of the main table but the first
behind_first : (c : Claim) (bus : Bus) (rows : List (List ℕ)) (i : ℕ) (u : List ℕ)
    → counted (at_row (main_given_at c bus) rows (suc i)) u ≡ counted (at_row (with_next (main_given bus)) rows (suc i)) u
behind_first c bus rows i u = rw (suc_apart i) refl

-- the statement's tuples stand before those of the first row
main_given_first : (c : Claim) (bus : Bus) (rows : List (List ℕ)) (n : ℕ) (u : List ℕ)
    → over_first (main_given_at c bus) rows (suc n) u
    ≡ counted (statement_given bus c) u + over_first (with_next (main_given bus)) rows (suc n) u
unfolding over_first total
main_given_first c bus rows zero u =
    let first = counted-append (statement_given bus c) (at_row (with_next (main_given bus)) rows 0) u in omega (arith, first)
main_given_first c bus rows (suc n) u =
    let before = main_given_first c bus rows n u in let last = behind_first c bus rows n u in omega (arith, before, last)

main_given_rows : (c : Claim) (bus : Bus) (rows : List (List ℕ)) (n : ℕ) (u : List ℕ) → 1 ≤ n
    → over_first (main_given_at c bus) rows n u ≡ counted (statement_given bus c) u + over_first (with_next (main_given bus)) rows n u
main_given_rows c bus rows zero u some = absurd (omega (arith, some))
main_given_rows c bus rows (suc n) u some = main_given_first c bus rows n u

asked_next : (c : Claim) (t : Trace) (bus : Bus) (n j k : ℕ) (u : List ℕ) → n < 7
    → asked_below c t bus (suc n) j k u
    ≡ asked_below c t bus n j k u + over_first (asked_of c bus (table_at n)) (rows_of t (table_at n)) (share_at t (table_at n) j k) u
asked_next c t bus n j k u h = sum_next every_table n (λ name. over_first (asked_of c bus name) (rows_of t name) (share_at t name j k) u) h

given_next : (c : Claim) (t : Trace) (bus : Bus) (n j k : ℕ) (u : List ℕ) → n < 7
    → given_below c t bus (suc n) j k u
    ≡ given_below c t bus n j k u + over_first (given_of c bus (table_at n)) (rows_of t (table_at n)) (share_at t (table_at n) j k) u
given_next c t bus n j k u h = sum_next every_table n (λ name. over_first (given_of c bus name) (rows_of t name) (share_at t name j k) u) h

-- no table
pub no_table_counted : (c : Claim) (t : Trace) (part : Part) (none : Tallies) → ((bus : Bus) (u : List ℕ) → both_by none bus u ≡ (0, 0))
    → AreTablesCounted c t part 0 none
no_table_counted c t part none empty = record {
  asked_is = λ bus u. let a = ap (λ k. k.0) (empty bus u) in omega (arith, a);
  given_is = λ bus u. let g = ap (λ k. k.1) (empty bus u) in omega (arith, g);
  within = λ bus u. let a = ap (λ k. k.0) (empty bus u) in let g = ap (λ k. k.1) (empty bus u) in (omega (arith, a), omega (arith, g));
}

-- there is room for one table more, and it was counted
pub room_at : (n : ℕ) (a : Tallies) → n < 7 → AreWithin (n * 2 ^ 90) a → AreWithin (room_before (table_at n)) a
room_at n a h within = subst (λ (k : ℕ). AreWithin (k * 2 ^ 90) a) (sym (number_at n h)) within

pub room_next : (n : ℕ) (a : Tallies) → n < 7 → AreWithin (room_behind (table_at n)) a → AreWithin ((n + 1) * 2 ^ 90) a
room_next n a h within = rw add-one (subst (λ (k : ℕ). AreWithin (suc k * 2 ^ 90) a) (number_at n h) within)

pub one_table_more : (c : Claim) (t : Trace) (part : Part) (n : ℕ) (a b : Tallies) → n < 7 → AreTablesCounted c t part n a
    → IsTableCounted c t part (table_at n) a b → AreWithin (room_behind (table_at n)) b → AreTablesCounted c t part (n + 1) b
one_table_more c t part n a b h before p within = rw add-one (record {
  asked_is = λ bus u.
      let so_far = before.asked_is bus u in
      let table = p.asked_is bus u in
      let first = asked_next c t bus n part.low part.pieces u h in
      let last = asked_next c t bus n part.high part.pieces u h in
      omega (arith, so_far, table, first, last);
  given_is = λ bus u.
      let so_far = before.given_is bus u in
      let table = p.given_is bus u in
      let first = given_next c t bus n part.low part.pieces u h in
      let last = given_next c t bus n part.high part.pieces u h in
      omega (arith, so_far, table, first, last);
  within = subst (λ (k : ℕ). AreWithin (suc k * 2 ^ 90) b) (number_at n h) within;
})

-- all tables
pub part_counted : (c : Claim) (t : Trace) (part : Part) (tallies : Tallies) → AreTablesCounted c t part 7 tallies → IsPartCounted c t part tallies
part_counted c t part tallies all = record {
  asked_is = all.asked_is;
  given_is = all.given_is;
  within = λ bus u. let some = part.some in let h = all.within bus u in (omega (arith, some, h.0), omega (arith, some, h.1));
}

-- there is room for the sums of two halves
pub halves_fit : (c : Claim) (t : Trace) (part lower upper : Part) (x y : Tallies) → lower.low ≡ part.low → lower.high ≡ upper.low → upper.high ≡ part.high
    → IsPartCounted c t lower x → IsPartCounted c t upper y → (bus : Bus) (u : List ℕ) → FitTogether (both_by x bus u) (both_by y bus u)
halves_fit c t part lower upper x y low middle high p q bus u =
    let a = p.within bus u in
    let b = q.within bus u in
    let few : part.high ≤ 64 = let most = part.most in let within = part.within in omega (arith, most, within) in
    let first = lower.some in
    let second = upper.some in
    (omega (arith, a.0, b.0, few, low, middle, high, first, second), omega (arith, a.1, b.1, few, low, middle, high, first, second))

-- two halves, in one
pub halves_counted : (c : Claim) (t : Trace) (part lower upper : Part) (x y z : Tallies) → (lower.pieces ≡ part.pieces) × (upper.pieces ≡ part.pieces)
    → lower.low ≡ part.low → lower.high ≡ upper.low → upper.high ≡ part.high → IsPartCounted c t lower x → IsPartCounted c t upper y
    → ((bus : Bus) (u : List ℕ) → both_by z bus u ≡ summed (both_by x bus u) (both_by y bus u)) → IsPartCounted c t part z
halves_counted c t part lower upper x y z pieces low middle high p q sums = record {
  asked_is = λ bus u.
      let sum = ap (λ k. k.0) (sums bus u) in
      let starts = ap₂ (λ j k. asked_below c t bus 7 j k u) low pieces.0 in
      let meet = ap₂ (λ j k. asked_below c t bus 7 j k u) middle (pieces.0 ∙ sym pieces.1) in
      let ends = ap₂ (λ j k. asked_below c t bus 7 j k u) high pieces.1 in
      let first = p.asked_is bus u in
      let second = q.asked_is bus u in
      omega (arith, sum, starts, meet, ends, first, second);
  given_is = λ bus u.
      let sum = ap (λ k. k.1) (sums bus u) in
      let starts = ap₂ (λ j k. given_below c t bus 7 j k u) low pieces.0 in
      let meet = ap₂ (λ j k. given_below c t bus 7 j k u) middle (pieces.0 ∙ sym pieces.1) in
      let ends = ap₂ (λ j k. given_below c t bus 7 j k u) high pieces.1 in
      let first = p.given_is bus u in
      let second = q.given_is bus u in
      omega (arith, sum, starts, meet, ends, first, second);
  within = λ bus u.
      let sum_asked = ap (λ k. k.0) (sums bus u) in
      let sum_given = ap (λ k. k.1) (sums bus u) in
      let a = p.within bus u in
      let b = q.within bus u in
      let first = lower.some in
      let second = upper.some in (
        omega (arith, sum_asked, a.0, b.0, low, middle, high, first, second),
        omega (arith, sum_given, a.1, b.1, low, middle, high, first, second),
      );
}

sum_same : (names : List TableName) (f g : TableName → ℕ) → ((name : TableName) → f name ≡ g name) → sum_over names f ≡ sum_over names g
sum_same [] f g same = refl
sum_same (name ∷ names) f g same = ap₂ ◌+◌ (same name) (sum_same names f g same)

over_none : (tuples : OfRow) (rows : List (List ℕ)) (u : List ℕ) → over_first tuples rows 0 u ≡ 0
unfolding over_first total
over_none tuples rows u = refl

-- no row stands in front of the first share
none_below : (t : Trace) (tuples : TableName → OfRow) (k : ℕ) (u : List ℕ) → 0 < k
    → sum_over every_table (λ name. over_first (tuples name) (rows_of t name) (share_at t name 0 k) u) ≡ 0
none_below t tuples k u some =
    sum_same every_table (λ name. over_first (tuples name) (rows_of t name) (share_at t name 0 k) u) (λ name. 0)
    (λ name. ap (λ n. over_first (tuples name) (rows_of t name) n u) (cut_starts (length (rows_of t name)) k some)
    ∙ over_none (tuples name) (rows_of t name) u)

-- and all behind the last one
all_below : (t : Trace) (tuples : TableName → OfRow) (k : ℕ) (u : List ℕ) → 0 < k
    → sum_over every_table (λ name. over_first (tuples name) (rows_of t name) (share_at t name k k) u)
    ≡ sum_over every_table (λ name. over_rows (tuples name) (rows_of t name) u)
all_below t tuples k u some =
    sum_same every_table (λ name. over_first (tuples name) (rows_of t name) (share_at t name k k) u)
    (λ name. over_rows (tuples name) (rows_of t name) u)
    (λ name. ap (λ n. over_first (tuples name) (rows_of t name) n u) (cut_ends (length (rows_of t name)) k some))

-- all pieces
pub trace_counted : (c : Claim) (t : Trace) (all : Part) (pieces : ℕ) (tallies : Tallies) → HasCounts t → all.pieces ≡ pieces → all.low ≡ 0
    → all.high ≡ pieces → IsPartCounted c t all tallies → IsTraceCounted c t tallies
unfolding asked_on given_on
trace_counted c t all pieces tallies counts is low high p =
    let some : 0 < all.pieces = let h = all.some in let within = all.within in omega (arith, h, within) in record {
      asked = λ bus u.
          let rows = p.asked_is bus u in
          let none = ap (λ j. asked_below c t bus 7 j all.pieces u) low ∙ none_below t (asked_of c bus) all.pieces u some in
          let whole = ap (λ j. asked_below c t bus 7 j all.pieces u) (high ∙ sym is) ∙ all_below t (asked_of c bus) all.pieces u some in
          omega (arith, rows, none, whole);
      given = λ bus u.
          let rows = p.given_is bus u in
          let none = ap (λ j. given_below c t bus 7 j all.pieces u) low ∙ none_below t (given_of c bus) all.pieces u some in
          let whole = ap (λ j. given_below c t bus 7 j all.pieces u) (high ∙ sym is) ∙ all_below t (given_of c bus) all.pieces u some in
          let statement = main_given_rows c bus t.main (length t.main) u (counts table.Main).least in
          omega (arith, rows, none, whole, statement);
    }

-- the same where memory may have been refused
pub if_all_counted : (c : Claim) (t : Trace) (all : Part) (pieces : ℕ) (r : Option Tallies) → HasCounts t → all.pieces ≡ pieces → all.low ≡ 0
    → all.high ≡ pieces → IfSome r (IsPartCounted c t all) → IfSome r (IsTraceCounted c t)
if_all_counted c t all pieces None counts is low high p = tt
if_all_counted c t all pieces (Some tallies) counts is low high p = trace_counted c t all pieces tallies counts is low high p

-- what was ensured where nothing was refused
pub ok_given : {E : Type 0} (r : Result (Unit {0}) E) (o : Option (Unit {0})) (v : Unit {0}) (P : Type 0) → o ≡ result_ok r → o ≡ Some v → OnOk r P → P
ok_given (Ok x) o v P e f h = h
ok_given (Err x) o v P e f h = absurd (cc)

-- the row behind one that can be read can be read
pub next_bits : {V : Type 0} (cells : V → List ℕ) (rows : List (List ℕ)) (i : ℕ) (next : Option V) → option_map cells next ≡ slice_get rows (suc i)
    → AreReadable rows → IfSome next (λ y. HasBits (cells y))
next_bits cells rows i None is readable = tt
next_bits cells rows i (Some y) is readable =
    let within = slice_get_within rows (suc i) (cells y) (sym is) in
    subst HasBits (get_or_from_slice_get rows (suc i) (cells y) [] (sym is)) (readable (suc i) within).bits

-- where nothing was counted there is room
pub room_at_start : (none : Tallies) → ((bus : Bus) (u : List ℕ) → both_by none bus u ≡ (0, 0)) → HaveRoom none
room_at_start none empty bus u =
    let a = ap (λ k. k.0) (empty bus u) in let g = ap (λ k. k.1) (empty bus u) in (omega (arith, a), omega (arith, g))

pub none_within : (none : Tallies) → ((bus : Bus) (u : List ℕ) → both_by none bus u ≡ (0, 0)) → AreWithin 0 none
none_within none empty bus u =
    let a = ap (λ k. k.0) (empty bus u) in let g = ap (λ k. k.1) (empty bus u) in (omega (arith, a), omega (arith, g))

-- a row that is counted under the table's name
pub row_named : (o : Option (Unit {0})) (c : Claim) (t : Trace) (name other : TableName) (i : ℕ) (old new : Tallies)
    → name ≡ other → OnSome o (IsRowCounted c t other i old new) → OnSome o (IsRowCounted c t name i old new)
row_named o c t name other i old new same h = subst (λ n. OnSome o (IsRowCounted c t n i old new)) (sym same) h

-- the main table's rows can be read where all entries are 0
pub all_readable : (c : Claim) (t : Trace) → IsTable 65 t.main → AreZero c t → AreReadable t.main
all_readable c t shape none i within =
    let zeros = numbers_zero (main_values c (spot_of t.main i)) (λ number. none table.Main i number within) in
    let low = shape.below i in
    record {
      bits = opcode_bits (spot_of t.main i) low (main_parts c (spot_of t.main i) zeros).opcode;
      batch = λ is. (batch_row c (spot_of t.main i) low zeros is).room;
    }
