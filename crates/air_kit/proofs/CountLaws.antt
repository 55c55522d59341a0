-- What the test of a number of rows says.
use Rattle.std.proofs.Common.{◌≡◌, ℕ, ◌+◌, ◌<◌, ◌%◌, ◌↔◌, true, IsTrue, ◌==◌, ◌&&◌, nat_le, length, slice_index_or, refl, subst, arith, lit<, inl, inr, eq-eqb}
use Rattle.std.proofs.lemmas.Bool.{and_parts, cases_lt, leb-true, le-leb, eqb-true}
use Rattle.air_kit.specs.Traces.{HasCounts, IsCount, least_rows, most_rows, rows_at_once, rows_of}
use Rattle.air_kit.specs.Tables.{every_table}
use Rattle.air_kit.specs.declared.trace.Trace.{Trace}
use Rattle.air_kit.specs.declared.trace.TableName.TheVariants as table
use Rattle.air_kit.specs.Counts.{may_have}
use Rattle.air_kit.specs.declared.trace.TableName.{TableName}

pub is_count : (name : TableName) (n : ℕ) → may_have name n ≡ true → IsCount name n
unfolding may_have
is_count name n h =
    let last = and_parts (nat_le (least_rows name) n && nat_le n (most_rows name)) (n % rows_at_once name == 0) h in
    let both = and_parts (nat_le (least_rows name) n) (nat_le n (most_rows name)) last.0 in
    record {
      least = leb-true (least_rows name) n both.0;
      most = leb-true n (most_rows name) both.1;
      whole = eqb-true (n % rows_at_once name) 0 last.1;
    }

pub may_have_if : (name : TableName) (n : ℕ) → IsCount name n → may_have name n ≡ true
unfolding may_have
may_have_if name n is =
    rw (le-leb (least_rows name) n is.least, le-leb n (most_rows name) is.most, eq-eqb (n % rows_at_once name) 0 is.whole) refl

-- a table may have so many rows exactly where the test says so
pub count_law : (name : TableName) (n : ℕ) → IsTrue (may_have name n) ↔ IsCount name n
count_law name n = (is_count name n, may_have_if name n)

-- the table of this number has as many rows as it may
abbrev pub IsCounted : Trace → ℕ → Type 0
IsCounted t k = IsCount (slice_index_or every_table k table.Main) (length (rows_of t (slice_index_or every_table k table.Main)))

-- so they all have where each number's has
pub all_counted : (t : Trace) → ((k : ℕ) → k < 7 → IsCounted t k) → HasCounts t
all_counted t each table.Main = each 0 (lit< tt)
all_counted t each table.Range = each 1 (lit< tt)
all_counted t each table.Hasher = each 2 (lit< tt)
all_counted t each table.Bitwise = each 3 (lit< tt)
all_counted t each table.Memory = each 4 (lit< tt)
all_counted t each table.Kernel = each 5 (lit< tt)
all_counted t each table.Left = each 6 (lit< tt)

-- one more
pub counted_next : (t : Trace) (n : ℕ) → ((k : ℕ) → k < n → IsCounted t k) → IsCounted t n → (k : ℕ) → k < n + 1 → IsCounted t k
counted_next t n before here k h =
    elim (cases_lt k n) [ inl low ↦ before k low | inr high ↦ subst (IsCounted t) (let same : n ≡ k = omega (arith, h, high) in same) here ]
