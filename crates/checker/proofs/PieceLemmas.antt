-- Rows of all tables by number, and pieces of them put together.
use Rattle.std.proofs.Common.{◌≡◌, ℕ, zero, suc, ◌+◌, ◌-◌, ◌*◌, ◌/◌, ◌<◌, ◌≤◌, length, min, Option, Some, None, refl, sym, ap, ap₂, subst, ◌∙◌, arith, inl, inr, lit<}
use Rattle.std.specs.Option.{option_or}
use Rattle.std.proofs.Math.Nat.{div-div-eq-div-mul, mul_assoc, mul-div_cancel_left}
use Rattle.std.proofs.lemmas.Bool.{cases_lt}
use Rattle.pieces.specs.Cuts.{cut_at}
use Rattle.pieces.proofs.CutLemmas.{cut_ends, cut_grows, cut_starts}
use Rattle.checker.specs.declared.parts.Part.{Part}
use Rattle.air_kit.specs.declared.trace.TableName.{TableName}
use Rattle.air_kit.specs.declared.trace.Trace.{Trace}
use Rattle.air_kit.specs.declared.fault.Fault.{Fault}
use Rattle.air_kit.specs.Acceptance.{IsRowsAnswer}
use Rattle.air_kit.specs.Places.{Claim}
use Rattle.air_kit.specs.Tables.{every_table, table_number}
use Rattle.air_kit.specs.Traces.{rows_of}
use Rattle.checker.specs.Answers.{IsPartAnswer, IsPieceAnswer}
use Rattle.checker.specs.Pieces.{all_rows, ends_at, number_of, rows_before, rows_below, starts_at}
use Rattle.checker.proofs.TableOrder.{at_own_number, sum_next, table_at, table_below}

-- no table has no rows
pub before_none : (t : Trace) → rows_before t 0 ≡ 0
unfolding rows_before
before_none t = refl

-- one table more
pub before_next : (t : Trace) (n : ℕ) → n < 7 → rows_before t (suc n) ≡ rows_before t n + length (rows_of t (table_at n))
unfolding rows_before
before_next t n h = sum_next every_table n (λ name. length (rows_of t name)) h

-- the rows before the table after this one
pub rows_behind : (t : Trace) (name : TableName) → rows_before t (suc (table_number name)) ≡ rows_before t (table_number name) + length (rows_of t name)
rows_behind t name =
    before_next t (table_number name) (table_below name)
    ∙ ap (λ n. rows_before t (table_number name) + length (rows_of t n)) (at_own_number name)

before_more : (t : Trace) (m k : ℕ) → m + k ≤ 7 → rows_before t m ≤ rows_before t (m + k)
before_more t m zero few = let e : m + 0 ≡ m = omega arith in rw e (omega arith)
before_more t m (suc k) few =
    let before = before_more t m k (omega (arith, few)) in
    let more = before_next t (m + k) (omega (arith, few)) in
    let e : m + suc k ≡ suc (m + k) = omega arith in
    rw e (omega (arith, before, more))

before_grows : (t : Trace) (m n : ℕ) → m ≤ n → n ≤ 7 → rows_before t m ≤ rows_before t n
before_grows t m n h few =
    let e : m + (n - m) ≡ n = omega (arith, h) in
    subst (λ k. rows_before t m ≤ rows_before t k) e (before_more t m (n - m) (omega (arith, h, few)))

-- a row of a lower table has a lower number
pub lower_table : (t : Trace) (name other : TableName) (row at : ℕ) → table_number name < table_number other → row < length (rows_of t name)
    → number_of t name row < number_of t other at
lower_table t name other row at h within =
    let behind = rows_behind t name in
    let few = table_below other in
    let grows = before_grows t (suc (table_number name)) (table_number other) (omega (arith, h)) (omega (arith, few)) in
    omega (arith, behind, grows, within)

-- the rows of a table are all among those of all tables
pub rows_within : (t : Trace) (name : TableName) → rows_before t (table_number name) + length (rows_of t name) ≤ all_rows t
rows_within t name =
    let behind = rows_behind t name in
    let few = table_below name in
    let grows = before_grows t (suc (table_number name)) 7 (omega (arith, few)) (omega arith) in
    omega (arith, behind, grows)

-- how many rows of a table there are below a number, for what is equal to these
pub below_is : (t : Trace) (name : TableName) (n m before rows : ℕ) → n ≡ m → before ≡ rows_before t (table_number name) → rows ≡ length (rows_of t name)
    → min (n - before) rows ≡ rows_below t name m
unfolding rows_below
below_is t name n m before rows e b r = rw (e, b, r) refl

-- as many or more below a number that is not less
below_grows : (t : Trace) (name : TableName) (a b : ℕ) → a ≤ b → rows_below t name a ≤ rows_below t name b
unfolding rows_below
below_grows t name a b h = omega (arith, h)

-- a row of a table is among them exactly where its number is below
pub row_at_least : (t : Trace) (name : TableName) (row a : ℕ) → a ≤ number_of t name row → rows_below t name a ≤ row
unfolding rows_below
row_at_least t name row a h = omega (arith, h)

pub row_below : (t : Trace) (name : TableName) (row b : ℕ) → row < length (rows_of t name) → number_of t name row < b → row < rows_below t name b
unfolding rows_below
row_below t name row b within h = omega (arith, within, h)

pub number_at_least : (t : Trace) (name : TableName) (row a : ℕ) → row < length (rows_of t name) → rows_below t name a ≤ row → a ≤ number_of t name row
unfolding rows_below
number_at_least t name row a within h = omega (arith, within, h)

pub number_below : (t : Trace) (name : TableName) (row b : ℕ) → row < rows_below t name b → (row < length (rows_of t name)) × (number_of t name row < b)
unfolding rows_below
number_below t name row b h = (omega (arith, h), omega (arith, h))

-- some pieces end where they begin, or behind
pub part_grows : (t : Trace) (part : Part) → starts_at t part ≤ ends_at t part
part_grows t part =
    cut_grows part.low part.high (all_rows t) part.pieces (let some = part.some in omega (arith, some))
    (let some = part.some in let within = part.within in omega (arith, some, within))

-- and so do their rows of a table
pub table_grows : (t : Trace) (name : TableName) (part : Part) → rows_below t name (starts_at t part) ≤ rows_below t name (ends_at t part)
table_grows t name part = below_grows t name (starts_at t part) (ends_at t part) (part_grows t part)

-- all pieces begin with the first row
pub all_start : (t : Trace) (all : Part) (pieces : ℕ) → all.pieces ≡ pieces → all.low ≡ 0 → all.high ≡ pieces → starts_at t all ≡ 0
all_start t all pieces is low high =
    ap (λ x. cut_at x (all_rows t) all.pieces) low
    ∙ cut_starts (all_rows t) all.pieces (let some = all.some in let within = all.within in omega (arith, some, within))

-- and end behind the last one
pub all_end : (t : Trace) (all : Part) (pieces : ℕ) → all.pieces ≡ pieces → all.low ≡ 0 → all.high ≡ pieces → ends_at t all ≡ all_rows t
all_end t all pieces is low high =
    ap (λ x. cut_at x (all_rows t) all.pieces) (high ∙ sym is)
    ∙ cut_ends (all_rows t) all.pieces (let some = all.some in let within = all.within in omega (arith, some, within))

-- the answers of two pieces, one behind the other
pieces_joined : (c : Claim) (t : Trace) (a m b : ℕ) (r s : Option Fault) → a ≤ m → m ≤ b → IsPieceAnswer c t a m r → IsPieceAnswer c t m b s
    → IsPieceAnswer c t a b (option_or r s)
pieces_joined c t a m b None None low high first second = λ name row within from to number. elim (cases_lt (number_of t name row) m) [
  | inl below ↦ first name row within from below number
  | inr above ↦ second name row within above to number
]
pieces_joined c t a m b None (Some f) low high first second = record {
  within = second.within;
  value_is = second.value_is;
  nonzero = second.nonzero;
  from = let h = second.from in omega (arith, h, low);
  to = second.to;
  first = λ name row number within from before. elim (cases_lt (number_of t name row) m) [
    | inl below ↦ first name row within from below number
    | inr above ↦ second.first name row number within above before
  ];
}
pieces_joined c t a m b (Some f) s low high first second = record {
  within = first.within;
  value_is = first.value_is;
  nonzero = first.nonzero;
  from = first.from;
  to = let h = first.to in omega (arith, h, high);
  first = first.first;
}

-- the first half begins where the whole does
pub starts_same : (t : Trace) (part lower : Part) → lower.pieces ≡ part.pieces → lower.low ≡ part.low → starts_at t lower ≡ starts_at t part
starts_same t part lower pieces low = ap₂ (λ x k. cut_at x (all_rows t) k) low pieces

-- the second one where the first ends
pub halves_meet : (t : Trace) (lower upper : Part) → lower.pieces ≡ upper.pieces → lower.high ≡ upper.low → ends_at t lower ≡ starts_at t upper
halves_meet t lower upper pieces middle = ap₂ (λ x k. cut_at x (all_rows t) k) middle pieces

-- and it ends where the whole does
pub ends_same : (t : Trace) (part upper : Part) → upper.pieces ≡ part.pieces → upper.high ≡ part.high → ends_at t upper ≡ ends_at t part
ends_same t part upper pieces high = ap₂ (λ x k. cut_at x (all_rows t) k) high pieces

-- the answers of two halves
pub halves_answered : (c : Claim) (t : Trace) (part lower upper : Part) (r s : Option Fault) → (lower.pieces ≡ part.pieces) × (upper.pieces ≡ part.pieces)
    → lower.low ≡ part.low → lower.high ≡ upper.low → upper.high ≡ part.high → IsPartAnswer c t lower r → IsPartAnswer c t upper s
    → IsPartAnswer c t part (option_or r s)
halves_answered c t part lower upper r s pieces low middle high first second =
    let starts = starts_same t part lower pieces.0 low in
    let meet = halves_meet t lower upper (pieces.0 ∙ sym pieces.1) middle in
    let ends = ends_same t part upper pieces.1 high in
    pieces_joined c t (starts_at t part) (starts_at t upper) (ends_at t part) r s
    (subst (λ k. k ≤ starts_at t upper) starts (subst (λ k. starts_at t lower ≤ k) meet (part_grows t lower)))
    (subst (λ k. starts_at t upper ≤ k) ends (part_grows t upper))
    (subst (λ k. IsPieceAnswer c t k (starts_at t upper) r) starts (subst (λ k. IsPieceAnswer c t (starts_at t lower) k r) meet first))
    (subst (λ k. IsPieceAnswer c t (starts_at t upper) k s) ends second)

-- twice as many pieces begin where these do
cut_doubled : (j n k : ℕ) → cut_at (2 * j) n (2 * k) ≡ cut_at j n k
unfolding cut_at
cut_doubled j n k =
    sym (div-div-eq-div-mul (2 * j * n) 2 k)
    ∙ ap (λ x. x / k) (ap (λ y. y / 2) (mul_assoc 2 j n) ∙ mul-div_cancel_left (j * n) (lit< tt))

-- what is answered of them is answered of these
pub doubled_answered : (c : Claim) (t : Trace) (part doubled : Part) (r : Option Fault) → doubled.pieces ≡ 2 * part.pieces → doubled.low ≡ 2 * part.low
    → doubled.high ≡ 2 * part.high → IsPartAnswer c t doubled r → IsPartAnswer c t part r
doubled_answered c t part doubled r pieces low high h =
    let start : starts_at t doubled ≡ starts_at t part = ap₂ (λ x k. cut_at x (all_rows t) k) low pieces ∙ cut_doubled part.low (all_rows t) part.pieces in
    let end : ends_at t doubled ≡ ends_at t part = ap₂ (λ x k. cut_at x (all_rows t) k) high pieces ∙ cut_doubled part.high (all_rows t) part.pieces in
    subst (λ k. IsPieceAnswer c t k (ends_at t part) r) start (subst (λ k. IsPieceAnswer c t (starts_at t doubled) k r) end h)

-- what is answered of a piece of all rows
pub all_answered : (c : Claim) (t : Trace) (all : Part) (pieces : ℕ) (r : Option Fault) → all.pieces ≡ pieces → all.low ≡ 0 → all.high ≡ pieces
    → IsPartAnswer c t all r → IsRowsAnswer c t r
all_answered c t all pieces None is low high zeros =
    λ name row number within. zeros name row within (let start = all_start t all pieces is low high in omega (arith, start))
    (let end = all_end t all pieces is low high in let whole = rows_within t name in omega (arith, end, whole, within)) number
all_answered c t all pieces (Some f) is low high fault = record {
  within = fault.within;
  value_is = fault.value_is;
  nonzero = fault.nonzero;
  first = λ name row number within before.
      fault.first name row number within (let start = all_start t all pieces is low high in omega (arith, start)) before;
}
