-- A bitwise table whose entries are 0 has the rows of the operations that it shows, and these are on numbers of 32 bits.
use Rattle.std.proofs.Common.{List, [], ap, ap₂, arith, length, lit<, nat_lt, refl, shr-shr, slice_get, subst, suc, true, zero, ℕ, ◌%◌, ◌*◌, ◌+◌, ◌/◌, ◌<◌, ◌==◌, ◌^◌, ◌∙◌, ◌∷◌, ◌≡◌, ◌≤◌}
use Rattle.std.proofs.Math.Pow.{pow_mono}
use Rattle.std.proofs.lemmas.Bool.{lt-ltb}
use Rattle.std.proofs.lemmas.List.Elements.{All-cons, All-nil}
use Rattle.std.proofs.lemmas.Option.{slice_get-get_or}
use Rattle.vm_table.specs.Layout.{IsTable, row_at}
use Rattle.chip_columns.specs.BitwiseColumns.{op, a, b}
use Rattle.air_kit.specs.BitwiseValues.{bitwise_values, bitwise_values_by}
use Rattle.facts_hasher.proofs.BlockLemmas.{AllZero, ZeroFrom, eight_same, table_rest, zero_from, zero_rest}
use Rattle.facts_hasher.proofs.Totals.{eight}
use Rattle.facts_bitwise.specs.BitRows.{bit_row, row_without, rows_before, rows_of_bits, bit_op_of, ops_in}
use Rattle.facts_bitwise.specs.BitTables.{HasWords, AreOpRows, BitwiseIsZero}
use Rattle.facts_bitwise.proofs.EightRows.{values_at}
use Rattle.facts_bitwise.proofs.RowLemmas.{HasRowBits}
use Rattle.facts_bitwise.proofs.ZeroLemmas.{IsNextRow, ShowsBits, first_shows, goes_on, has_bits}

-- ---- a row before others of its eight, whose last one is known

record IsBefore (n : ℕ) (last row : List ℕ) : Type 0 where
  kind_same : op row ≡ op last
  first_is : a row ≡ a last / 2 ^ n
  second_is : b row ≡ b last / 2 ^ n

itself : (row : List ℕ) → IsBefore 0 row row
itself row = record { kind_same = refl; first_is = omega arith; second_is = omega arith }

one_behind : (n k : ℕ) (row cur next : List ℕ) → IsBefore n cur row → IsNextRow k cur next → IsBefore (4 + n) next row
one_behind n k row cur next h g = record {
  kind_same = h.kind_same ∙ g.kind_same;
  first_is = h.first_is ∙ ap (λ m. m / 2 ^ n) g.first_is ∙ shr-shr (a next) 4 n;
  second_is = h.second_is ∙ ap (λ m. m / 2 ^ n) g.second_is ∙ shr-shr (b next) 4 n;
}

before_is : (n k : ℕ) (last row : List ℕ) → ShowsBits k row → IsBefore n last row → row ≡ row_without n (bit_op_of last)
unfolding row_without bit_op_of
before_is n k last row s h =
    s.row_is ∙ ap (λ o. bit_row (o == 1) (a row) (b row)) h.kind_same ∙ ap₂ (bit_row (op last == 1)) h.first_is h.second_is

-- ---- eight rows

-- how many bits the numbers of the row at a place have
abbrev width : ℕ → ℕ
width zero = 4
width (suc k) = width k + 4

width-is : (k : ℕ) → width k ≡ 4 * k + 4
width-is zero = refl
width-is (suc k) = let e = width-is k in omega (arith, e)

room : (k : ℕ) → k ≤ 28 → 2 ^ k ≤ 2 ^ 28
room k h = pow_mono h

-- the place so many rows behind, and how many bits more the numbers have there
abbrev behind : ℕ → ℕ → ℕ
behind k zero = k
behind k (suc d) = suc (behind k d)

abbrev fewer : ℕ → ℕ
fewer zero = 0
fewer (suc d) = 4 + fewer d

record EightShow (last : List ℕ) (eight_rows : List (List ℕ) → List (List ℕ)) : Type 0 where
  rows_are : (rows : List (List ℕ)) → eight_rows rows ≡ rows_before (bit_op_of last) rows
  words : HasWords (bit_op_of last)

module _ (i : ℕ) (start : i % 8 ≡ 0) (all : List (List ℕ)) (enough : 8 ≤ length all) (t : IsTable 12 all) (z : ZeroFrom bitwise_values i all) where
  zeros : (k : ℕ) → k < 8 → AllZero (bitwise_values_by (k == 0) (nat_lt k 7) (row_at all k) (slice_get all (suc k)))
  zeros k h = subst AllZero (values_at i k (row_at all k) (slice_get all (suc k)) start h) (z.at k (omega arith))

  bits_at : (k : ℕ) → k < 8 → HasRowBits (row_at all k)
  bits_at k h = has_bits (k == 0) (nat_lt k 7) (row_at all k) (slice_get all (suc k)) (t.below k) (zeros k h)

  next_row : (k : ℕ) → k < 7 → ShowsBits (width k) (row_at all k) → IsNextRow (width k) (row_at all k) (row_at all (suc k))
  next_row k h s =
      goes_on (width k) (k == 0) (row_at all k) (row_at all (suc k)) (room (width k) (let e = width-is k in omega (arith, e, h)))
      (t.wide (suc k) (omega arith)) (t.below (suc k)) (bits_at (suc k) (omega (arith, h))) s
      (subst AllZero
      (ap₂ (λ inside next. bitwise_values_by (k == 0) inside (row_at all k) next) (lt-ltb k 7 h) (slice_get-get_or all (suc k) [] (omega arith)))
      (zeros k (omega (arith, h))))

  shows : (k : ℕ) → k < 8 → ShowsBits (width k) (row_at all k)
  shows zero h = first_shows true (row_at all 0) (slice_get all 1) (t.wide 0 (omega arith)) (t.below 0) (zeros 0 (lit< tt))
  shows (suc k) h = (next_row k (omega (arith, h)) (shows k (omega (arith, h)))).shows

  before : (k d : ℕ) → behind k d < 8 → IsBefore (fewer d) (row_at all (behind k d)) (row_at all k)
  before k zero h = itself (row_at all k)
  before k (suc d) h =
      one_behind (fewer d) (width (behind k d)) (row_at all k) (row_at all (behind k d)) (row_at all (suc (behind k d)))
      (before k d (omega (arith, h))) (next_row (behind k d) (omega (arith, h)) (shows (behind k d) (omega (arith, h))))

  is_row : (k d : ℕ) → k < 8 → behind k d < 8 → row_at all k ≡ row_without (fewer d) (bit_op_of (row_at all (behind k d)))
  is_row k d h last = before_is (fewer d) (width k) (row_at all (behind k d)) (row_at all k) (shows k h) (before k d last)

  eight_show : EightShow (row_at all 7) (λ rows. row_at all 0 ∷ row_at all 1 ∷ row_at all 2 ∷ row_at all 3 ∷ row_at all 4 ∷ row_at all 5
      ∷ row_at all 6 ∷ row_at all 7 ∷ rows)
  unfolding rows_before bit_op_of
  eight_show = record {
    rows_are = λ rows.
        eight_same (is_row 0 7 (lit< tt) (lit< tt)) (is_row 1 6 (lit< tt) (lit< tt)) (is_row 2 5 (lit< tt) (lit< tt))
        (is_row 3 4 (lit< tt) (lit< tt)) (is_row 4 3 (lit< tt) (lit< tt)) (is_row 5 2 (lit< tt) (lit< tt)) (is_row 6 1 (lit< tt) (lit< tt))
        (shows 7 (lit< tt)).row_is refl;
    words = ((shows 7 (lit< tt)).first, (shows 7 (lit< tt)).second);
  }

-- ---- the whole table

from_numbers : (i : ℕ) (rows : List (List ℕ)) → i % 8 ≡ 0 → length rows % 8 ≡ 0 → IsTable 12 rows → ZeroFrom bitwise_values i rows → AreOpRows rows
unfolding rows_of_bits ops_in
from_numbers i [] start whole t z = record { words = All-nil HasWords; rows_are = refl }
from_numbers i (r0 ∷ r1 ∷ r2 ∷ r3 ∷ r4 ∷ r5 ∷ r6 ∷ r7 ∷ rows) start whole t z =
    let show = eight_show i start (r0 ∷ r1 ∷ r2 ∷ r3 ∷ r4 ∷ r5 ∷ r6 ∷ r7 ∷ rows) (omega arith) t z in
    let are = from_numbers (eight i) rows (omega (arith, start)) (omega (arith, whole)) (table_rest t) (zero_rest z) in
    record {
      words = All-cons HasWords (bit_op_of r7) (ops_in rows) show.words are.words;
      rows_are = show.rows_are rows ∙ ap (rows_before (bit_op_of r7)) are.rows_are;
    }
from_numbers i _ start whole t z = absurd (omega arith)

pub zeros_are_rows : (rows : List (List ℕ)) → BitwiseIsZero rows → AreOpRows rows
zeros_are_rows rows z = from_numbers 0 rows refl z.whole z.table (zero_from bitwise_values rows z.zero)
