-- The rows of operations on numbers of 32 bits have all entries 0, and show these operations again.
use Rattle.std.proofs.Common.{Bool, List, Option, Some, [], ap₂, arith, false, length, lit<, nat_lt, refl, shr-shr, slice_get, subst, sym, true, ℕ, ◌%◌, ◌*◌, ◌+◌, ◌/◌, ◌<◌, ◌==◌, ◌^◌, ◌∷◌, ◌≡◌}
use Rattle.std.proofs.lemmas.List.Elements.{All-head, All-tail}
use Rattle.std.proofs.lemmas.Nat.{shr_le}
use Rattle.vm_field.specs.Field.{prime}
use Rattle.vm_table.specs.Layout.{IsTable}
use Rattle.air_kit.specs.declared.requests.BitOp.{BitOp}
use Rattle.air_kit.specs.BitwiseValues.{bitwise_values, bitwise_values_by}
use Rattle.facts_hasher.proofs.BlockLemmas.{AllZero, ZeroFrom, each_at, eight_cases, no_values, none_from, table_cons, table_none, value_then, zero_all, zero_eight}
use Rattle.facts_hasher.proofs.RowLemmas.{CellsBelow, bit_again}
use Rattle.facts_hasher.proofs.RowsAreZero.{bit_below}
use Rattle.facts_hasher.proofs.Totals.{eight}
use Rattle.facts_bitwise.specs.BitRows.{bit_row, row_without, rows_before, rows_of_bits, bit_op_of, ops_in}
use Rattle.facts_bitwise.specs.BitTables.{HasWords, HaveWords, BitwiseIsZero}
use Rattle.facts_bitwise.proofs.EightRows.{values_at}
use Rattle.facts_bitwise.proofs.Nibbles.{bitwise-below}
use Rattle.facts_bitwise.proofs.ValueLemmas.{inside_zero, last_zero}

shifted_below : (n m : ℕ) → m < 2 ^ 32 → m / 2 ^ n < 2 ^ 32
shifted_below n m h = omega (arith, shr_le m n, h)

-- a row inside of the eight, and the next one, which lacks four bits fewer
two_zero : (begins : Bool) (p : BitOp) (n : ℕ) → HasWords p → (begins ≡ true → (p.a / 2 ^ (n + 4) < 16) × (p.b / 2 ^ (n + 4) < 16))
    → AllZero (bitwise_values_by begins true (row_without (n + 4) p) (Some (row_without n p)))
unfolding row_without
two_zero begins p n words small =
    inside_zero begins p.xor (p.a / 2 ^ n) (p.b / 2 ^ n) (p.a / 2 ^ (n + 4)) (p.b / 2 ^ (n + 4)) (shifted_below n p.a words.0)
    (shifted_below n p.b words.1)
    (sym (shr-shr p.a n 4)) (sym (shr-shr p.b n 4)) small

before_last : (p : BitOp) → HasWords p → AllZero (bitwise_values_by false true (row_without 4 p) (Some (bit_row p.xor p.a p.b)))
unfolding row_without
before_last p words = inside_zero false p.xor p.a p.b (p.a / 2 ^ 4) (p.b / 2 ^ 4) words.0 words.1 refl refl (λ e. absurd (cc))

rows_zero : (i : ℕ) (ops : List BitOp) → i % 8 ≡ 0 → HaveWords ops → ZeroFrom bitwise_values i (rows_of_bits ops)
unfolding rows_of_bits rows_before
rows_zero i [] start words = none_from bitwise_values i
rows_zero i (p ∷ ops) start words =
    zero_eight (eight_cases _
    (at 0 _ _ (lit< tt) (two_zero true p 24 own (λ _. (let h = own.0 in omega (arith, h), let h = own.1 in omega (arith, h)))))
    (at 1 _ _ (lit< tt) (later 20)) (at 2 _ _ (lit< tt) (later 16)) (at 3 _ _ (lit< tt) (later 12)) (at 4 _ _ (lit< tt) (later 8))
    (at 5 _ _ (lit< tt) (later 4))
    (at 6 _ _ (lit< tt) (before_last p own)) (at 7 _ _ (lit< tt) (last_zero p.xor p.a p.b (slice_get (rows_of_bits ops) 0))))
    (rows_zero (eight i) ops (omega (arith, start)) (All-tail HasWords p ops words))
  where
    own : HasWords p
    own = All-head HasWords p ops words

    at : (k : ℕ) (cur : List ℕ) (next : Option (List ℕ)) → k < 8 → AllZero (bitwise_values_by (k == 0) (nat_lt k 7) cur next)
        → AllZero (bitwise_values (record { row = i + k; cur = cur; next = next }))
    at k cur next h zeros = subst AllZero (sym (values_at i k cur next start h)) zeros

    later : (n : ℕ) → AllZero (bitwise_values_by false true (row_without (n + 4) p) (Some (row_without n p)))
    later n = two_zero false p n own (λ e. absurd (cc))

-- ---- the table

row_below : (xor : Bool) (u v : ℕ) → u < 2 ^ 32 → v < 2 ^ 32 → CellsBelow (bit_row xor u v)
unfolding bit_row
row_below xor u v hu hv =
    each_at (λ v. v < prime) (bit_row xor u v) (lit< tt)
    (value_then (let h = bit_below xor in omega (arith, h)) (value_then (omega arith) (value_then (omega arith) (value_then (omega arith)
    (value_then (omega arith) (value_then (omega arith) (value_then (omega arith) (value_then (omega arith) (value_then (omega arith)
    (value_then (omega arith) (value_then (omega arith) (value_then (let h = bitwise-below xor 32 u v hu hv in omega (arith, h))
    no_values))))))))))))

with_row : (xor : Bool) (u v : ℕ) {rows : List (List ℕ)} → u < 2 ^ 32 → v < 2 ^ 32 → IsTable 12 rows → IsTable 12 (bit_row xor u v ∷ rows)
unfolding bit_row
with_row xor u v hu hv t = table_cons (bit_row xor u v) refl (row_below xor u v hu hv) t

table_of : (ops : List BitOp) → HaveWords ops → IsTable 12 (rows_of_bits ops)
unfolding rows_of_bits rows_before row_without
table_of [] words = table_none 12
table_of (p ∷ ops) words =
    row 28 (row 24 (row 20 (row 16 (row 12 (row 8 (row 4
    (with_row p.xor p.a p.b own.0 own.1 (table_of ops (All-tail HasWords p ops words)))))))))
  where
    own : HasWords p
    own = All-head HasWords p ops words

    row : (n : ℕ) {rows : List (List ℕ)} → IsTable 12 rows → IsTable 12 (bit_row p.xor (p.a / 2 ^ n) (p.b / 2 ^ n) ∷ rows)
    row n t = with_row p.xor (p.a / 2 ^ n) (p.b / 2 ^ n) (shifted_below n p.a own.0) (shifted_below n p.b own.1) t

pub rows_of-size : (ops : List BitOp) → length (rows_of_bits ops) ≡ 8 * length ops
unfolding rows_of_bits rows_before
rows_of-size [] = refl
rows_of-size (p ∷ ops) = let e = rows_of-size ops in omega (arith, e)

-- ---- the operations again

op_again : (p : BitOp) → bit_op_of (bit_row p.xor p.a p.b) ≡ p
unfolding bit_op_of bit_row
op_again p = λ i. record { xor = bit_again p.xor i; a = p.a; b = p.b }

pub ops_again : (ops : List BitOp) → ops_in (rows_of_bits ops) ≡ ops
unfolding rows_of_bits rows_before ops_in
ops_again [] = refl
ops_again (p ∷ ops) = ap₂ (λ (q : BitOp) (qs : List BitOp). q ∷ qs) (op_again p) (ops_again ops)

pub rows_are_zero : (ops : List BitOp) → HaveWords ops → BitwiseIsZero (rows_of_bits ops)
rows_are_zero ops words = record {
  table = table_of ops words;
  whole = let e = rows_of-size ops in omega (arith, e);
  zero = zero_all (rows_zero 0 ops refl words);
}
