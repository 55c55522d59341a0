-- The rows of bitwise operations, one by one.
use Rattle.fill_chips.proofs.Words.{◌≡◌, ℕ, zero, suc, ◌*◌, ◌-◌, ◌/◌, ◌%◌, ◌^◌, Bool, List, [], ◌∷◌, ◌++◌, refl, ap, ap₂, ◌∙◌, bit_of, row_without}
use Rattle.fill_chips.proofs.Words.{rows_of_bits}
use Rattle.std.proofs.Math.Nat.{div-one}
use Rattle.air_kit.specs.declared.requests.BitOp.{BitOp}
use Rattle.facts_bitwise.specs.BitRows.{bit_row, bitwise, rows_before}

-- a row by its cells
pub row-is : (xor : Bool) (u v : ℕ) {c0 c1 c2 c3 c4 c5 c6 c7 c8 c9 c10 c11 : ℕ} → c0 ≡ bit_of xor → c1 ≡ u → c2 ≡ v → c3 ≡ u % 2 → c4 ≡ u / 2 % 2
    → c5 ≡ u / 4 % 2 → c6 ≡ u / 8 % 2 → c7 ≡ v % 2 → c8 ≡ v / 2 % 2 → c9 ≡ v / 4 % 2 → c10 ≡ v / 8 % 2 → c11 ≡ bitwise xor u v
    → c0 ∷ c1 ∷ c2 ∷ c3 ∷ c4 ∷ c5 ∷ c6 ∷ c7 ∷ c8 ∷ c9 ∷ c10 ∷ c11 ∷ [] ≡ bit_row xor u v
unfolding bit_row
row-is xor u v e0 e1 e2 e3 e4 e5 e6 e7 e8 e9 e10 e11 = rw (e0, e1, e2, e3, e4, e5, e6, e7, e8, e9, e10, e11) refl

pub without-is : (n : ℕ) (p : BitOp) → row_without n p ≡ bit_row p.xor (p.a / 2 ^ n) (p.b / 2 ^ n)
unfolding row_without
without-is n p = refl

before-append : (p : BitOp) (rows more : List (List ℕ)) → rows_before p (rows ++ more) ≡ rows_before p rows ++ more
unfolding rows_before
before-append p rows more = refl

-- one more operation
pub rows-push : (ops : List BitOp) (p : BitOp) → rows_of_bits (ops ++ p ∷ []) ≡ rows_of_bits ops ++ rows_before p []
unfolding rows_of_bits
rows-push [] p = refl
rows-push (q ∷ ops) p = ap (rows_before q) (rows-push ops p) ∙ before-append q (rows_of_bits ops) (rows_before p [])

-- the first rows of an operation
unfoldable pub first_rows : BitOp → ℕ → List (List ℕ)
first_rows p zero = []
first_rows p (suc k) = first_rows p k ++ row_without (28 - 4 * k) p ∷ []

whole : (p : BitOp) → row_without 0 p ≡ bit_row p.xor p.a p.b
unfolding row_without
whole p = ap₂ (λ u v. bit_row p.xor u v) (div-one p.a) (div-one p.b)

pub first-all : (p : BitOp) → first_rows p 8 ≡ rows_before p []
unfolding first_rows rows_before
first-all p =
    ap (λ (last : List ℕ). row_without 28 p ∷ row_without 24 p ∷ row_without 20 p ∷ row_without 16 p ∷ row_without 12 p ∷ row_without 8 p
    ∷ row_without 4 p ∷ last ∷ []) (whole p)
