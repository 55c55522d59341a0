-- Laws of tables: those of parts, twice.
use Rattle.table_file.proofs.Words.{◌≡◌, ℕ, zero, suc, ◌+◌, ◌*◌, ◌^◌, ◌<◌, nat_lt, List, [], ◌∷◌, ◌++◌, length, drop, get_or, All, Ok, inl, inr, refl, sym}
use Rattle.table_file.proofs.Words.{subst, arith, lit<, cases_lt, ltb-true, lt-ltb, get_or_past, prime, IsTable, little_bytes, length-bytes_low_first}
use Rattle.table_file.proofs.Words.{element_at, row_at, rows_at, row_bytes, table_bytes, parts_at}
use Rattle.vm_field.proofs.Elements.{elements-index}
use Rattle.table_file.specs.declared.cause.FileCause.TheVariants as cause
use Rattle.table_file.proofs.NumberLaws.{AreBytes, number-tested, number-written, number-reads}
use Rattle.table_file.proofs.PartLaws.{behind_part, parts-count, parts-have, parts-written, parts-wide, parts-read}

abbrev pub IsElement : ℕ → Type 0
IsElement x = x < prime

-- a row has so many elements
abbrev pub IsRow : ℕ → List ℕ → Type 0
IsRow width row = (length row ≡ width) × All IsElement row

same-default : {A : Type 0} (xs : List A) (i : ℕ) (d e : A) → i < length xs → get_or xs i d ≡ get_or xs i e
same-default [] i d e h = absurd (omega arith)
same-default (x ∷ xs) zero d e h = refl
same-default (x ∷ xs) (suc i) d e h = same-default xs i d e (omega arith)

pub to-table : (w : ℕ) (rows : List (List ℕ)) → All (IsRow w) rows → IsTable w rows
to-table w rows good = record {
  wide = λ i h. (good i [] h).0;
  below = λ i k. elim (cases_lt i (length rows)) [
    | inl h ↦ elements-index (get_or rows i []) k (good i [] h).1
    | inr past ↦ subst (λ (row : List ℕ). get_or row k 0 < prime) (sym (get_or_past rows i [] past)) (lit< tt)
  ];
}

pub from-table : (w : ℕ) (rows : List (List ℕ)) → IsTable w rows → All (IsRow w) rows
from-table w rows shape i d h =
    subst (IsRow w) (same-default rows i [] d h)
    (shape.wide i h, λ k e inside. subst IsElement (same-default (get_or rows i []) k 0 e inside) (shape.below i k))

wide-element : (x : ℕ) → IsElement x → length (little_bytes 8 x) ≡ 8
wide-element x below = length-bytes_low_first 0 8 x

wide-row : (w : ℕ) (row : List ℕ) → IsRow w row → length (row_bytes row) ≡ 8 * w
wide-row w row good =
    subst (λ n. length (row_bytes row) ≡ 8 * n) good.0 (parts-wide (element_at []) 8 [] (little_bytes 8) IsElement wide-element row good.1)

module _ (bytes : List ℕ) where
  is-element : (at x : ℕ) → element_at bytes at ≡ Ok x → IsElement x
  is-element at x is = ltb-true x prime (number-tested bytes 8 cause.Element (λ n. nat_lt n prime) at x is)

  is-row : (w at : ℕ) (row : List ℕ) → row_at bytes w at ≡ Ok row → IsRow w row
  is-row w at row is =
      (parts-count (element_at bytes) 8 w at row is, parts-have (element_at bytes) 8 IsElement is-element w at row is)

  pub rows-count : (w n at : ℕ) (rows : List (List ℕ)) → rows_at bytes w n at ≡ Ok rows → length rows ≡ n
  rows-count w n at rows is = parts-count (row_at bytes w) (8 * w) n at rows is

  pub rows-table : (w n at : ℕ) (rows : List (List ℕ)) → rows_at bytes w n at ≡ Ok rows → IsTable w rows
  rows-table w n at rows is = to-table w rows (parts-have (row_at bytes w) (8 * w) (IsRow w) (is-row w) n at rows is)

  pub rows-written : AreBytes bytes → (w n at : ℕ) (rows : List (List ℕ)) → rows_at bytes w n at ≡ Ok rows
      → table_bytes rows ++ drop (at + 8 * w * n) bytes ≡ drop at bytes
  rows-written low w n at rows is =
      parts-written (row_at bytes w) (8 * w) bytes row_bytes
      (λ place row is-row. parts-written (element_at bytes) 8 bytes (little_bytes 8)
      (λ spot x is-x. number-written bytes 8 cause.Element (λ k. nat_lt k prime) spot x low is-x) w place row is-row)
      n at rows is

  row-reads : (w at : ℕ) (row rest : List ℕ) → IsRow w row → drop at bytes ≡ row_bytes row ++ rest → row_at bytes w at ≡ Ok row
  row-reads w at row rest good is =
      subst (λ n. parts_at (element_at bytes) 8 n at ≡ Ok row) good.0
      (parts-read (element_at bytes) 8 bytes (little_bytes 8) IsElement wide-element
      (λ spot x more below there.
      let fits : x < 256 ^ 8 = omega arith in
      number-reads bytes 8 cause.Element (λ k. nat_lt k prime) spot x more (omega arith) fits (lt-ltb x prime below) there)
      row at rest good.1 is)

  -- the bytes of a table read as it, and what follows stands behind it
  pub rows-read : (w at : ℕ) (rows : List (List ℕ)) (rest : List ℕ) → IsTable w rows → drop at bytes ≡ table_bytes rows ++ rest
      → (rows_at bytes w (length rows) at ≡ Ok rows) × (drop (at + 8 * w * length rows) bytes ≡ rest)
  rows-read w at rows rest shape is =
      let good = from-table w rows shape in (
        parts-read (row_at bytes w) (8 * w) bytes row_bytes (IsRow w) (wide-row w) (λ place row more. row-reads w place row more)
            rows at rest good is,
        behind_part bytes (table_bytes rows) rest at (8 * w * length rows)
            (parts-wide (row_at bytes w) (8 * w) bytes row_bytes (IsRow w) (wide-row w) rows good) is,
      )
