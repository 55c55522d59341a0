-- Tables that give or ask nothing.
use Rattle.complete_rows.proofs.Words
use Words.{◌≡◌, ℕ, zero, suc, ◌+◌, List, [], length, Option, Some, None, refl, arith, slice_get, counted, over_first, over_rows, total, with_next, Bus}
use Words.{counted-none, Trace, row_at}
use Rattle.air_kit.specs.Acceptance.{over_chips}
use Rattle.air_kit.specs.ChipTuples.{chip_given}

total_none : (n : ℕ) (f : ℕ → ℕ) → ((i : ℕ) → f i ≡ 0) → total n f ≡ 0
unfolding total
total_none zero f none = refl
total_none (suc n) f none = let before = total_none n f none in let here = none n in omega (arith, before, here)

-- rows without tuples
pub rows_quiet : (rows : List (List ℕ)) (v : List ℕ) → over_rows (λ i x next. []) rows v ≡ 0
unfolding over_first
rows_quiet rows v = total_none (length rows) (λ i. counted [] v) (λ i. counted-none v)

pair_quiet : (i : ℕ) (x : List ℕ) (next : Option (List ℕ)) (v : List ℕ) → counted (with_next (λ x y. []) i x next) v ≡ 0
pair_quiet i x None v = counted-none v
pair_quiet i x (Some y) v = counted-none v

pub pairs_quiet : (rows : List (List ℕ)) (v : List ℕ) → over_rows (with_next (λ x y. [])) rows v ≡ 0
unfolding over_first
pairs_quiet rows v =
    total_none (length rows) (λ i. counted (with_next (λ x y. []) i (row_at rows i) (slice_get rows (suc i))) v)
    (λ i. pair_quiet i (row_at rows i) (slice_get rows (suc i)) v)

six_none : (a b c d e f : ℕ) → a ≡ 0 → b ≡ 0 → c ≡ 0 → d ≡ 0 → e ≡ 0 → f ≡ 0 → a + (b + (c + (d + (e + (f + 0))))) ≡ 0
six_none a b c d e f za zb zc zd ze zf = omega (arith, za, zb, zc, zd, ze, zf)

-- how often the small tables give a tuple on a bus
abbrev pub chips_give : Bus → Trace → List ℕ → ℕ
chips_give on t v = over_chips (λ name rows. over_rows (chip_given on name) rows v) t

-- small tables without tuples
pub chips_quiet : (t : Trace) (v : List ℕ) → over_chips (λ name rows. over_rows (λ i x next. []) rows v) t ≡ 0
chips_quiet t v =
    six_none _ _ _ _ _ _ (rows_quiet t.range v) (rows_quiet t.hasher v) (rows_quiet t.bitwise v) (rows_quiet t.memory v) (rows_quiet t.kernel v)
    (rows_quiet t.left v)
