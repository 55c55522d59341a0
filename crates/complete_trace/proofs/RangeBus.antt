-- The bus of numbers of 16 bits: the rows and the table of memory ask, the table of ranges gives.
use Rattle.complete_rows.proofs.Words
use Words.{◌≡◌, ℕ, ◌+◌, List, [], ◌∷◌, map, arith, counted, once, over_rows, with_next, counted-none, asked_on, given_on, range_asked, Claim, Trace}
use Words.bus
use Words.table
use Rattle.air_kit.specs.ChipTuples.{chip_given, memory_ranges}
use Rattle.complete_trace.proofs.Quiet.{pairs_quiet, rows_quiet}

fourth_alone : (a b c d e f : ℕ) → a ≡ 0 → b ≡ 0 → c ≡ 0 → e ≡ 0 → f ≡ 0 → a + (b + (c + (d + (e + (f + 0))))) ≡ d
fourth_alone a b c d e f za zb zc ze zf = omega (arith, za, zb, zc, ze, zf)

first_alone : (a b c d e f : ℕ) → b ≡ 0 → c ≡ 0 → d ≡ 0 → e ≡ 0 → f ≡ 0 → a + (b + (c + (d + (e + (f + 0))))) ≡ a
first_alone a b c d e f zb zc zd ze zf = omega (arith, zb, zc, zd, ze, zf)

ranged : (asked more named given rest n memory range : ℕ) → asked ≡ n → more ≡ memory → named ≡ 0 → given ≡ 0 → rest ≡ range
    → range ≡ n + memory → asked + more ≡ named + given + rest
ranged asked more named given rest n memory range is im zn zg ir gives = omega (arith, is, im, zn, zg, ir, gives)

pub range_alike : (k : Claim) (ranges : List ℕ) (t : Trace) (v : List ℕ)
    → over_rows (with_next range_asked) t.main v ≡ counted (map (λ n. once (n ∷ [])) ranges) v
    → over_rows (chip_given bus.Range table.Range) t.range v
    ≡ counted (map (λ n. once (n ∷ [])) ranges) v + over_rows (λ i x next. memory_ranges x) t.memory v
    → asked_on k t bus.Range v ≡ given_on k t bus.Range v
unfolding asked_on given_on
range_alike k ranges t v asks gives =
    ranged _ _ _ _ _ _ _ _ asks
    (fourth_alone _ _ _ (over_rows (λ i x next. memory_ranges x) t.memory v) _ _ (rows_quiet t.range v) (rows_quiet t.hasher v)
    (rows_quiet t.bitwise v)
    (rows_quiet t.kernel v) (rows_quiet t.left v))
    (counted-none v) (pairs_quiet t.main v)
    (first_alone (over_rows (chip_given bus.Range table.Range) t.range v) _ _ _ _ _ (rows_quiet t.hasher v) (rows_quiet t.bitwise v)
    (rows_quiet t.memory v) (rows_quiet t.kernel v) (rows_quiet t.left v))
    gives
