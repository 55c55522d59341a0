-- The bus of overflow: the statement and the rows give, the rows and the table of cells left ask.
use Rattle.complete_rows.proofs.Words
use Words.{◌≡◌, ℕ, ◌+◌, List, [], ◌∙◌, arith, counted, over_rows, with_next, counted-none, asked_on, given_on, overflow_asked, overflow_given, Claim, Trace}
use Words.bus
use Words.table
use Rattle.air_kit.specs.ChipTuples.{chip_asked}
use Rattle.air_kit.specs.DeepCells.{tuples_at_start}
use Rattle.complete_trace.proofs.Quiet.{chips_give, rows_quiet}

sixth_alone : (a b c d e f : ℕ) → a ≡ 0 → b ≡ 0 → c ≡ 0 → d ≡ 0 → e ≡ 0 → a + (b + (c + (d + (e + (f + 0))))) ≡ f
sixth_alone a b c d e f za zb zc zd ze = omega (arith, za, zb, zc, zd, ze)

left_over : (asked more named given rest left : ℕ) → named + given ≡ asked + left → more ≡ left → rest ≡ 0
    → asked + more ≡ named + given + rest
left_over asked more named given rest left even is zr = omega (arith, even, is, zr)

pub overflow_alike : (k : Claim) (t : Trace) (v : List ℕ)
    → counted (tuples_at_start k) v + over_rows (with_next overflow_given) t.main v
    ≡ over_rows (with_next overflow_asked) t.main v + over_rows (chip_asked k bus.Overflow table.Left) t.left v
    → chips_give bus.Overflow t v ≡ counted [] v
    → asked_on k t bus.Overflow v ≡ given_on k t bus.Overflow v
unfolding asked_on given_on
overflow_alike k t v even none =
    left_over _ _ _ _ _ _ even
    (sixth_alone _ _ _ _ _ (over_rows (chip_asked k bus.Overflow table.Left) t.left v) (rows_quiet t.range v) (rows_quiet t.hasher v)
    (rows_quiet t.bitwise v) (rows_quiet t.memory v) (rows_quiet t.kernel v))
    (none ∙ counted-none v)
