-- The least tuple apart, found by one pass over entries in any order.
use Rattle.std.specs.Prelude.{ℕ, ◌==◌, if◌then◌else◌, List, Option, Some, None}
use Rattle.std.specs.Ordering.{is_lt, nat_cmp}
use Rattle.std.specs.Cmp.Lexicographic.{slice_cmp}
use Rattle.bus_kit.specs.Answers.{IsAnswer}
use Rattle.bus_kit.specs.declared.tuple.Unequal.{Unequal}

-- an entry, or the best so far where that is no greater
abbrev pub lesser : List ℕ × (ℕ × ℕ) → Option (List ℕ × (ℕ × ℕ)) → Option (List ℕ × (ℕ × ℕ))
lesser e None = Some e
lesser e (Some best) = if is_lt (slice_cmp nat_cmp e.0 best.0) then Some e else Some best

-- the best so far behind one more entry, which counts where its two counts are apart
abbrev pub scanned : Option (List ℕ × (ℕ × ℕ)) → List ℕ × (ℕ × ℕ) → Option (List ℕ × (ℕ × ℕ))
scanned best e = if e.1.0 == e.1.1 then best else lesser e best

-- an entry, as it is told
abbrev pub told : List ℕ × (ℕ × ℕ) → Unequal
told e = record { tuple = e.0; asked = e.1.0; given = e.1.1 }

-- the answer over both counts
abbrev pub IsAnswerOf : (List ℕ → ℕ × ℕ) → Option Unequal → Type 0
IsAnswerOf counts r = IsAnswer (λ u. (counts u).0) (λ u. (counts u).1) r

-- the lesser of two told entries, if there is one
abbrev pub lesser_told : Option Unequal → Option Unequal → Option Unequal
lesser_told None y = y
lesser_told (Some x) None = Some x
lesser_told (Some x) (Some y) = if is_lt (slice_cmp nat_cmp y.tuple x.tuple) then Some y else Some x
