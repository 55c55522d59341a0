-- Both counts of each tuple, in a tally of one width.
use Rattle.std.specs.Prelude.{ℕ, List}
use Rattle.bus_kit.specs.Counting.{both_in}
use Rattle.bus_kit.specs.declared.tally.Tally.{Tally}

-- of a tuple of the tally's width; none of another
unfoldable pub tallied : {N : ℕ} → Tally N → List ℕ → ℕ × ℕ
tallied t u = both_in t.both u
