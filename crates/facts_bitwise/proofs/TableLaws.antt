-- The laws of the bitwise table.
use Rattle.std.proofs.Common.{◌≡◌, ℕ, ◌<◌, List, [], ◌∷◌, length, ap, subst, ◌∙◌}
use Rattle.air_kit.specs.declared.requests.BitOp.{BitOp}
use Rattle.facts_bitwise.specs.BitRows.{rows_of_bits, ops_in}
use Rattle.facts_bitwise.specs.BitTables.{HaveWords, IsBitwise, BitwiseIsZero, ShowsOps, given_in}
use Rattle.facts_bitwise.proofs.ZerosAreRows.{zeros_are_rows}
use Rattle.facts_bitwise.proofs.RowsAreZero.{rows_of-size, rows_are_zero, ops_again}
use Rattle.facts_bitwise.proofs.Given.{IsGiven, given_by_one, is_right, rows_give}

pub rows_show : (ops : List BitOp) → HaveWords ops → ShowsOps ops (rows_of_bits ops)
rows_show ops words = record { size = rows_of-size ops; zero = rows_are_zero ops words; ops_are = ops_again ops }

is_given : (rows : List (List ℕ)) (u : List ℕ) → BitwiseIsZero rows → 0 < given_in rows u → IsGiven u
is_given rows u z h =
    let are = zeros_are_rows rows z in
    given_by_one (ops_in rows) u are.words (subst (λ n. 0 < n) (ap (λ xs. given_in xs u) are.rows_are ∙ rows_give (ops_in rows) u) h)

pub means : (rows : List (List ℕ)) (kind u v w : ℕ) → BitwiseIsZero rows → 0 < given_in rows (kind ∷ u ∷ v ∷ w ∷ []) → IsBitwise kind u v w
means rows kind u v w z h = is_right kind u v w (is_given rows (kind ∷ u ∷ v ∷ w ∷ []) z h)

pub shape : (rows : List (List ℕ)) (u : List ℕ) → BitwiseIsZero rows → 0 < given_in rows u → length u ≡ 4
shape rows u z h = ap length (is_given rows u z h).tuple_is
