-- What a list has at a place after a write.
use Rattle.masm_tables.proofs.Words.{◌≡◌, ℕ, zero, suc, ◌<◌, List, [], ◌∷◌, length, set, slice_get, Some, refl, arith}

pub got_same : {X : Type 0} (xs : List X) (i : ℕ) (x : X) → i < length xs → slice_get (set xs i x) i ≡ Some x
got_same [] i x below = absurd (omega arith)
got_same (y ∷ xs) zero x below = refl
got_same (y ∷ xs) (suc i) x below = got_same xs i x (omega arith)
