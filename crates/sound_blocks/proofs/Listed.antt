-- Lists of a function's values, as the cells of a row are.
use Rattle.sound_blocks.proofs.Words.{◌≡◌, ℕ, zero, suc, ◌+◌, ◌<◌, List, [], ◌∷◌, get_or, ap, ◌∙◌, arith}

-- its values at so many numbers from number q on
unfoldable pub listed : (ℕ → ℕ) → ℕ → ℕ → List ℕ
listed f q zero = []
listed f q (suc n) = f q ∷ listed f (suc q) n

pub listed_at : (f : ℕ → ℕ) (q n i : ℕ) → i < n → get_or (listed f q n) i 0 ≡ f (q + i)
unfolding listed
listed_at f q zero i h = absurd (omega (arith, h))
listed_at f q (suc n) zero h = ap f (let e : q ≡ q + 0 = omega arith in e)
listed_at f q (suc n) (suc i) h = listed_at f (suc q) n i (omega (arith, h)) ∙ ap f (let e : suc q + i ≡ q + suc i = omega arith in e)
