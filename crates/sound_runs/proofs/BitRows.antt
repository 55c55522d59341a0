-- What the rows of bitwise operations look up.
use Rattle.sound_runs.proofs.Words.{◌≡◌, ℕ, suc, ◌<◌, List, length, refl, Op, s, Claim, row_at, op_in, off, LooksUpBits}
use Rattle.sound_runs.proofs.Words.ops
use Rattle.facts_bitwise.specs.BitTables.{IsBitwise}
use Rattle.sound_runs.proofs.Premises.{Known}

-- what the top two cells and the one that they leave are to each other
abbrev LeavesBits : ℕ → List ℕ → List ℕ → Type 0
LeavesBits kind x y = IsBitwise kind (s x 0) (s x 1) (s y 0)

looks_up_bits : (op : Op) (x y : List ℕ) → (op ≡ ops.U32And → LeavesBits 0 x y) → (op ≡ ops.U32Xor → LeavesBits 1 x y) → LooksUpBits op x y
looks_up_bits ops.U32And x y conjunction difference =
    let r = conjunction refl in
    record { top = λ is. r.first; second = λ is. r.second; conjunction = λ is. r.conjunction refl; difference = λ is. off is }
looks_up_bits ops.U32Xor x y conjunction difference =
    let r = difference refl in
    record { top = λ is. r.first; second = λ is. r.second; conjunction = λ is. off is; difference = λ is. r.difference refl }
looks_up_bits op x y conjunction difference =
    record { top = λ is. off is; second = λ is. off is; conjunction = λ is. off is; difference = λ is. off is }

pub bits_at : {constants : List ℕ} {kernel rows : List (List ℕ)} {k : Claim} → Known constants kernel k rows → (i : ℕ)
    → suc i < length rows → LooksUpBits (op_in rows i) (row_at rows i) (row_at rows (suc i))
bits_at {rows = rows} known i within =
    looks_up_bits (op_in rows i) (row_at rows i) (row_at rows (suc i)) (λ is. known.bits.conjunction i (record { within = within; is = is }))
    (λ is. known.bits.difference i (record { within = within; is = is }))
