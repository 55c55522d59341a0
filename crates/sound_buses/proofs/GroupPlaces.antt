-- The positions of a batch that its row gives.
use Rattle.sound_buses.proofs.Words.{◌≡◌, ℕ, zero, suc, ◌+◌, ◌-◌, ◌<◌, ◌≤◌, inl, inr, true, List, [], ◌∷◌, arith, counted, h, ha, op_of, groups_from}
use Rattle.sound_buses.proofs.Words.{groups_given, is_batch_op, positions}
use Rattle.sound_buses.proofs.Tuples.{first_or, nothing_counts, tested}

-- the position of a tuple that is given for so many positions from position q on
pub record IsPlace (x y : List ℕ) (q n : ℕ) (u : List ℕ) : Type 0 where
  pub place : ℕ
  pub left : ℕ
  pub behind : q ≤ place
  pub within : place < q + n
  pub count : left + place ≡ q + n
  pub is : ha y ∷ left ∷ h x place ∷ [] ≡ u

module _ (x y u : List ℕ) where
  place_of : (q n : ℕ) → 0 < counted (groups_from x y q n) u → IsPlace x y q n u
  unfolding groups_from
  place_of q zero some = nothing_counts u some
  place_of q (suc n) some = elim (first_or _ _ u some) [
    | inl here ↦ record {
      place = q;
      left = suc n;
      behind = omega arith;
      within = omega arith;
      count = omega arith;
      is = here;
    }
    | inr later ↦
        let p = place_of (suc q) n later in
        record {
          place = p.place;
          left = p.left;
          behind = omega (arith, p.behind);
          within = omega (arith, p.within);
          count = omega (arith, p.count);
          is = p.is;
        }
  ]

  pub gives : 0 < counted (groups_given x y) u → (is_batch_op (op_of x) ≡ true) × IsPlace x y 1 (positions x - 1) u
  unfolding groups_given
  gives some = let g = tested _ _ u some in (g.0, place_of 1 (positions x - 1) g.1)
