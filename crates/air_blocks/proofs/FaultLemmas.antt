-- The first fault of lists that are joined.
use Rattle.std.proofs.Common.{◌≡◌, ℕ, ◌+◌, List, ◌++◌, length, Option, refl, sym, ap, ◌∙◌}
use Rattle.air_kit.specs.Places.{Claim, Spot, first_fault_of, or_next, family}
use Rattle.air_kit.specs.OpcodeValues.{opcode_values}
use Rattle.air_kit.specs.BoundaryValues.{boundary_values, start_values, inputs_values, end_values, outputs_values}
use Rattle.air_kit.specs.BlockValues.{block_values, follow_values, shown_values, kept_values}
use Rattle.air_kit.proofs.FaultLemmas.{first_append}
use Rattle.air_blocks.specs.Entries.{spot_with}

-- an answer that joins the answers of two lists
pub joined : (n m : ℕ) (xs ys : List ℕ) (a b r : Option (ℕ × ℕ)) → r ≡ or_next a b → a ≡ first_fault_of n xs
    → b ≡ first_fault_of m ys → n + length xs ≡ m → r ≡ first_fault_of n (xs ++ ys)
joined n m xs ys a b r e ea eb em =
    e ∙ ap (λ o. or_next o b) ea ∙ ap (or_next (first_fault_of n xs)) (eb ∙ ap (λ k. first_fault_of k ys) (sym em))
    ∙ sym (first_append n xs ys)

-- how many values the lists have
pub opcode_length : (p : Spot) → length (opcode_values p) ≡ 10
unfolding opcode_values family
opcode_length p = refl

start_length : (c : Claim) (p : Spot) → length (start_values c p) ≡ 12
unfolding start_values family
start_length c p = refl

inputs_length : (c : Claim) (p : Spot) → length (inputs_values c p) ≡ 16
unfolding inputs_values family
inputs_length c p = refl

end_length : (c : Claim) (p : Spot) → length (end_values c p) ≡ 5
unfolding end_values
end_length c p = refl

pub boundary_length : (c : Claim) (p : Spot) → length (boundary_values c p) ≡ 49
unfolding boundary_values start_values inputs_values end_values outputs_values family
boundary_length c p = refl

follow_length : (p : Spot) → length (follow_values p) ≡ 10
unfolding follow_values
follow_length p = refl

shown_length : (p : Spot) → length (shown_values p) ≡ 12
unfolding shown_values family
shown_length p = refl

pub block_length : (p : Spot) → length (block_values p) ≡ 32
unfolding block_values follow_values shown_values kept_values family
block_length p = refl

-- the values of blocks do not ask for the row's number
pub block_number : (n : ℕ) (x : List ℕ) (y : Option (List ℕ)) → block_values (spot_with 0 x y) ≡ block_values (spot_with n x y)
unfolding block_values follow_values shown_values kept_values family
block_number n x y = refl

-- the answers of the parts are the answer of their lists
pub boundary_joined : (c : Claim) (p : Spot) (s i e o r0 r1 r : Option (ℕ × ℕ)) → s ≡ first_fault_of 11 (start_values c p)
    → i ≡ first_fault_of 23 (inputs_values c p)
    → e ≡ first_fault_of 39 (end_values c p) → o ≡ first_fault_of 44 (outputs_values c p)
    → r0 ≡ or_next e o → r1 ≡ or_next i r0 → r ≡ or_next s r1 → r ≡ first_fault_of 11 (boundary_values c p)
unfolding boundary_values
boundary_joined c p s i e o r0 r1 r es ei ee eo e0 e1 er =
    joined 11 23 (start_values c p) (inputs_values c p ++ (end_values c p ++ outputs_values c p)) s r1 r er es
    (joined 23 39 (inputs_values c p) (end_values c p ++ outputs_values c p) i r0 r1 e1 ei
    (joined 39 44 (end_values c p) (outputs_values c p) e o r0 e0 ee eo (ap (λ k. 39 + k) (end_length c p)))
    (ap (λ k. 23 + k) (inputs_length c p)))
    (ap (λ k. 11 + k) (start_length c p))

pub block_joined : (p : Spot) (f s k r0 r : Option (ℕ × ℕ)) → f ≡ first_fault_of 60 (follow_values p) → s ≡ first_fault_of 70 (shown_values p)
    → k ≡ first_fault_of 82 (kept_values p) → r0 ≡ or_next s k → r ≡ or_next f r0 → r ≡ first_fault_of 60 (block_values p)
unfolding block_values
block_joined p f s k r0 r ef es ek e0 er =
    joined 60 70 (follow_values p) (shown_values p ++ kept_values p) f r0 r er ef
    (joined 70 82 (shown_values p) (kept_values p) s k r0 e0 es ek (ap (λ k. 70 + k) (shown_length p)))
    (ap (λ k. 60 + k) (follow_length p))
