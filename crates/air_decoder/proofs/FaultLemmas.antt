-- The first fault of the lists of spans, and of all entries 1 to 114.
use Rattle.std.proofs.Common.{◌≡◌, ℕ, ◌+◌, List, ◌++◌, length, Option, refl, ap, ◌∙◌}
use Rattle.air_kit.specs.Places.{Claim, Spot, first_fault_of, or_next, family}
use Rattle.air_kit.specs.MainValues.{decoder_values}
use Rattle.air_kit.specs.OpcodeValues.{opcode_values}
use Rattle.air_kit.specs.BoundaryValues.{boundary_values}
use Rattle.air_kit.specs.BlockValues.{block_values}
use Rattle.air_kit.specs.SpanValues.{span_values, batch_values, group_values}
use Rattle.air_blocks.specs.Entries.{spot_with}
use Rattle.air_blocks.proofs.FaultLemmas.{joined, opcode_length, boundary_length, block_length, block_number}

-- how many values the first list of spans has
pub batch_length : (p : Spot) → length (batch_values p) ≡ 15
unfolding batch_values family
batch_length p = refl

-- the values of spans do not ask for the row's number
span_number : (n : ℕ) (x : List ℕ) (y : Option (List ℕ)) → span_values (spot_with 0 x y) ≡ span_values (spot_with n x y)
unfolding span_values batch_values group_values family
span_number n x y = refl

-- the answers of the parts are the answer of their lists
pub span_joined : (p : Spot) (b g r : Option (ℕ × ℕ)) → b ≡ first_fault_of 92 (batch_values p) → g ≡ first_fault_of 107 (group_values p)
    → r ≡ or_next b g → r ≡ first_fault_of 92 (span_values p)
unfolding span_values
span_joined p b g r eb eg er = joined 92 107 (batch_values p) (group_values p) b g r er eb eg (ap (λ k. 92 + k) (batch_length p))

pub decoder_joined : (c : Claim) (p : Spot) (x : List ℕ) (y : Option (List ℕ)) (o b k s r0 r1 r : Option (ℕ × ℕ)) → x ≡ p.cur → y ≡ p.next
    → o ≡ first_fault_of 1 (opcode_values (spot_with p.row x y)) → b ≡ first_fault_of 11 (boundary_values c p)
    → k ≡ first_fault_of 60 (block_values (spot_with 0 x y)) → s ≡ first_fault_of 92 (span_values (spot_with 0 x y))
    → r0 ≡ or_next k s → r1 ≡ or_next b r0 → r ≡ or_next o r1 → r ≡ first_fault_of 1 (decoder_values c p)
unfolding decoder_values
decoder_joined c p x y o b k s r0 r1 r ex ey eo eb ek es e0 e1 er =
    let here : spot_with p.row x y ≡ p = ap (λ x. spot_with p.row x y) ex ∙ ap (spot_with p.row p.cur) ey in
    let ko : o ≡ first_fault_of 1 (opcode_values p) = eo ∙ ap (λ q. first_fault_of 1 (opcode_values q)) here in
    let kk : k ≡ first_fault_of 60 (block_values p) = ek ∙ ap (first_fault_of 60) (block_number p.row x y ∙ ap block_values here) in
    let ks : s ≡ first_fault_of 92 (span_values p) = es ∙ ap (first_fault_of 92) (span_number p.row x y ∙ ap span_values here) in
    joined 1 11 (opcode_values p) (boundary_values c p ++ (block_values p ++ span_values p)) o r1 r er ko
    (joined 11 60 (boundary_values c p) (block_values p ++ span_values p) b r0 r1 e1 eb
    (joined 60 92 (block_values p) (span_values p) k s r0 e0 kk ks (ap (λ n. 60 + n) (block_length p)))
    (ap (λ n. 11 + n) (boundary_length c p)))
    (ap (λ n. 1 + n) (opcode_length p))
