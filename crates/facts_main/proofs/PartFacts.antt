-- The parts of the entries of the main table.
use Rattle.facts_main.proofs.Words.{◌++◌, List, ℕ, dyn_values, decoder_values, main_values, Claim, Spot, opcode_values, stack_values, u32_values, AllZero}
use Rattle.air_kit.specs.BoundaryValues.{boundary_values}
use Rattle.air_kit.specs.BlockValues.{block_values}
use Rattle.air_kit.specs.SpanValues.{span_values}
use Rattle.facts_main.proofs.Means.{Means, ◌⧺◌, means_as, whole}

four_parts : (a b c d : List ℕ) → Means (a ++ (b ++ (c ++ d))) (AllZero a × AllZero b × AllZero c × AllZero d)
four_parts a b c d = means_as (whole a ⧺ whole b ⧺ whole c ⧺ whole d) (λ h. (h.0, h.1.0, h.1.1.0, h.1.1.1)) (λ h. (h.0, (h.1, (h.2, h.3))))

pub parts : (k : Claim) (p : Spot)
    → Means (main_values k p) (AllZero (decoder_values k p) × AllZero (stack_values p) × AllZero (u32_values p) × AllZero (dyn_values p))
unfolding main_values
parts k p = four_parts _ _ _ _

pub decoder_parts : (k : Claim) (p : Spot)
    → Means (decoder_values k p) (AllZero (opcode_values p) × AllZero (boundary_values k p) × AllZero (block_values p) × AllZero (span_values p))
unfolding decoder_values
decoder_parts k p = four_parts _ _ _ _
