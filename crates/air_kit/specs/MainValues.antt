-- All entries of the main table, in the order of their numbers, from 1 on.
use Rattle.std.specs.Prelude.{ℕ, List, ◌++◌}
use Rattle.air_kit.specs.Places.{Claim, Spot}
use Rattle.air_kit.specs.OpcodeValues.{opcode_values}
use Rattle.air_kit.specs.BoundaryValues.{boundary_values}
use Rattle.air_kit.specs.BlockValues.{block_values}
use Rattle.air_kit.specs.SpanValues.{span_values}
use Rattle.air_kit.specs.StackValues.{stack_values}
use Rattle.air_kit.specs.U32Values.{u32_values}
use Rattle.air_kit.specs.DynValues.{dyn_values}

-- 1 to 114: operations, boundaries, blocks and spans
unfoldable pub decoder_values : Claim → Spot → List ℕ
decoder_values c p = opcode_values p ++ (boundary_values c p ++ (block_values p ++ span_values p))

-- 1 to 151; the stack's begin with 115, those of 32 bits with 140, those of dynamic blocks with 148
unfoldable pub main_values : Claim → Spot → List ℕ
main_values c p = decoder_values c p ++ (stack_values p ++ (u32_values p ++ dyn_values p))
