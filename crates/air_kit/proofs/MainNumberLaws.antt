-- The entries of the main table have their numbers.
use Rattle.std.proofs.Common.{refl}
use Rattle.air_kit.specs.Places.{Claim, Spot, at_first, at_last, at_number, family, on_pair, on_row}
use Rattle.air_kit.specs.MainNumbers.{HasMainNumbers}
use Rattle.air_kit.specs.MainValues.{decoder_values, main_values}
use Rattle.air_kit.specs.OpcodeValues.{entry_1, opcode_values}
use Rattle.air_kit.specs.BoundaryValues.{entry_16, entry_23, entry_44, boundary_values, end_values, inputs_values, outputs_values, start_values}
use Rattle.air_kit.specs.BlockValues.{entry_70, entry_75, entry_85, block_values, follow_values, kept_values, shown_values}
use Rattle.air_kit.specs.SpanValues.{entry_92, entry_96, batch_values, group_values, span_values}
use Rattle.air_kit.specs.StackValues.{entry_119, cell_values, depth_values, operand_values, stack_values}
use Rattle.air_kit.specs.U32Values.{u32_values}
use Rattle.air_kit.specs.DynValues.{entry_148, dyn_values}
use Rattle.air_kit.proofs.NumberLemmas.{family_at}

pub main_numbers : (c : Claim) (p : Spot) → HasMainNumbers c p
unfolding at_number family main_values decoder_values opcode_values boundary_values end_values inputs_values outputs_values start_values
    block_values follow_values kept_values shown_values batch_values group_values span_values cell_values depth_values operand_values
    stack_values u32_values dyn_values
main_numbers c p = record {
  count = refl;
  number_1 = family_at (main_values c p) 0 7 (λ j. on_row (entry_1 j) p) refl;
  number_8 = refl;
  number_9 = refl;
  number_10 = refl;
  number_11 = refl;
  number_12 = refl;
  number_13 = refl;
  number_14 = refl;
  number_15 = refl;
  number_16 = family_at (main_values c p) 15 4 (λ j. at_first (entry_16 j) p) refl;
  number_20 = refl;
  number_21 = refl;
  number_22 = refl;
  number_23 = family_at (main_values c p) 22 16 (λ j. at_first (entry_23 c j) p) refl;
  number_39 = refl;
  number_40 = refl;
  number_41 = refl;
  number_42 = refl;
  number_43 = refl;
  number_44 = family_at (main_values c p) 43 16 (λ j. at_last (entry_44 c j) p) refl;
  number_60 = refl;
  number_61 = refl;
  number_62 = refl;
  number_63 = refl;
  number_64 = refl;
  number_65 = refl;
  number_66 = refl;
  number_67 = refl;
  number_68 = refl;
  number_69 = refl;
  number_70 = family_at (main_values c p) 69 4 (λ j. on_row (entry_70 j) p) refl;
  number_74 = refl;
  number_75 = family_at (main_values c p) 74 4 (λ j. on_row (entry_75 j) p) refl;
  number_79 = refl;
  number_80 = refl;
  number_81 = refl;
  number_82 = refl;
  number_83 = refl;
  number_84 = refl;
  number_85 = family_at (main_values c p) 84 4 (λ j. on_pair (entry_85 j) p) refl;
  number_89 = refl;
  number_90 = refl;
  number_91 = refl;
  number_92 = family_at (main_values c p) 91 3 (λ j. on_row (entry_92 j) p) refl;
  number_95 = refl;
  number_96 = family_at (main_values c p) 95 7 (λ j. on_row (entry_96 j) p) refl;
  number_103 = refl;
  number_104 = refl;
  number_105 = refl;
  number_106 = refl;
  number_107 = refl;
  number_108 = refl;
  number_109 = refl;
  number_110 = refl;
  number_111 = refl;
  number_112 = refl;
  number_113 = refl;
  number_114 = refl;
  number_115 = refl;
  number_116 = refl;
  number_117 = refl;
  number_118 = refl;
  number_119 = family_at (main_values c p) 118 16 (λ j. on_pair (entry_119 j) p) refl;
  number_135 = refl;
  number_136 = refl;
  number_137 = refl;
  number_138 = refl;
  number_139 = refl;
  number_140 = refl;
  number_141 = refl;
  number_142 = refl;
  number_143 = refl;
  number_144 = refl;
  number_145 = refl;
  number_146 = refl;
  number_147 = refl;
  number_148 = family_at (main_values c p) 147 4 (λ j. on_row (entry_148 j) p) refl;
}
