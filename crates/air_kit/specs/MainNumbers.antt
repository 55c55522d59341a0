-- The numbers of the main table's entries: the value of number n is that of the definition `entry_n`, in its place. A family has the
-- number of its first member, and so many members.
use Rattle.std.specs.Prelude.{◌≡◌, ℕ, ◌+◌, ◌<◌, length}
use Rattle.air_kit.specs.Places.{Claim, Spot, at_first, at_last, at_number, on_pair, on_row}
use Rattle.air_kit.specs.MainValues.{main_values}
use Rattle.air_kit.specs.OpcodeValues.{entry_1, entry_8, entry_9, entry_10}
use Rattle.air_kit.specs.BoundaryValues.{entry_11, entry_12, entry_13, entry_14, entry_15, entry_16, entry_20, entry_21, entry_22, entry_23, entry_39, entry_40, entry_41, entry_42, entry_43, entry_44}
use Rattle.air_kit.specs.BlockValues.{entry_60, entry_61, entry_62, entry_63, entry_64, entry_65, entry_66, entry_67, entry_68, entry_69, entry_70, entry_74, entry_75, entry_79, entry_80, entry_81, entry_82, entry_83, entry_84, entry_85, entry_89, entry_90, entry_91}
use Rattle.air_kit.specs.SpanValues.{entry_92, entry_95, entry_96, entry_103, entry_104, entry_105, entry_106, entry_107, entry_108, entry_109, entry_110, entry_111, entry_112, entry_113, entry_114}
use Rattle.air_kit.specs.StackValues.{entry_115, entry_116, entry_117, entry_118, entry_119, entry_135, entry_136, entry_137, entry_138, entry_139}
use Rattle.air_kit.specs.U32Values.{entry_140, entry_141, entry_142, entry_143, entry_144, entry_145, entry_146, entry_147}
use Rattle.air_kit.specs.DynValues.{entry_148}

-- the value of a number, in a row of the main table
abbrev pub main_value : Claim → Spot → ℕ → ℕ
main_value c p number = at_number (main_values c p) number

pub record HasMainNumbers (c : Claim) (p : Spot) : Type 0 where
  pub count : length (main_values c p) ≡ 151
  pub number_1 : (j : ℕ) → j < 7 → main_value c p (1 + j) ≡ on_row (entry_1 j) p
  pub number_8 : main_value c p 8 ≡ on_row entry_8 p
  pub number_9 : main_value c p 9 ≡ at_first entry_9 p
  pub number_10 : main_value c p 10 ≡ on_pair entry_10 p
  pub number_11 : main_value c p 11 ≡ at_first entry_11 p
  pub number_12 : main_value c p 12 ≡ at_first entry_12 p
  pub number_13 : main_value c p 13 ≡ at_first entry_13 p
  pub number_14 : main_value c p 14 ≡ at_first entry_14 p
  pub number_15 : main_value c p 15 ≡ at_first entry_15 p
  pub number_16 : (j : ℕ) → j < 4 → main_value c p (16 + j) ≡ at_first (entry_16 j) p
  pub number_20 : main_value c p 20 ≡ at_first entry_20 p
  pub number_21 : main_value c p 21 ≡ at_first (entry_21 c) p
  pub number_22 : main_value c p 22 ≡ at_first (entry_22 c) p
  pub number_23 : (j : ℕ) → j < 16 → main_value c p (23 + j) ≡ at_first (entry_23 c j) p
  pub number_39 : main_value c p 39 ≡ at_first (entry_39 c) p
  pub number_40 : main_value c p 40 ≡ at_first (entry_40 c) p
  pub number_41 : main_value c p 41 ≡ at_last entry_41 p
  pub number_42 : main_value c p 42 ≡ at_last (entry_42 c) p
  pub number_43 : main_value c p 43 ≡ at_last (entry_43 c) p
  pub number_44 : (j : ℕ) → j < 16 → main_value c p (44 + j) ≡ at_last (entry_44 c j) p
  pub number_60 : main_value c p 60 ≡ on_pair entry_60 p
  pub number_61 : main_value c p 61 ≡ on_row entry_61 p
  pub number_62 : main_value c p 62 ≡ on_pair entry_62 p
  pub number_63 : main_value c p 63 ≡ on_pair entry_63 p
  pub number_64 : main_value c p 64 ≡ on_pair entry_64 p
  pub number_65 : main_value c p 65 ≡ on_pair entry_65 p
  pub number_66 : main_value c p 66 ≡ on_pair entry_66 p
  pub number_67 : main_value c p 67 ≡ on_row entry_67 p
  pub number_68 : main_value c p 68 ≡ on_row entry_68 p
  pub number_69 : main_value c p 69 ≡ on_row entry_69 p
  pub number_70 : (j : ℕ) → j < 4 → main_value c p (70 + j) ≡ on_row (entry_70 j) p
  pub number_74 : main_value c p 74 ≡ on_row entry_74 p
  pub number_75 : (j : ℕ) → j < 4 → main_value c p (75 + j) ≡ on_row (entry_75 j) p
  pub number_79 : main_value c p 79 ≡ on_row entry_79 p
  pub number_80 : main_value c p 80 ≡ on_row entry_80 p
  pub number_81 : main_value c p 81 ≡ on_row entry_81 p
  pub number_82 : main_value c p 82 ≡ on_pair entry_82 p
  pub number_83 : main_value c p 83 ≡ on_pair entry_83 p
  pub number_84 : main_value c p 84 ≡ on_pair entry_84 p
  pub number_85 : (j : ℕ) → j < 4 → main_value c p (85 + j) ≡ on_pair (entry_85 j) p
  pub number_89 : main_value c p 89 ≡ on_pair entry_89 p
  pub number_90 : main_value c p 90 ≡ on_pair entry_90 p
  pub number_91 : main_value c p 91 ≡ on_pair entry_91 p
  pub number_92 : (j : ℕ) → j < 3 → main_value c p (92 + j) ≡ on_row (entry_92 j) p
  pub number_95 : main_value c p 95 ≡ on_row entry_95 p
  pub number_96 : (j : ℕ) → j < 7 → main_value c p (96 + j) ≡ on_row (entry_96 j) p
  pub number_103 : main_value c p 103 ≡ on_row entry_103 p
  pub number_104 : main_value c p 104 ≡ on_pair entry_104 p
  pub number_105 : main_value c p 105 ≡ on_pair entry_105 p
  pub number_106 : main_value c p 106 ≡ on_pair entry_106 p
  pub number_107 : main_value c p 107 ≡ on_row entry_107 p
  pub number_108 : main_value c p 108 ≡ on_pair entry_108 p
  pub number_109 : main_value c p 109 ≡ on_pair entry_109 p
  pub number_110 : main_value c p 110 ≡ on_pair entry_110 p
  pub number_111 : main_value c p 111 ≡ on_pair entry_111 p
  pub number_112 : main_value c p 112 ≡ on_pair entry_112 p
  pub number_113 : main_value c p 113 ≡ on_pair entry_113 p
  pub number_114 : main_value c p 114 ≡ on_row entry_114 p
  pub number_115 : main_value c p 115 ≡ on_row entry_115 p
  pub number_116 : main_value c p 116 ≡ on_pair entry_116 p
  pub number_117 : main_value c p 117 ≡ on_row entry_117 p
  pub number_118 : main_value c p 118 ≡ on_pair entry_118 p
  pub number_119 : (j : ℕ) → j < 16 → main_value c p (119 + j) ≡ on_pair (entry_119 j) p
  pub number_135 : main_value c p 135 ≡ on_pair entry_135 p
  pub number_136 : main_value c p 136 ≡ on_pair entry_136 p
  pub number_137 : main_value c p 137 ≡ on_row entry_137 p
  pub number_138 : main_value c p 138 ≡ on_row entry_138 p
  pub number_139 : main_value c p 139 ≡ on_row entry_139 p
  pub number_140 : main_value c p 140 ≡ on_row entry_140 p
  pub number_141 : main_value c p 141 ≡ on_row entry_141 p
  pub number_142 : main_value c p 142 ≡ on_row entry_142 p
  pub number_143 : main_value c p 143 ≡ on_pair entry_143 p
  pub number_144 : main_value c p 144 ≡ on_pair entry_144 p
  pub number_145 : main_value c p 145 ≡ on_pair entry_145 p
  pub number_146 : main_value c p 146 ≡ on_pair entry_146 p
  pub number_147 : main_value c p 147 ≡ on_row entry_147 p
  pub number_148 : (j : ℕ) → j < 4 → main_value c p (148 + j) ≡ on_row (entry_148 j) p
