-- A cycle in a setting.
use Rattle.std.specs.Prelude.{ℕ, List}
use Rattle.rpo_hash.specs.Constants.{constants_of}
use Rattle.block_tree.specs.Cycles.{Mark}
use Rattle.block_tree.specs.Execution.{Part, cycle}
use Rattle.machine_cycles.specs.declared.setting.Setting.{Setting}

-- the constants of the permutation
abbrev pub constants_in : Setting → List ℕ
constants_in s = constants_of s.params.now

abbrev pub cycle_in : Setting → Mark → Part
cycle_in s mark = cycle (constants_in s) s.kernel.now s.limit mark
