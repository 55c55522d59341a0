-- The parts of a run in a setting.
use Rattle.std.specs.Prelude.{ℕ, List, Option, Some, None}
use Rattle.vm_ops.specs.declared.item.Item.{Item}
use Rattle.block_tree.specs.Cycles.{Mark}
use Rattle.block_tree.specs.Trees.{Tree, tree_digest}
use Rattle.block_tree.specs.Execution.{Part, batches_from, execution, operations, read_operations, skip, turns}
use Rattle.machine_cycles.specs.Settings.{constants_in}
use Rattle.machine_cycles.specs.declared.setting.Setting.{Setting}

abbrev pub digest_of : Setting → Tree → List ℕ
digest_of s tree = tree_digest (constants_in s) tree

abbrev pub operations_in : Setting → List Item → Part
operations_in s items = operations (constants_in s) s.kernel.now s.limit items

abbrev pub read_operations_in : Setting → Option (List Item) → Part
read_operations_in s reading = read_operations (constants_in s) s.kernel.now s.limit reading

abbrev pub batches_in : Setting → (List ℕ → Mark) → List (List ℕ) → Part
batches_in s begins batches = batches_from (constants_in s) s.kernel.now s.limit begins batches

abbrev pub execution_in : Setting → Tree → Part
execution_in s tree = execution (constants_in s) s.kernel.now s.limit tree

-- a tree, if there is one
abbrev pub run_option_in : Setting → Option Tree → Part
run_option_in s None = skip
run_option_in s (Some tree) = execution_in s tree

-- at most so many turns of a body, in a loop with this digest
abbrev pub turns_in : Setting → List ℕ → Tree → ℕ → Part
turns_in s digest body n = turns (constants_in s) s.kernel.now s.limit digest (digest_of s body) n (execution_in s body)
