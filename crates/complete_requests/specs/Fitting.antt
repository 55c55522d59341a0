-- When the requests of a run can be answered.
use Rattle.std.specs.Prelude.{ℕ, ◌+◌, ◌<◌, ◌≤◌, List, length}
use Rattle.vm_field.specs.Limits.{most_kernel}
use Rattle.vm_field.specs.Machine.{State}
use Rattle.block_tree.specs.Execution as run
use Rattle.block_tree.specs.Trees.{Tree}
use Rattle.air_kit.specs.Requests.{Fits}
use Rattle.air_kit.specs.declared.requests.Requests.{Requests}
use Rattle.complete_rows.specs.BlockRows.{IsWholeRun, filled}
use Rattle.complete_requests.specs.Asked.{requests}

-- requests that fit, and that are fewer than so many rows
pub record FitsRows (constants : List ℕ) (kernel : List (List ℕ)) (r : Requests) (rows : List (List ℕ)) : Type 0 where
  pub fits : Fits constants kernel r
  pub few : length r.perms + length r.bits + length r.accesses < length rows

-- under a kernel's list that a table can hold
abbrev pub RunFits : Type 0
RunFits = (constants : List ℕ) (kernel : List (List ℕ)) (limit : ℕ) (tree : Tree) (inputs tape : List ℕ) (u : State) (log : List run.Event)
    → IsWholeRun constants kernel limit tree inputs tape u log → length kernel ≤ most_kernel
    → FitsRows constants kernel (requests constants kernel u log) (filled constants kernel u log)
