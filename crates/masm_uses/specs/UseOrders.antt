-- Orders of a source's procedures in which each stands behind those that it uses, and behind those that its dynexecs may run.
use Rattle.std.specs.Prelude.{ℕ, ◌<◌, List, length, take, slice_index}
use Rattle.std.specs.List.{Contains}
use Rattle.masm_tree.specs.Trees.{Source}
use Rattle.masm_names.specs.Uses.{Use, UsedIn, IsTarget, HasDynexec}

-- all procedures, by their places
pub record IsUseOrder (source : Source) (order : List ℕ) : Type 0 where
  pub all : (place : ℕ) → place < length source.procs → Contains order place
  pub within : (k : ℕ) → k < length order → slice_index order k < length source.procs
  pub behind : (k : ℕ) (u : Use) (j : ℕ) → k < length order → UsedIn source.procs (slice_index order k) u j → Contains (take k order) j
  pub targets : (k j : ℕ) → k < length order → HasDynexec source.procs (slice_index order k) → IsTarget source j
      → Contains (take k order) j
