-- What the rows of a run ask on the buses of the small tables.
use Rattle.std.specs.Prelude.{◌≡◌, ℕ, List, [], ◌∷◌, map}
use Rattle.vm_field.specs.Machine.{State}
use Rattle.block_tree.specs.Execution as run
use Rattle.block_tree.specs.Trees.{Tree}
use Rattle.buses.specs.Counts.{counted, once, over_rows, with_next}
use Rattle.air_kit.specs.MainTuples.{bitwise_asked, hasher_asked, kernel_asked, memory_asked, range_asked}
use Rattle.air_kit.specs.Requests.{access_given, bit_given, perms_given}
use Rattle.air_kit.specs.declared.requests.Requests.{Requests}
use Rattle.machine_cycles.specs.Events.{visible_of}
use Rattle.complete_rows.specs.BlockRows.{IsWholeRun, events_of, filled}
use Rattle.complete_rows.specs.RunRequests.{requests_of}

-- rows that ask these requests, each tuple as often as they have it
pub record RowsAsk (constants : List ℕ) (rows : List (List ℕ)) (r : Requests) : Type 0 where
  pub hasher : (v : List ℕ) → over_rows (with_next hasher_asked) rows v ≡ counted (perms_given constants 1 r.perms) v
  pub kernel : (v : List ℕ) → over_rows (with_next kernel_asked) rows v ≡ counted (map once r.calls) v
  pub range : (v : List ℕ) → over_rows (with_next range_asked) rows v ≡ counted (map (λ n. once (n ∷ [])) r.ranges) v
  pub bitwise : (v : List ℕ) → over_rows (with_next bitwise_asked) rows v ≡ counted (map bit_given r.bits) v
  pub memory : (v : List ℕ) → over_rows (with_next memory_asked) rows v ≡ counted (map access_given r.accesses) v

-- the requests of a run from its log and its last state
abbrev pub requests : List ℕ → List (List ℕ) → State → List run.Event → Requests
requests constants kernel u log = requests_of constants (visible_of u.core) (events_of constants kernel log)

abbrev pub RunAsks : Type 0
RunAsks = (constants : List ℕ) (kernel : List (List ℕ)) (limit : ℕ) (tree : Tree) (inputs tape : List ℕ) (u : State) (log : List run.Event)
    → IsWholeRun constants kernel limit tree inputs tape u log
    → RowsAsk constants (filled constants kernel u log) (requests constants kernel u log)
