-- What the main table asks of the small ones, when that can be answered, and when tables answer it.
use Rattle.std.specs.Prelude.{◌≡◌, ◌≢◌, ℕ, ◌+◌, ◌*◌, ◌^◌, ◌<◌, ◌≤◌, Bool, true, false, if◌then◌else◌, List, [], ◌∷◌, ◌++◌, map, take, drop, length, slice_index, slice_index_or, All, bit_and, bit_xor}
use Rattle.vm_field.specs.Machine.{zero_word}
use Rattle.vm_field.specs.Permutation.{permuted}
use Rattle.buses.specs.Counts.{Counted, counted, once, over_rows}
use Rattle.buses.specs.declared.bus.Bus.{Bus}
use Rattle.buses.specs.declared.bus.Bus.TheVariants as bus
use Rattle.chip_columns.specs.LeftColumns.{key}
use Rattle.air_kit.specs.declared.requests.Perm.{Perm}
use Rattle.air_kit.specs.declared.requests.BitOp.{BitOp}
use Rattle.air_kit.specs.declared.requests.Access.{Access}
use Rattle.air_kit.specs.declared.requests.Requests.{Requests}
use Rattle.air_kit.specs.declared.trace.TableName.{TableName}
use Rattle.air_kit.specs.declared.trace.TableName.TheVariants as table
use Rattle.air_kit.specs.declared.trace.Trace.{Trace}
use Rattle.air_kit.specs.Places.{Claim}
use Rattle.air_kit.specs.Traces.{HasCounts, rows_of, value_at, most_rows}
use Rattle.air_kit.specs.ChipTuples.{chip_given, memory_ranges}
use Rattle.air_kit.specs.Acceptance.{over_chips}

-- Permutations follow one another: a hash that goes on is gone on with from its capacity, one that begins has zeros there but for
-- its domain, and a permutation of HPERM is no part of a hash.
abbrev pub FollowsOn : List ℕ → Bool → List ℕ → List Perm → Type 0
FollowsOn constants going state [] = going ≡ false
FollowsOn constants going state (p ∷ perms) =
    (p.cont ≡ going) × (p.mode ≡ true → (p.cont ≡ false) × (p.more ≡ false))
    × (p.cont ≡ true → take 4 p.start ≡ take 4 state)
    × (p.mode ≡ false → p.cont ≡ false → (slice_index p.start 0 ≡ 0) × (slice_index p.start 2 ≡ 0) × (slice_index p.start 3 ≡ 0))
    × FollowsOn constants p.more (permuted constants p.start) perms

-- the same word, at an earlier clock
pub record IsEarlier (a other : Access) : Type 0 where
  pub ctx : other.ctx ≡ a.ctx
  pub addr : other.addr ≡ a.addr
  pub clk : other.clk < a.clk

-- the word before an access: the one behind the last earlier access of the same place, or zeros
pub data IsWordBefore (accesses : List Access) (a : Access) : List ℕ → Type 0 where
  never : ((i : ℕ) (other : Access) → slice_index_or accesses i a ≡ other → IsEarlier a other → ⊥) → IsWordBefore accesses a zero_word
  last : (i : ℕ) (other : Access) → slice_index_or accesses i a ≡ other → IsEarlier a other
      → ((j : ℕ) (between : Access) → slice_index_or accesses j a ≡ between → IsEarlier a between → between.clk ≤ other.clk)
      → IsWordBefore accesses a other.word

-- an access that shows what the accesses before it leave
pub record FitsMemory (accesses : List Access) (a : Access) : Type 0 where
  pub kind : a.kind ≤ 2
  pub clk : a.clk < 2 ^ 19
  pub before : List ℕ
  pub is_before : IsWordBefore accesses a before
  pub reads : a.kind ≡ 0 → a.word ≡ before
  pub keeps : a.kind ≡ 2 → drop 1 a.word ≡ drop 1 before

-- so many rows the small tables would have
pub record HasRoom (kernel : List (List ℕ)) (r : Requests) : Type 0 where
  pub perms : 8 * length r.perms ≤ most_rows table.Hasher
  pub bits : 8 * length r.bits ≤ most_rows table.Bitwise
  pub accesses : length r.accesses ≤ most_rows table.Memory
  pub words : length kernel ≤ most_rows table.Kernel
  pub keys : length r.keys ≤ most_rows table.Left

-- the requests can be answered under these constants and with this kernel
pub record Fits (constants : List ℕ) (kernel : List (List ℕ)) (r : Requests) : Type 0 where
  pub perms : FollowsOn constants false [] r.perms
  pub accesses : All (FitsMemory r.accesses) r.accesses
  pub apart : (i j : ℕ) (a b : Access) → slice_index_or r.accesses i a ≡ a → slice_index_or r.accesses j b ≡ b → a.clk ≡ b.clk
      → i < length r.accesses → j < length r.accesses → i ≡ j
  pub calls : All (λ word. (i : ℕ) × (i < length kernel) × (slice_index_or kernel i [] ≡ word)) r.calls
  pub room : HasRoom kernel r

-- What the answers give: each permutation at its address, the first at 1, and eight rows further the next one.
abbrev pub perm_begins : ℕ → Perm → List Counted
perm_begins address p =
    if p.mode then once (4 ∷ address ∷ p.start) ∷ []
    else if p.cont then once (2 ∷ address ∷ drop 4 p.start) ∷ []
    else once (1 ∷ address ∷ slice_index p.start 1 ∷ drop 4 p.start) ∷ []

abbrev pub perm_ends : List ℕ → ℕ → Perm → List Counted
perm_ends constants address p =
    if p.mode then once (5 ∷ address ∷ permuted constants p.start) ∷ []
    else if p.more then [] else once (3 ∷ address ∷ take 4 (drop 4 (permuted constants p.start))) ∷ []

unfoldable pub perms_given : List ℕ → ℕ → List Perm → List Counted
perms_given constants address [] = []
perms_given constants address (p ∷ perms) =
    perm_begins address p ++ (perm_ends constants (address + 7) p ++ perms_given constants (address + 8) perms)

abbrev pub bit_given : BitOp → Counted
bit_given op =
    if op.xor then once (1 ∷ op.a ∷ op.b ∷ bit_xor op.a op.b ∷ []) else once (0 ∷ op.a ∷ op.b ∷ bit_and op.a op.b ∷ [])

abbrev pub access_given : Access → Counted
access_given a = once (a.kind ∷ a.ctx ∷ a.addr ∷ a.clk ∷ a.word)

-- what is given on the bus
abbrev pub answers_on : List ℕ → Requests → Bus → List Counted
answers_on constants r bus.Hasher = perms_given constants 1 r.perms
answers_on constants r bus.Bitwise = map bit_given r.bits
answers_on constants r bus.Memory = map access_given r.accesses
answers_on constants r bus.Kernel = map once r.calls
answers_on constants r bus = []

-- The small tables of a trace answer the requests: their entries are 0 whatever else the statement says, and they give what is
-- asked and no more.
pub record Answers (constants : List ℕ) (kernel : List (List ℕ)) (r : Requests) (t : Trace) : Type 0 where
  pub counts : HasCounts t
  pub words : length t.kernel ≡ length kernel
  pub keys : map key t.left ≡ r.keys
  pub zero : (c : Claim) (name : TableName) (row number : ℕ) → c.constants ≡ constants → c.kernel ≡ kernel → name ≢ table.Main
      → row < length (rows_of t name) → value_at c t name row number ≡ 0
  pub given : (on : Bus) (u : List ℕ) → on ≢ bus.Range
      → over_chips (λ name rows. over_rows (chip_given on name) rows u) t ≡ counted (answers_on constants r on) u
  pub ranges : (u : List ℕ)
      → over_rows (chip_given bus.Range table.Range) t.range u
      ≡ counted (map (λ v. once (v ∷ [])) r.ranges) u + over_rows (λ i x next. memory_ranges x) t.memory u
