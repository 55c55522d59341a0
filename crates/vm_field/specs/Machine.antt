-- The machine's state, and where a run starts and ends (docs/MACHINE.md).
use Rattle.std.specs.Prelude.{◌≡◌, ℕ, ◌-◌, ◌^◌, ◌<◌, ◌≤◌, Bool, false, List, [], ◌∷◌, ◌++◌, length, replicate, unwrap_or}
use Rattle.std.specs.declared.cmp.Ordering.{Ordering}
use Rattle.std.specs.Ordering.{nat_cmp, ordering_then}
use Rattle.std.specs.FinMap.{FinMap, get, empty}
use Rattle.vm_field.specs.Field.{prime, AreElements}

-- memory places, by context and then by address
abbrev pub place_cmp : ℕ × ℕ → ℕ × ℕ → Ordering
place_cmp a b = ordering_then (nat_cmp a.0 b.0) (nat_cmp a.1 b.1)

-- the words that were written, by context and address
abbrev pub WordMap : Type 0
WordMap = FinMap place_cmp (List ℕ)

-- four zeros
abbrev pub zero_word : List ℕ
zero_word = 0 ∷ 0 ∷ 0 ∷ 0 ∷ []

-- a word: four elements
pub record IsWord (w : List ℕ) : Type 0 where
  pub size : length w ≡ 4
  pub below : AreElements w

-- the word at an address of a context; a word that was never written is zero
abbrev pub word_at : WordMap → ℕ → ℕ → List ℕ
word_at memory context address = unwrap_or (get memory (context, address)) zero_word

-- all but the tape
pub record Core : Type 0 where
  pub clock : ℕ
  pub context : ℕ
  pub fmp : ℕ  -- the frame pointer
  pub in_syscall : Bool
  pub digest : List ℕ  -- of the function that runs
  pub nesting : ℕ  -- blocks started and not ended
  pub stack : List ℕ  -- top first, at least sixteen cells
  pub memory : WordMap

pub record State : Type 0 where
  pub core : Core
  pub tape : List ℕ  -- the advice that is left

-- at least sixteen cells, and each part is made of elements
pub record IsWellFormedCore (c : Core) : Type 0 where
  pub deep : 16 ≤ length c.stack
  pub cells : AreElements c.stack
  pub fmp : c.fmp < prime
  pub digest : IsWord c.digest
  pub words : (context address : ℕ) → IsWord (word_at c.memory context address)

-- a state of the machine: its tape is made of elements, too
pub record IsWellFormed (s : State) : Type 0 where
  pub core : IsWellFormedCore s.core
  pub tape : AreElements s.tape

-- at least sixteen cells: zeros stand below
abbrev pub filled_up : List ℕ → List ℕ
filled_up cells = cells ++ replicate (16 - length cells) 0

-- before the first cycle
unfoldable pub start : List ℕ → List ℕ → State
start inputs tape = record {
  core = record {
    clock = 0;
    context = 0;
    fmp = 2 ^ 30;
    in_syscall = false;
    digest = zero_word;
    nesting = 0;
    stack = filled_up inputs;
    memory = empty;
  };
  tape = tape;
}

-- the run has ended with these outputs, and its tape is used up
pub record Stands (s : State) (outputs : List ℕ) : Type 0 where
  pub stack : s.core.stack ≡ outputs
  pub tape : s.tape ≡ []
