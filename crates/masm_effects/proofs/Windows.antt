-- The top of a stack as a list of known length, and a list of operations run on it. What an operation reads of a state is
-- read of the window, so that the run of a list computes.
use Rattle.std.proofs.Common.{ℕ, zero, suc, ◌+◌, ◌-◌, max, Bool, true, false, ◌&&◌, ◌||◌, not, nat_le, nat_lt, List, [], ◌∷◌, ◌++◌, length, take, drop, slice_index, Option, None, unwrap_or}
use Rattle.vm_field.specs.Machine.{Core, State, WordMap, word_at}
use Rattle.vm_ops.specs.declared.cause.Cause.{Cause}
use Rattle.vm_ops.specs.declared.cause.Cause.TheVariants as causes
use Rattle.vm_ops.specs.declared.item.Item.{Item}
use Rattle.vm_ops.specs.Moves.{takes_of, leaves_of}
use Rattle.vm_ops.specs.Step.{left_cells, memory_with}
use Rattle.vm_ops.specs.Values.{Seen, advice_of, fmp_after, or_else, trap_of, unless, written}
use Rattle.masm_effects.specs.Effects.{listed}

-- what has changed behind some operations of a list
pub record Window : Type 0 where
  pub turn : ℕ  -- how many they are
  pub fmp : ℕ
  pub cells : List ℕ  -- the known cells, on top of the stack
  pub memory : WordMap
  pub tape : List ℕ

-- the window before the first operation: 24 cells, since the longest list shortens the stack by eight, and an operation
-- sees sixteen
abbrev pub window : State → Window
window s = record {
  turn = 0;
  fmp = s.core.fmp;
  cells = listed 24 0 s.core.stack;
  memory = s.core.memory;
  tape = s.tape;
}

-- what the operation sees, in a run from a state of this core
abbrev pub seen_in : List ℕ → Core → Item → Window → Seen
seen_in constants c item w = record {
  constants = constants;
  immediate = unwrap_or item.imm 0;
  advice = listed (advice_of item.op) 0 w.tape;
  word = listed 4 0 (word_at w.memory c.context (slice_index w.cells 0));
  clock = c.clock + w.turn;
  fmp = w.fmp;
  in_syscall = c.in_syscall;
  digest = listed 4 0 c.digest;
  depth = max 16 (length w.cells + length c.stack - 24);
  cells = take 16 w.cells;
}

-- the window behind the operation where it doesn't trap
abbrev pub next : List ℕ → Core → Item → Window → Window
next constants c item w = record {
  turn = suc w.turn;
  fmp = fmp_after item.op (seen_in constants c item w);
  cells = listed (leaves_of item.op) 0 (left_cells item.op (seen_in constants c item w)) ++ drop (takes_of item.op) w.cells;
  memory = memory_with w.memory c.context (slice_index w.cells 0) (written item.op (seen_in constants c item w));
  tape = drop (advice_of item.op) w.tape;
}

-- whether a tape has fewer elements
abbrev pub is_short : ℕ → List ℕ → Bool
is_short zero tape = false
is_short (suc n) tape = nat_lt (length tape) (suc n)

abbrev pub trap_in : List ℕ → Core → Item → Window → Option Cause
trap_in constants c item w =
    or_else (unless (not (is_short (advice_of item.op) w.tape)) causes.AdviceEmpty) (trap_of item.op (seen_in constants c item w))

-- Whether the known cells are enough: those that an operation sees, and all 24 where it makes the stack longer, so that
-- the depth is known by their count.
abbrev pub has_room : Item → List ℕ → Bool
has_room item cells = nat_le 16 (length cells) && (nat_le (leaves_of item.op) (takes_of item.op) || nat_le 24 (length cells))

-- the window behind a list, as if none trapped
unfoldable pub last : List ℕ → Core → List Item → Window → Window
last constants c [] w = w
last constants c (item ∷ items) w = last constants c items (next constants c item w)

-- the first trap
unfoldable pub trap : List ℕ → Core → List Item → Window → Option Cause
trap constants c [] w = None
trap constants c (item ∷ items) w = or_else (trap_in constants c item w) (trap constants c items (next constants c item w))

-- whether there is room at each operation
unfoldable pub fits : List ℕ → Core → List Item → Window → Bool
fits constants c [] w = true
fits constants c (item ∷ items) w = has_room item w.cells && fits constants c items (next constants c item w)
