-- What the rows of a run show beside the machine's state: the blocks that are open with their hasher addresses, what is left of the
-- batch, and the keys of the cells below the sixteenth. Each cycle moves it on.
use Rattle.std.specs.Prelude.{ℕ, suc, ◌+◌, ◌*◌, Bool, ◌==◌, ◌||◌, if◌then◌else◌, List, [], ◌∷◌, drop, length, slice_index}
use Rattle.vm_ops.specs.Moves.{shift_of}
use Rattle.vm_ops.specs.declared.op.Op.{Op}
use Rattle.vm_ops.specs.declared.op.Op.TheVariants as ops
use Rattle.vm_ops.specs.declared.op.Shift.{Shift}
use Rattle.vm_ops.specs.declared.op.Shift.TheVariants.{Left, Stay, Right}
use Rattle.air_kit.specs.DeepCells.{keys_at_start}
use Rattle.air_kit.specs.Flags.{is_op}
use Rattle.machine_cycles.specs.declared.event.Event.{Event}
use Rattle.complete_rows.specs.Groups.{Unread, nothing_unread, batch_begun, taken_from}
use Rattle.vm_ops.specs.declared.kind.Kind.TheVariants as kinds
use Rattle.vm_ops.specs.declared.kind.Kind.{Kind}
use Rattle.vm_ops.specs.Codes.{kind_of}
use Rattle.complete_rows.specs.Turns.{respans}

-- a block that was started and not ended: where its hash starts, and the keys of the cells that a call hides
pub record Open : Type 0 where
  pub address : ℕ
  pub hidden : List ℕ

pub record Decoder : Type 0 where
  pub blocks : List Open  -- the newest first
  pub next : ℕ  -- the hasher address of the next permutation
  pub ha : ℕ  -- that of the batch; 0 outside of spans
  pub unread : Unread  -- of the batch
  pub keys : List ℕ  -- of the cells below the sixteenth, the newest first

-- the address of the newest block; 0 where none is open
abbrev pub address_of : List Open → ℕ
address_of [] = 0
address_of (block ∷ blocks) = block.address

-- the keys that come back where the newest block ends
abbrev pub hidden_of : List Open → List ℕ
hidden_of [] = []
hidden_of (block ∷ blocks) = block.hidden

-- a cell that is pushed below the sixteenth has the clock of its row as its key
abbrev pub keys_after : Shift → ℕ → List ℕ → List ℕ
keys_after Right clock keys = clock ∷ keys
keys_after Left clock keys = drop 1 keys
keys_after Stay clock keys = keys

-- HPERM takes a permutation
abbrev pub next_after : Op → ℕ → ℕ
next_after op next = if is_op op ops.HPerm then next + 8 else next

-- a block starts whose hash takes so many permutations
abbrev pub opened : ℕ → Decoder → Decoder
opened permutations d = record d { blocks = record { address = d.next; hidden = [] } ∷ d.blocks; next = d.next + 8 * permutations }

-- the condition on top is popped
abbrev pub popped : Decoder → Decoder
popped d = record d { keys = drop 1 d.keys }

-- a call hides the cells below the sixteenth
abbrev pub called : Decoder → Decoder
called d = record d { blocks = record { address = d.next; hidden = d.keys } ∷ d.blocks; next = d.next + 8; keys = [] }

-- the block that ends is a loop that was entered; it is a call
abbrev pub ends_loop : List ℕ → Bool
ends_loop hash = slice_index hash 4 == 1

abbrev pub ends_call : List ℕ → Bool
ends_call hash = slice_index hash 6 == 1 || slice_index hash 7 == 1

abbrev pub keys_behind : List ℕ → Decoder → List ℕ
keys_behind hash d =
    if ends_loop hash then drop 1 d.keys else if ends_call hash then hidden_of d.blocks else d.keys

abbrev pub closed : List ℕ → Decoder → Decoder
closed hash d = record d { blocks = drop 1 d.blocks; ha = 0; keys = keys_behind hash d }

abbrev pub advance_by : Kind → Decoder → Event → List Event → Decoder
advance_by kinds.Ordinary d e later = record d {
  next = next_after e.op d.next;
  unread = taken_from (is_op e.op ops.Push) d.unread;
  keys = keys_after (shift_of e.op) e.before.clock d.keys;
}
advance_by kinds.Join d e later = opened 1 d
advance_by kinds.Split d e later = popped (opened 1 d)
advance_by kinds.Loop d e later = popped (opened 1 d)
advance_by kinds.Span d e later = record (opened (suc (length (respans later))) d) { ha = d.next; unread = batch_begun e.hash }
advance_by kinds.Call d e later = called d
advance_by kinds.Syscall d e later = called d
advance_by kinds.Dyn d e later = opened 1 d
advance_by kinds.End d e later = closed e.hash d
advance_by kinds.Repeat d e later = popped d
advance_by kinds.Respan d e later = record d { ha = d.ha + 8; unread = batch_begun e.hash }
advance_by kinds.Halt d e later = d

-- behind an event, before later ones
abbrev pub advance : Decoder → Event → List Event → Decoder
advance d e later = advance_by (kind_of e.op) d e later

-- Before the first cycle, with so many inputs below the sixteenth. Addresses count from 1.
abbrev pub at_start : ℕ → Decoder
at_start deep = record { blocks = []; next = 1; ha = 0; unread = nothing_unread; keys = keys_at_start deep }

-- behind all events
unfoldable pub decoder_after : Decoder → List Event → Decoder
decoder_after d [] = d
decoder_after d (e ∷ later) = decoder_after (advance d e later) later
