-- The rows of the main table of a run, from its events and the state at its end. One row shows a cycle, and HALT is the last.
use Rattle.std.specs.Prelude.{ℕ, ◌-◌, None, List, [], ◌∷◌, length, slice_index}
use Rattle.vm_field.specs.Machine.{zero_word}
use Rattle.vm_ops.specs.declared.op.Op.TheVariants as ops
use Rattle.op_pack.specs.Reading.{positions_in_use}
use Rattle.machine_cycles.specs.declared.event.Event.{Event}
use Rattle.machine_cycles.specs.declared.event.Visible.{Visible}
use Rattle.air_kit.specs.DeepCells.{key_of}
use Rattle.complete_rows.specs.Decoder.{Decoder, address_of, advance, at_start}
use Rattle.vm_ops.specs.declared.kind.Kind.TheVariants as kinds
use Rattle.vm_ops.specs.declared.kind.Kind.{Kind}
use Rattle.vm_ops.specs.Codes.{kind_of}
use Rattle.complete_rows.specs.Limbs.{limbs_of}
use Rattle.complete_rows.specs.Lines.{Line, laid_out}
use Rattle.complete_rows.specs.Turns.{repeats}
use Rattle.complete_rows.specs.Witnesses.{batch_witnesses, operation_witnesses}

-- the HALT behind the last cycle
abbrev pub halted : Visible → Event
halted last = record {
  op = ops.Halt;
  before = last;
  imm = None;
  tape = zero_word;
  word = zero_word;
  hash = 0 ∷ 0 ∷ 0 ∷ 0 ∷ 0 ∷ 0 ∷ 0 ∷ 0 ∷ [];
  result = 0;
}

-- the state behind an event, before later ones
abbrev pub seen_behind : Visible → List Event → Visible
seen_behind last [] = last
seen_behind last (e ∷ later) = e.before

-- how many cells stand below the sixteenth before the first event, or at the end where there is none
abbrev pub deep_before : Visible → List Event → ℕ
deep_before last events = (seen_behind last events).depth - 16

-- a row of an ordinary operation shows what is left of its group in place of a hash
abbrev pub hash_by : Kind → Decoder → Event → List ℕ
hash_by kinds.Ordinary d e = d.unread.number ∷ []
hash_by kinds.Join d e = e.hash
hash_by kinds.Split d e = e.hash
hash_by kinds.Loop d e = e.hash
hash_by kinds.Span d e = e.hash
hash_by kinds.Call d e = e.hash
hash_by kinds.Syscall d e = e.hash
hash_by kinds.Dyn d e = e.hash
hash_by kinds.End d e = e.hash
hash_by kinds.Repeat d e = e.hash
hash_by kinds.Respan d e = e.hash
hash_by kinds.Halt d e = []

abbrev pub in_use_by : Kind → Event → ℕ
in_use_by kinds.Ordinary e = 0
in_use_by kinds.Join e = 0
in_use_by kinds.Split e = 0
in_use_by kinds.Loop e = 0
in_use_by kinds.Span e = positions_in_use e.hash
in_use_by kinds.Call e = 0
in_use_by kinds.Syscall e = 0
in_use_by kinds.Dyn e = 0
in_use_by kinds.End e = 0
in_use_by kinds.Repeat e = 0
in_use_by kinds.Respan e = positions_in_use e.hash
in_use_by kinds.Halt e = 0

-- a loop's witness says how often its body is repeated
abbrev pub witnesses_by : Kind → Decoder → Event → Visible → List Event → List ℕ
witnesses_by kinds.Ordinary d e next later = operation_witnesses e.op d.next d.unread.number e.before next
witnesses_by kinds.Join d e next later = []
witnesses_by kinds.Split d e next later = []
witnesses_by kinds.Loop d e next later = slice_index (repeats later) 0 ∷ []
witnesses_by kinds.Span d e next later = batch_witnesses e.hash
witnesses_by kinds.Call d e next later = []
witnesses_by kinds.Syscall d e next later = []
witnesses_by kinds.Dyn d e next later = []
witnesses_by kinds.End d e next later = []
witnesses_by kinds.Repeat d e next later = []
witnesses_by kinds.Respan d e next later = batch_witnesses e.hash
witnesses_by kinds.Halt d e next later = []

-- the row of an event, before the state behind it and later events
abbrev pub line_of : Decoder → Event → Visible → List Event → Line
line_of d e next later = record {
  op = e.op;
  seen = e.before;
  address = address_of d.blocks;
  hash = hash_by (kind_of e.op) d e;
  left = length d.unread.positions;
  place = d.unread.place;
  in_use = in_use_by (kind_of e.op) e;
  key = key_of d.keys;
  ha = d.ha;
  witnesses = witnesses_by (kind_of e.op) d e next later;
  limbs = limbs_of e next;
}

abbrev pub row_of : Decoder → Event → Visible → List Event → List ℕ
row_of d e next later = laid_out (line_of d e next later)

-- the rows of events and the HALT behind them, from a decoder on
unfoldable pub fill : Visible → Decoder → List Event → List (List ℕ)
fill last d [] = row_of d (halted last) last [] ∷ []
fill last d (e ∷ later) = row_of d e (seen_behind last later) later ∷ fill last (advance d e later) later

-- the rows of a run that ends in this state
unfoldable pub rows_of_run : Visible → List Event → List (List ℕ)
rows_of_run last events = fill last (at_start (deep_before last events)) events
