-- How often the bodies of loops are repeated, a number for each LOOP.
use Rattle.std.specs.Prelude.{ℕ, List, [], ◌∷◌, slice_index}
use Rattle.machine_cycles.specs.declared.event.Event.{Event}
use Rattle.vm_ops.specs.declared.kind.Kind.TheVariants as kinds
use Rattle.vm_ops.specs.declared.kind.Kind.{Kind}
use Rattle.vm_ops.specs.Codes.{kind_of}
use Rattle.complete_rows.specs.Turns.{repeats}

-- A LOOP has in front of the later numbers how many REPEATs the newest open block has still to come.
abbrev pub turns_by : Kind → List ℕ → List ℕ → List ℕ
turns_by kinds.Ordinary counts turns = turns
turns_by kinds.Join counts turns = turns
turns_by kinds.Split counts turns = turns
turns_by kinds.Loop counts turns = slice_index counts 0 ∷ turns
turns_by kinds.Span counts turns = turns
turns_by kinds.Call counts turns = turns
turns_by kinds.Syscall counts turns = turns
turns_by kinds.Dyn counts turns = turns
turns_by kinds.End counts turns = turns
turns_by kinds.Repeat counts turns = turns
turns_by kinds.Respan counts turns = turns
turns_by kinds.Halt counts turns = turns

unfoldable pub turns_of : List Event → List ℕ
turns_of [] = []
turns_of (e ∷ later) = turns_by (kind_of e.op) (repeats later) (turns_of later)
