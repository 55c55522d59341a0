-- What a row takes from the cycles behind it: the later batches of its span, and how often its loop repeats.
use Rattle.std.specs.Prelude.{ℕ, suc, List, [], ◌∷◌, drop, slice_index}
use Rattle.machine_cycles.specs.declared.event.Event.{Event}
use Rattle.vm_ops.specs.declared.kind.Kind.TheVariants as kinds
use Rattle.vm_ops.specs.declared.kind.Kind.{Kind}
use Rattle.vm_ops.specs.Codes.{kind_of}

-- A span's RESPANs come before its END, with nothing but ordinary operations between them.
abbrev pub respans_by : Kind → List ℕ → List (List ℕ) → List (List ℕ)
respans_by kinds.Ordinary batch later = later
respans_by kinds.Join batch later = []
respans_by kinds.Split batch later = []
respans_by kinds.Loop batch later = []
respans_by kinds.Span batch later = []
respans_by kinds.Call batch later = []
respans_by kinds.Syscall batch later = []
respans_by kinds.Dyn batch later = []
respans_by kinds.End batch later = []
respans_by kinds.Repeat batch later = []
respans_by kinds.Respan batch later = batch ∷ later
respans_by kinds.Halt batch later = []

-- the batches of the span that is open, from the next RESPAN on
unfoldable pub respans : List Event → List (List ℕ)
respans [] = []
respans (e ∷ later) = respans_by (kind_of e.op) e.hash (respans later)

-- Read from the end on, an END opens a block, and its start closes it.
abbrev pub repeats_by : Kind → List ℕ → List ℕ
repeats_by kinds.Ordinary counts = counts
repeats_by kinds.Join counts = drop 1 counts
repeats_by kinds.Split counts = drop 1 counts
repeats_by kinds.Loop counts = drop 1 counts
repeats_by kinds.Span counts = drop 1 counts
repeats_by kinds.Call counts = drop 1 counts
repeats_by kinds.Syscall counts = drop 1 counts
repeats_by kinds.Dyn counts = drop 1 counts
repeats_by kinds.End counts = 0 ∷ counts
repeats_by kinds.Repeat counts = suc (slice_index counts 0) ∷ drop 1 counts
repeats_by kinds.Respan counts = counts
repeats_by kinds.Halt counts = counts

-- how many REPEATs each block that is open has still to come, the newest block first
unfoldable pub repeats : List Event → List ℕ
repeats [] = []
repeats (e ∷ later) = repeats_by (kind_of e.op) (repeats later)
