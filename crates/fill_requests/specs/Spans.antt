-- What the scan for the later batches of a span does at each event.
use Rattle.std.specs.Prelude.{ℕ, Bool, true, false, List, [], ◌∷◌}
use Rattle.vm_ops.specs.declared.kind.Kind.TheVariants as kinds
use Rattle.vm_ops.specs.declared.kind.Kind.{Kind}

-- the span is still open behind it
abbrev pub stays : Kind → Bool
stays kinds.Ordinary = true
stays kinds.Join = false
stays kinds.Split = false
stays kinds.Loop = false
stays kinds.Span = false
stays kinds.Call = false
stays kinds.Syscall = false
stays kinds.Dyn = false
stays kinds.End = false
stays kinds.Repeat = false
stays kinds.Respan = true
stays kinds.Halt = false

-- the batch that begins there
abbrev pub batch_by : Kind → List ℕ → List (List ℕ)
batch_by kinds.Ordinary batch = []
batch_by kinds.Join batch = []
batch_by kinds.Split batch = []
batch_by kinds.Loop batch = []
batch_by kinds.Span batch = []
batch_by kinds.Call batch = []
batch_by kinds.Syscall batch = []
batch_by kinds.Dyn batch = []
batch_by kinds.End batch = []
batch_by kinds.Repeat batch = []
batch_by kinds.Respan batch = batch ∷ []
batch_by kinds.Halt batch = []
