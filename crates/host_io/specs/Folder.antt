-- What `FolderShelf` and `StdSink` are seen as: they tell their counts and no more.
use Rattle.std.specs.Prelude.{ℕ, None}
use Rattle.vm_io.specs.Shelf.{ShelfState}
use Rattle.vm_io.specs.Sink.{SinkState}

pub record FaultCounts : Type 0 where
  pub reads : ℕ
  pub writes : ℕ

-- a shelf that tells neither its files nor the name that failed last
abbrev pub untold_shelf : FaultCounts → ShelfState
untold_shelf faults = record { files = None; read_faults = faults.reads; write_faults = faults.writes; failed_name = None }

-- a sink that does not tell what it took
abbrev pub untold_sink : ℕ → SinkState
untold_sink faults = record { taken = None; faults = faults }
