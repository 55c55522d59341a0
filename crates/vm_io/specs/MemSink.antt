-- What `MemSink` is seen as, and what a write leaves.
use Rattle.std.specs.Prelude.{ℕ, List, [], ◌++◌, Some, Result, Ok, Err}
use Rattle.vm_io.specs.Count.{one_more}
use Rattle.vm_io.specs.Calls.{CallCounts, no_calls, called}
use Rattle.vm_io.specs.Sink.{SinkState}
use Rattle.vm_io.specs.MemShelf.{half}
use Rattle.vm_io.specs.declared.sink.SinkStop.{SinkStop}
use Rattle.vm_io.specs.declared.sink.SinkStop.TheVariants as sink

pub record HeldOutput : Type 0 where
  pub taken : List ℕ
  pub faults : ℕ
  pub calls : CallCounts

-- made by `new`
abbrev pub no_output : HeldOutput
no_output = record { taken = []; faults = 0; calls = no_calls }

-- All is told.
abbrev pub told : HeldOutput → SinkState
told s = record { taken = Some s.taken; faults = s.faults }

-- behind a write, by what it answered
abbrev pub after_write : HeldOutput → List ℕ → Result (Unit {0}) SinkStop → HeldOutput
after_write s piece (Ok _) = record s { taken = s.taken ++ piece; calls = called s.calls }
after_write s piece (Err sink.Failed) = record s { taken = s.taken ++ half piece; faults = one_more s.faults; calls = called s.calls }
after_write s piece (Err sink.Memory) = record s { calls = called s.calls }
