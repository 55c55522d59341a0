-- What a sink is seen as, and what a write does to it.
use Rattle.std.specs.Prelude.{◌≡◌, ℕ, List, ◌++◌, take, Option, Result, Ok, Err}
use Rattle.std.specs.Option.{option_map}
use Rattle.vm_io.specs.Count.{Rose}
use Rattle.vm_io.specs.declared.sink.SinkStop.{SinkStop}
use Rattle.vm_io.specs.declared.sink.SinkStop.TheVariants as sink

-- A sink may leave untold what it took.
pub record SinkState : Type 0 where
  pub taken : Option (List ℕ)
  pub faults : ℕ

-- a piece was taken, behind what was taken before
abbrev pub with_piece : Option (List ℕ) → List ℕ → Option (List ℕ)
with_piece told piece = option_map (λ taken. taken ++ piece) told

-- a write that failed: a front of the piece was taken
pub record SinkFails (old new : SinkState) (piece : List ℕ) : Type 0 where
  pub front : ℕ
  pub taken : new.taken ≡ with_piece old.taken (take front piece)
  pub faults : Rose old.faults new.faults

-- A write of a piece, by what it answers.
abbrev pub SinkStep : SinkState → SinkState → List ℕ → Result (Unit {0}) SinkStop → Type 0
SinkStep old new piece (Ok _) = new ≡ record old { taken = with_piece old.taken piece }
SinkStep old new piece (Err sink.Failed) = SinkFails old new piece
SinkStep old new piece (Err sink.Memory) = new ≡ old
