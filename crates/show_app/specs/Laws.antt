-- What `serve_show` leaves, and that it writes no file.
use Rattle.std.specs.Prelude.{◌≡◌, ℕ, List}
use Rattle.vm_io.specs.Shelf.{ShelfState}
use Rattle.vm_io.specs.Sink.{SinkState}
use Rattle.cmd_kit.specs.declared.status.Status.{Status}
use Rattle.cmd_kit.specs.Serving.{ServesAs}
use Rattle.cmd_kit.specs.Statuses.{kind_of}
use Rattle.show_app.specs.Showing.{shown}
use Rattle.show_app.specs.ShowSteps.{steps_of}

-- `serve_show` with these words ended so, from the old shelf and sink to the new ones: as the statuses of `serve` do, over the steps of
-- these words.
abbrev pub Shows : List (List ℕ) → Status → ShelfState → ShelfState → SinkState → SinkState → Type 0
Shows words s old new before now = ServesAs (kind_of s) (steps_of (shown words)) s old new before now

-- no file was written, and no write failed
pub record WritesNothing (old new : ShelfState) : Type 0 where
  pub files : new.files ≡ old.files
  pub faults : new.write_faults ≡ old.write_faults
