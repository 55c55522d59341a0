-- What stands at a place of a list of events.
use Rattle.std.specs.Prelude.{◌≡◌, ℕ, List, slice_index_or}
use Rattle.machine_cycles.specs.declared.event.Event.{Event}

abbrev pub ShowsAt : List Event → ℕ → (Event → Type 0) → Type 0
ShowsAt events place P = (e : Event) × (e ≡ slice_index_or events place e) × P e
