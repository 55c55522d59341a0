-- How great the decoder's numbers are.
use Rattle.std.specs.Prelude.{ℕ, ◌+◌, ◌*◌, ◌^◌, ◌<◌, ◌≤◌, List, length, All}
use Rattle.vm_field.specs.Limits.{most_cycles}
use Rattle.vm_field.specs.Field.{prime}
use Rattle.machine_cycles.specs.declared.event.Event.{Event}
use Rattle.complete_rows.specs.Decoder.{Decoder, address_of}
use Rattle.complete_rows.specs.Turns.{respans}

-- behind an event, before so many later batches of its span, they still have 64 bits
pub record HasRoom (d : Decoder) (batches : ℕ) : Type 0 where
  pub next : d.next + 8 * (batches + 1) < 2 ^ 64
  pub ha : d.ha + 8 < 2 ^ 64
  pub place : d.unread.place + 1 < 2 ^ 64

-- what a row shows of them are elements
pub record ShowsElements (d : Decoder) : Type 0 where
  pub next : d.next < prime
  pub ha : d.ha < prime
  pub address : address_of d.blocks < prime
  pub left : length d.unread.positions < prime
  pub place : d.unread.place < prime

-- So it is behind so many events of a run of few, before later ones: a permutation takes eight addresses, and there are no more of
-- them than events, with those of the batches that are still to come.
pub record IsSmall (d : Decoder) (count : ℕ) (later : List Event) : Type 0 where
  pub next : d.next ≤ 1 + 8 * (count + length (respans later))
  pub ha : d.ha ≤ 1 + 8 * count
  pub blocks : All (λ b. b.address < prime) d.blocks
  pub left : length d.unread.positions ≤ 7
  pub place : d.unread.place ≤ count
  pub few : count + length later ≤ most_cycles
