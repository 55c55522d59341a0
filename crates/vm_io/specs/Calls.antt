-- Calls that are counted, of which some are to fail.
use Rattle.std.specs.Prelude.{ℕ, ◌+◌, List, [], Contains}
use Rattle.vm_io.specs.Count.{one_more}

pub record CallCounts : Type 0 where
  pub made : ℕ
  pub failing : List ℕ  -- numbers of calls, counted from 1

abbrev pub no_calls : CallCounts
no_calls = record { made = 0; failing = [] }

-- the next call is to fail
abbrev pub IsDue : CallCounts → Type 0
IsDue calls = Contains calls.failing (calls.made + 1)

-- a call was made
abbrev pub called : CallCounts → CallCounts
called calls = record calls { made = one_more calls.made }
