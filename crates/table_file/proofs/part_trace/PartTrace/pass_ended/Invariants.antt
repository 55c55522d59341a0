use Rattle.table_file.proofs.Words.{◌≡◌, ◌-◌, ℕ, List, length, PlacesAreSmall, rest_of}
use Rattle.table_file.proofs.part_trace.PartTrace.pass_ended.Given as goal

-- the same is to come
abbrev pub invariant-loop-self : goal.invariant-loop-self
invariant-loop-self l = record {
  each : length l.self.left ≡ 7;
  small : PlacesAreSmall l.self;
  place : l.self.at ≡ l.fn.self.at;
  same : (all : List ℕ) → rest_of all l.fn.self ≡ rest_of all l.self;
}

abbrev pub decreases-loop-self : goal.decreases-loop-self
decreases-loop-self l = 7 - l.self.table
