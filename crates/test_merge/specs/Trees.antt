-- Trees whose blocks are hashed in the table.
use Rattle.std.specs.Prelude.{ℕ, List, [], ◌∷◌}
use Rattle.vm_field.specs.Machine.{zero_word}
use Rattle.tree_merge.specs.Placed.{PlacedTree, Entry, Opaque, Span, Split, Loop, Dyn, placed_from}
use Rattle.test_merge.specs.Hashes.{zeros}

abbrev pub unknown : PlacedTree
unknown = Opaque zero_word

abbrev pub one_batch : PlacedTree
one_batch = Span 9 (zeros ∷ [])

abbrev pub two_batches : PlacedTree
two_batches = Span 17 (zeros ∷ zeros ∷ [])

-- the one that ran is the first branch, or the second
abbrev pub first_ran : PlacedTree
first_ran = Split 33 one_batch unknown

abbrev pub second_ran : PlacedTree
second_ran = Split 33 unknown two_batches

-- a loop that was not entered, and one that was
abbrev pub not_entered : PlacedTree
not_entered = Loop 41 unknown

abbrev pub entered : PlacedTree
entered = Loop 41 one_batch

-- two words that are not the digest of a batch of zeros
abbrev pub ones : List ℕ
ones = 1 ∷ 1 ∷ 1 ∷ 1 ∷ []

abbrev pub one_in_front : List ℕ
one_in_front = 1 ∷ 0 ∷ 0 ∷ 0 ∷ []

-- a target that was not entered
abbrev pub untaken : List ℕ → Entry
untaken digest = record { digest = digest; tree = Opaque digest }

-- a target that was, with a digest of zeros
abbrev pub taken : PlacedTree → Entry
taken tree = record { digest = zero_word; tree = tree }

abbrev pub dynamic_of : List Entry → PlacedTree
dynamic_of entries = Dyn 49 (placed_from entries)

-- two targets, neither of which was entered
abbrev pub none_taken : PlacedTree
none_taken = dynamic_of (untaken zero_word ∷ untaken ones ∷ [])

-- two targets, the second of which was entered
abbrev pub second_taken : PlacedTree
second_taken = dynamic_of (untaken one_in_front ∷ taken one_batch ∷ [])

-- one target, which was entered
abbrev pub taken_with : PlacedTree → PlacedTree
taken_with tree = dynamic_of (taken tree ∷ [])
