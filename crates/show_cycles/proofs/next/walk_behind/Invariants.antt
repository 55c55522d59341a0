use Rattle.std.proofs.Common.{◌≡◌, drop}
use Rattle.masm_places.specs.Indexed.{texts_in}
use Rattle.masm_places.specs.Pending.{walk_of}
use Rattle.masm_places.specs.Walks.{begin}
use Rattle.show_cycles.specs.NextLine.{behind}
use Rattle.show_cycles.proofs.next.walk_behind.Given as goal

-- the walk goes on by what is left
abbrev pub invariant-loop-place : goal.invariant-loop-place
invariant-loop-place l =
    behind (texts_in l.sources) (walk_of l.walk) (drop l.place l.log) ≡ behind (texts_in l.sources) (begin (texts_in l.sources)) l.log
