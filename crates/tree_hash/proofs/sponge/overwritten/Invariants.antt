use Rattle.std.proofs.Common.{◌≡◌, ◌+◌, ◌++◌, length, take}
use Rattle.tree_hash.proofs.sponge.overwritten.Given as goal

abbrev pub invariant-loop-i : goal.invariant-loop-i
invariant-loop-i l = record {
  written : take (4 + l.i) l.overwritten ≡ take 4 l.state ++ take l.i l.block;
  size : length l.overwritten ≡ 12;
}
