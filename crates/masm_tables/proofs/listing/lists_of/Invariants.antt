use Rattle.masm_tables.proofs.Words.{◌≡◌, length, take, reverse, Outside, HasNoneLeft, source_of, AreExports, IsDispatched}
use Rattle.masm_tables.proofs.Steps.{ArePlaces, BuildsLists, BuildsDigests}
use Rattle.masm_tables.proofs.listing.lists_of.Given as goal

abbrev pub invariant-loop-k : goal.invariant-loop-k
invariant-loop-k l = record {
  lists_count : length l.built.table.lists.items ≡ length (source_of l.ast).procs;
  digests_count : length l.built.digests.items ≡ length (source_of l.ast).procs;
  none : HasNoneLeft l.built.table;
  places : ArePlaces (length (source_of l.ast).procs) (reverse (take l.k l.steps));
  lists :
      (out : Outside) → out.constants ≡ l.fn.digests.permutations → AreExports out.exports l.outside.exports.now
      → BuildsLists (source_of l.ast) out l.built.table.lists.items (reverse (take l.k l.steps));
  digests :
      (out : Outside) → out.constants ≡ l.fn.digests.permutations → AreExports out.exports l.outside.exports.now
      → BuildsDigests (source_of l.ast) out l.built.digests.items (reverse (take l.k l.steps));
  dispatch :
      (out : Outside) → out.constants ≡ l.fn.digests.permutations → AreExports out.exports l.outside.exports.now
      → IsDispatched (source_of l.ast) out l.built.dispatch;
  permutations : l.digests.permutations ≡ l.fn.digests.permutations;
}
