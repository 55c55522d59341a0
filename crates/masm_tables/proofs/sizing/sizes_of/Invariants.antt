use Rattle.masm_tables.proofs.Words.{◌≡◌, length, take, MatchOption, Outside, source_of, IsOutside, AreSizes}
use Rattle.masm_tables.proofs.Dispatches.{IsDispatchExtent}
use Rattle.masm_tables.proofs.sizing.sizes_of.Given as goal

abbrev pub invariant-loop-place : goal.invariant-loop-place
invariant-loop-place l =
    (length l.sizes.items ≡ length (source_of l.ast).procs)
    × ((out : Outside) → IsOutside l.outside.exports.now out
    → AreSizes (source_of l.ast) out (take l.place-index l.order) l.sizes.items
    × MatchOption l.dispatch (Unit {0}) (IsDispatchExtent (source_of l.ast) out))
