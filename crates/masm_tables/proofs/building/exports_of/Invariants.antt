use Rattle.masm_tables.proofs.Words.{take, AreBuilt}
use Rattle.masm_tables.proofs.building.exports_of.Given as goal

abbrev pub invariant-loop-place : goal.invariant-loop-place
invariant-loop-place l = AreBuilt l.sizes l.lists (take l.place l.procs) l.exports.items
