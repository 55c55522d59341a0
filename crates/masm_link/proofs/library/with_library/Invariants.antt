use Rattle.std.proofs.Common.{◌≡◌, ◌++◌, map, not, take}
use Rattle.std.specs.List.{filter}
use Rattle.masm_tree.specs.Views.{procedure_of}
use Rattle.masm_link.specs.Libraries.{defines, procedure_in}
use Rattle.masm_link.proofs.library.with_library.Given as goal

abbrev pub invariant-loop-place : goal.invariant-loop-place
invariant-loop-place l = record {
  consts : l.whole.consts ≡ l.initial.whole.consts;
  main : l.whole.main ≡ l.initial.whole.main;
  procs : map procedure_of l.whole.procs.items
      ≡ map procedure_of l.initial.whole.procs.items
      ++ map procedure_in (filter (λ p. not (defines (map procedure_of l.initial.whole.procs.items) p.name)) (take l.place l.library));
}
