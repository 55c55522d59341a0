-- The locals that instructions name.
use Rattle.std.specs.Prelude.{ℕ, Option, Some, None}
use Rattle.std.specs.List.{AllByRecursion}
use Rattle.masm_instr.specs.Instructions.{HasLocal}
use Rattle.masm_tree.specs.declared.terminal.Leaf.{Leaf}
use Rattle.masm_tree.specs.declared.terminal.Leaf.TheVariants as leaves
use Rattle.masm_tree.specs.Trees.{Body, Empty, Leaf_then, If_then, While_then, Repeat_then, Procedure, Source}

abbrev pub LeafFits : ℕ → Leaf → Type 0
LeafFits locals (leaves.Instr instr) = HasLocal instr locals
LeafFits locals (leaves.Exec name) = Unit {0}
LeafFits locals (leaves.Call name) = Unit {0}
LeafFits locals (leaves.Syscall name) = Unit {0}
LeafFits locals (leaves.ProcRef name) = Unit {0}
LeafFits locals leaves.DynExec = Unit {0}

-- each local that the body names is one of so many
abbrev pub HasLocals : ℕ → Body → Type 0
HasLocals locals Empty = Unit {0}
HasLocals locals (Leaf_then at leaf rest) = LeafFits locals leaf × HasLocals locals rest
HasLocals locals (If_then at first second rest) = HasLocals locals first × HasLocals locals second × HasLocals locals rest
HasLocals locals (While_then at body rest) = HasLocals locals body × HasLocals locals rest
HasLocals locals (Repeat_then at times body rest) = HasLocals locals body × HasLocals locals rest

abbrev pub ProcedureFits : Procedure → Type 0
ProcedureFits p = HasLocals p.locals p.body

abbrev pub MainFits : Option Procedure → Type 0
MainFits None = Unit {0}
MainFits (Some main) = ProcedureFits main

-- each local that a source's instructions name is one of its procedure's
pub record SourceFits (source : Source) : Type 0 where
  pub procs : AllByRecursion ProcedureFits source.procs
  pub main : MainFits source.main
