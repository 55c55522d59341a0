-- Trees whose instructions are in form, and whose procedures have at most 65,535 locals.
use Rattle.std.specs.Prelude.{◌≤◌, Option, Some, None}
use Rattle.std.specs.List.{AllByRecursion}
use Rattle.masm_instr.specs.Instructions.{IsInForm}
use Rattle.masm_tree.specs.declared.terminal.Leaf.{Leaf}
use Rattle.masm_tree.specs.declared.terminal.Leaf.TheVariants as leaves
use Rattle.masm_tree.specs.Trees.{Body, Empty, Leaf_then, If_then, While_then, Repeat_then, Procedure, Source}

abbrev pub LeafIsInForm : Leaf → Type 0
LeafIsInForm (leaves.Instr instr) = IsInForm instr
LeafIsInForm (leaves.Exec name) = Unit {0}
LeafIsInForm (leaves.Call name) = Unit {0}
LeafIsInForm (leaves.Syscall name) = Unit {0}
LeafIsInForm (leaves.ProcRef name) = Unit {0}
LeafIsInForm leaves.DynExec = Unit {0}

-- each instruction of the body is in form
abbrev pub BodyIsInForm : Body → Type 0
BodyIsInForm Empty = Unit {0}
BodyIsInForm (Leaf_then at leaf rest) = LeafIsInForm leaf × BodyIsInForm rest
BodyIsInForm (If_then at first second rest) = BodyIsInForm first × BodyIsInForm second × BodyIsInForm rest
BodyIsInForm (While_then at body rest) = BodyIsInForm body × BodyIsInForm rest
BodyIsInForm (Repeat_then at times body rest) = BodyIsInForm body × BodyIsInForm rest

abbrev pub ProcedureIsInForm : Procedure → Type 0
ProcedureIsInForm p = (p.locals ≤ 65535) × BodyIsInForm p.body

abbrev pub MainIsInForm : Option Procedure → Type 0
MainIsInForm None = Unit {0}
MainIsInForm (Some main) = ProcedureIsInForm main

-- each instruction of a source is in form, and each procedure has at most 65,535 locals
pub record SourceIsInForm (source : Source) : Type 0 where
  pub procs : AllByRecursion ProcedureIsInForm source.procs
  pub main : MainIsInForm source.main
