-- The sizes of statements.
use Rattle.std.proofs.Common.{◌≡◌, ℕ, zero, suc, ◌<◌, refl, arith}
use Rattle.masm_tree.specs.declared.tree.Stmt.{Stmt}
use Rattle.masm_tree.specs.declared.tree.Stmt.TheOpen.{Stmt-F}
use Rattle.masm_tree.specs.Trees.{Body, Empty}
use Rattle.masm_tree.specs.Views.{add_step, stmt_view}
use Rattle.masm_tree.proofs.Mirror.{view-Instr, view-If, view-While, view-Repeat, view-Exec, view-Call, view-Syscall, view-ProcRef, view-DynExec}
use Rattle.masm_size.specs.Sizes.{Size, Known_sizes, run_of, nothing, both, size_onto, procedure_size}
use Rattle.masm_flat.proofs.Statements.{each}

module _ (known : Known_sizes) (locals : ℕ) where
  onto-step : (f : Stmt-F (Body → Body)) (rest : Body) (before : Size)
      → size_onto known locals (add_step f rest) before
      ≡ size_onto known locals rest (size_onto known locals (add_step f Empty) before)
  onto-step (Stmt-F.Instr at instr) rest before = refl
  onto-step other rest before = refl

  pub onto-first : (s : Stmt) (rest : Body) (before : Size)
      → size_onto known locals (stmt_view s rest) before
      ≡ size_onto known locals rest (size_onto known locals (stmt_view s Empty) before)
  onto-first s rest before =
      each (λ g. (rest : Body) (before : Size)
      → size_onto known locals (g rest) before ≡ size_onto known locals rest (size_onto known locals (g Empty) before))
      onto-step s rest before

pub ruleset sized = (view-Instr, view-Exec, view-Call, view-Syscall, view-ProcRef, view-DynExec, view-If, view-While, view-Repeat)

pub procedure_none : (known : Known_sizes) (n : ℕ) (b : Body) → n ≡ 0 → procedure_size known n b ≡ size_onto known 0 b nothing
procedure_none known zero b h = refl
procedure_none known (suc n) b h = absurd (omega arith)

pub procedure_some : (known : Known_sizes) (n : ℕ) (b : Body) → 0 < n
    → procedure_size known n b ≡ both (size_onto known n b (both nothing (run_of 2))) (run_of 2)
procedure_some known zero b h = absurd (omega arith)
procedure_some known (suc n) b h = refl

pub ruleset procedures = (procedure_none, procedure_some)
