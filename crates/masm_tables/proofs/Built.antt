-- Exports, as they are built one behind the other.
use Rattle.masm_tables.proofs.Words.{◌≡◌, ℕ, ◌+◌, ◌<◌, true, false, List, [], ◌∷◌, ◌++◌, length, Vec, Global, sym, ap, subst, ◌∙◌, take, get_or, arith}
use Rattle.masm_tables.proofs.Words.{take_more, length-take-le, Proc, KernelProc, IsBuilt, AreBuilt, exported, inner}
use Rattle.masm_flat.specs.declared.piece.Piece as piece
use Rattle.masm_size.specs.declared.shape.Size as shape

-- one more procedure, exported or not
module _ (sizes : List shape.Size) (lists : List (Vec piece.Piece Global)) (procs : List Proc) (i : ℕ) (p : Proc) (below : i < length procs)
    (is : p ≡ get_or procs i p) where
  longer : take (i + 1) procs ≡ take i procs ++ p ∷ []
  longer = take_more procs i p below ∙ ap (λ q. take i procs ++ q ∷ []) (sym is)

  pub built_more : (out new : List KernelProc) (export : KernelProc) → AreBuilt sizes lists (take i procs) out → p.exported ≡ true
      → IsBuilt sizes lists i p export → new ≡ out ++ export ∷ [] → AreBuilt sizes lists (take (i + 1) procs) new
  built_more out new export before is_so built e =
      subst (AreBuilt sizes lists (take (i + 1) procs)) (sym e)
      (subst (λ ps. AreBuilt sizes lists ps (out ++ export ∷ [])) (sym longer)
      (exported p export before is_so (subst (λ k. IsBuilt sizes lists k p export) (sym (length-take-le i procs (omega arith))) built)))

  pub built_same : (out new : List KernelProc) → AreBuilt sizes lists (take i procs) out → p.exported ≡ false → new ≡ out → AreBuilt sizes lists (take
      (i + 1) procs) new
  built_same out new before not_so e =
      subst (AreBuilt sizes lists (take (i + 1) procs)) (sym e) (subst (λ ps. AreBuilt sizes lists ps out) (sym longer) (inner p before not_so))
