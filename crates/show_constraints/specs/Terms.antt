-- What a constraint that is a sum over operations is for one of them: its term, as docs/CONSTRAINTS.md writes it.
use Rattle.std.specs.Prelude.{ℕ, ◌==◌, Bool, false, ◌&&◌, ◌||◌, if◌then◌else◌, List, [], ◌∷◌, codes, Option, Some, None}
use Rattle.vm_ops.specs.declared.op.Op.{Op}
use Rattle.vm_ops.specs.declared.op.Op.TheVariants as ops
use Rattle.air_kit.specs.Flags.{is_op}
use Rattle.show_constraints.specs.declared.terms.Term as declared

-- what the constraint of a number is for these operations
pub record Term : Type 0 where
  pub number : ℕ
  pub ops : List Op
  pub text : List ℕ

abbrev pub at : ℕ → List Op → List ℕ → Term
at number ops text = record { number = number; ops = ops; text = text }

-- as the code has it
abbrev pub term_as_said : declared.Term → Term
term_as_said term = record { number = term.number; ops = term.ops.now; text = term.text.now }

-- those of the main table that do not say of a cell what must be in it
unfoldable pub terms : List Term
terms =
    at 119 (ops.Eqz ∷ []) (codes "s0' - 1 + s0 w0")
    ∷ at 119 (ops.Eq ∷ []) (codes "s0' - 1 + (s0 - s1) w0")
    ∷ at 119 (ops.Inv ∷ []) (codes "s0 s0' - 1")
    ∷ at 135 (ops.Eqz ∷ []) (codes "s0 s0'")
    ∷ at 136 (ops.Eq ∷ []) (codes "(s0 - s1) s0'")
    ∷ at 137 (ops.Not ∷ ops.And ∷ ops.Or ∷ ops.CSwap ∷ ops.CSwapW ∷ []) (codes "s0 (s0 - 1)")
    ∷ at 138 (ops.And ∷ ops.Or ∷ []) (codes "s1 (s1 - 1)")
    ∷ at 144 (ops.U32Sub ∷ []) (codes "s0' (s0' - 1)")
    ∷ at 145 (ops.U32Split ∷ []) (codes "s0 - r")
    ∷ at 145 (ops.U32Add ∷ []) (codes "s0 + s1 - r")
    ∷ at 145 (ops.U32Add3 ∷ []) (codes "s0 + s1 + s2 - r")
    ∷ at 145 (ops.U32Mul ∷ []) (codes "s0 s1 - r")
    ∷ at 145 (ops.U32MAdd ∷ []) (codes "s0 s1 + s2 - r")
    ∷ at 145 (ops.U32Sub ∷ []) (codes "s1 - s0 - s1' + 2^32 s0'")
    ∷ at 145 (ops.U32Div ∷ []) (codes "s1 - s0 s1' - s0'")
    ∷ at 146 (ops.U32Split ∷ ops.U32Mul ∷ ops.U32MAdd ∷ []) (codes "(1 - (2^32 - 1 - s0') w0) s1'")
    ∷ at 147 (ops.U32Div ∷ []) (codes "s0 - L(6) - 1 - L(8)")
    ∷ []

unfoldable pub is_among : Op → List Op → Bool
is_among op [] = false
is_among op (other ∷ others) = is_op op other || is_among op others

-- the term of a number for an operation
unfoldable pub term_in : ℕ → Op → List Term → Option (List ℕ)
term_in number op [] = None
term_in number op (term ∷ later) =
    if (number == term.number) && is_among op term.ops then Some term.text else term_in number op later

abbrev pub term_of : ℕ → Option Op → Option (List ℕ)
term_of number None = None
term_of number (Some op) = term_in number op terms
