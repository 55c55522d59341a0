-- The digests of whole trees are words.
use Rattle.std.proofs.Common.{◌≡◌, ℕ, List, [], ◌∷◌, length, refl, arith}
use Rattle.vm_field.specs.Limits.{number_of_constants}
use Rattle.vm_field.specs.Machine.{IsWord}
use Rattle.rpo_hash.proofs.Digests.{hashed-IsWord}
use Rattle.block_tree.specs.Trees.{Tree, Opaque, Span, IsWhole, tree_digest}

pub whole-digest : (constants : List ℕ) (tree : Tree) → length constants ≡ number_of_constants → IsWhole tree → IsWord (tree_digest constants tree)
whole-digest constants (Opaque digest) len w = w
whole-digest constants (Span []) len w = absurd (w.0 refl)
whole-digest constants (Span (batch ∷ later)) len w = hashed-IsWord constants _ _ len (omega arith)
whole-digest constants _ len w = hashed-IsWord constants _ _ len (omega arith)
