-- What is known of procedures in memory, as flattening sees it.
use Rattle.std.specs.Prelude.{ℕ, List, [], map, Option, Some, Vec, unwrap_or, option_and_then, bytes_eq, slice_get}
use Rattle.std.specs.Global.{Global}
use Rattle.std.specs.List.{find}
use Rattle.std.specs.Option.{option_map}
use Rattle.vm_field.specs.Machine.{zero_word}
use Rattle.block_tree.specs.declared.tree.Tree as code
use Rattle.block_tree.specs.Trees.{Tree, Opaque}
use Rattle.block_tree.specs.TreeView.{tree_of}
use Rattle.masm_flat.specs.declared.outside.KernelProc.{KernelProc}
use Rattle.masm_flat.specs.declared.piece.Piece as piece
use Rattle.masm_flat.specs.Blocks.{Piece, as_tree, whole}
use Rattle.masm_flat.specs.Flattening.{Known}
use Rattle.masm_flat.specs.Views.{pieces_of}
use Rattle.masm_names.specs.declared.names.Names.{Names}
use Rattle.masm_names.specs.Names.{place_at}

-- the list of this number
abbrev pub list_at : List (Vec piece.Piece Global) → Option ℕ → List (Piece Tree)
list_at lists number = unwrap_or (option_map (λ v. pieces_of v.items) (option_and_then (slice_get lists) number)) []

-- the digest of this number
abbrev pub digest_at : List (List ℕ) → Option ℕ → List ℕ
digest_at digests number = unwrap_or (option_and_then (slice_get digests) number) zero_word

-- the tree of the kernel's first procedure of that name
abbrev pub tree_at : List KernelProc → List ℕ → Tree
tree_at kernel name = unwrap_or (option_map (λ p. tree_of p.tree) (find (λ p. bytes_eq p.name name) kernel)) (Opaque zero_word)

-- the tree of a dynexec, once it is made; else a block of which only a digest of zeros is known
abbrev pub dispatch_in : Option code.Tree → Tree
dispatch_in made = unwrap_or (option_map tree_of made) (Opaque zero_word)

-- the tree of a dynexec by the lists of its targets
abbrev pub dispatch_of : List (Vec piece.Piece Global) → List ℕ → Tree
dispatch_of lists targets = as_tree.dyn (map (λ place. whole as_tree (list_at lists (Some place))) targets)

-- what is known with these lists and digests, by the places of names
abbrev pub lists_known : Names → List (Vec piece.Piece Global) → List (List ℕ) → Option code.Tree → List KernelProc → Known Tree
lists_known names lists digests dispatch kernel = record {
  list = λ name. list_at lists (place_at names name);
  digest = λ name. digest_at digests (place_at names name);
  exported = tree_at kernel;
  dispatch = dispatch_in dispatch;
}
