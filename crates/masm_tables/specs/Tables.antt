-- Tables of what is known of procedures, by their places.
use Rattle.std.specs.Prelude.{◌≡◌, ℕ, List, map, Option, Some, MatchOption, Vec, slice_get}
use Rattle.std.specs.Global.{Global}
use Rattle.std.specs.List.{Contains}
use Rattle.block_tree.specs.declared.tree.Tree as code
use Rattle.block_tree.specs.Trees.{Tree}
use Rattle.block_tree.specs.TreeView.{tree_of}
use Rattle.masm_tree.specs.declared.tree.Proc.{Proc}
use Rattle.masm_tree.specs.Trees.{Procedure, Source}
use Rattle.masm_tree.specs.Views.{body_of}
use Rattle.masm_names.specs.declared.names.Names.{Names}
use Rattle.masm_names.specs.Uses.{target_names}
use Rattle.masm_flat.specs.declared.outside.KernelProc.{KernelProc}
use Rattle.masm_flat.specs.Flattening.{flat_with}
use Rattle.masm_tables.specs.declared.listing.Listings.{Listings}
use Rattle.masm_uses.specs.Plans.{IsWanted, IsReferred}
use Rattle.masm_flat.specs.declared.piece.Piece as piece
use Rattle.masm_size.specs.declared.shape.Size as shape
use Rattle.masm_flat.specs.Blocks.{Block, Dyn, Piece, block_of, blocks_from, seen_as, seen_pieces, as_tree}
use Rattle.masm_flat.specs.KnownLists.{list_at, digest_at, lists_known}
use Rattle.masm_size.specs.KnownSizes.{size_at}
use Rattle.masm_flat.specs.Lists.{Outside, IsList, ListsOf, with_locals, block_digest}
use Rattle.masm_size.specs.Sizes.{as_extent, size_of}

-- at these places stand the values of the procedures' lists
abbrev pub AreKnown : {T : Type 0} (source : Source) (out : Outside) (value : List (Piece Block) → T)
    (done : List ℕ) → (ℕ → T) → Type 0
AreKnown source out value done table =
    (place : ℕ) (p : Procedure) (pieces : List (Piece Block)) → Contains done place → slice_get source.procs place ≡ Some p
    → IsList source out p.locals p.body pieces → table place ≡ value (with_locals p.locals pieces)

-- the sizes of the lists
abbrev pub AreSizes : Source → Outside → List ℕ → List shape.Size → Type 0
AreSizes source out done sizes =
    AreKnown source out (λ pieces. size_of (seen_pieces (seen_as as_extent) pieces)) done (λ place. size_at sizes (Some place))

-- at a place stands the list of the procedure, with the trees of its blocks
abbrev pub IsListAt : Source → Outside → List (Vec piece.Piece Global) → ℕ → Type 0
IsListAt source out lists place =
    (p : Procedure) (pieces : List (Piece Block)) → slice_get source.procs place ≡ Some p → IsList source out p.locals p.body pieces
    → list_at lists (Some place) ≡ seen_pieces (seen_as as_tree) (with_locals p.locals pieces)

-- at a place stands the digest of the procedure's tree
abbrev pub IsDigestAt : Source → Outside → List (List ℕ) → ℕ → Type 0
IsDigestAt source out digests place =
    (p : Procedure) (pieces : List (Piece Block)) → slice_get source.procs place ≡ Some p → IsList source out p.locals p.body pieces
    → digest_at digests (Some place) ≡ block_digest out.constants (block_of (with_locals p.locals pieces))

-- the lists that are wanted in the end
abbrev pub AreLists : Source → Outside → List (Vec piece.Piece Global) → Type 0
AreLists source out lists = (place : ℕ) → IsWanted source place → IsListAt source out lists place

-- and the digests
abbrev pub AreDigests : Source → Outside → List (List ℕ) → Type 0
AreDigests source out digests = (place : ℕ) → IsReferred source place → IsDigestAt source out digests place

-- this is the tree of a dynexec
abbrev pub IsDispatch : Source → Outside → Tree → Type 0
IsDispatch source out tree =
    (lists : List (List (Piece Block))) → ListsOf source out (target_names source) lists
    → tree ≡ seen_as as_tree (Dyn (blocks_from (map block_of lists)))

-- where it is made
abbrev pub IsDispatched : Source → Outside → Option code.Tree → Type 0
IsDispatched source out made = MatchOption made (Unit {0}) (λ tree. IsDispatch source out (tree_of tree))

-- the list of a procedure, with the lists and digests that are kept, and this tree of a dynexec
abbrev pub listed : Names → Listings → Option code.Tree → List KernelProc → Proc → List (Piece Tree)
listed names built dispatch kernel p =
    with_locals p.locals
    (flat_with as_tree (lists_known names built.table.lists.items built.digests.items dispatch kernel) p.locals (body_of p.body.items))
