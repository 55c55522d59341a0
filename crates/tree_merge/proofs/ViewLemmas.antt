-- A dynamic block in memory is seen as its list's targets.
use Rattle.std.proofs.Common.{◌≡◌, ℕ, ◌+◌, List, [], ◌∷◌, drop, get_or, Vec, Global, refl, ap, sym, ◌∙◌}
use Rattle.std.proofs.lemmas.List.{drop-map}
use Rattle.std.proofs.Math.ListN.{get_or-map}
use mathlib.Core.Former.{Count}
use Rattle.block_tree.specs.Trees as blocks
use Rattle.block_tree.specs.Trees.{targets_from}
use Rattle.tree_merge.specs.Placed as places
use Rattle.tree_merge.specs.Placed.{placed, Entry, placed_from, plain, plain_targets}
use Rattle.tree_merge.specs.Targets.{trees_in}
use Rattle.tree_merge.specs.declared.addr_tree.AddrTree.{AddrTree, Row_of-Target, end_of-Target, more_of-Target, items-the_row-Target, items_hidden-the_row-Target-0}
use Rattle.tree_merge.specs.declared.addr_tree.AddrTree.TheVariants.{Dyn, Dyn'}
use Rattle.tree_merge.specs.declared.addr_tree.Target.{Target}
use Rattle.tree_merge.specs.AddrView.{placed_of, row_targets, entry_of, entries_of}

row-items : (n : Count) (row : Row_of-Target n) → row_targets row ≡ placed_from (entries_of (items-the_row-Target n row))
row-items n end_of-Target = refl
row-items n (more_of-Target digest first more) = ap (placed digest (placed_of first)) (row-items _ more)

-- the row of a dynamic block, which is not inferred
abbrev row_of : AddrTree → (n : Count) × Row_of-Target n
row_of (Dyn' at shape row) = (_, row)
row_of _ = (_, end_of-Target)

pub placed-Dyn : (at : ℕ) (targets : Vec Target Global) → placed_of (Dyn at targets) ≡ places.Dyn at (placed_from (entries_of targets.items))
placed-Dyn at targets =
    let row = row_of (Dyn at targets) in
    ap (places.Dyn at) (row-items row.0 row.1 ∙ ap (λ ts. placed_from (entries_of ts)) (items_hidden-the_row-Target-0 targets))

-- targets without their addresses and digests
pub plain-targets : (es : List Entry) → plain_targets (placed_from es) ≡ targets_from (trees_in es)
plain-targets [] = refl
plain-targets (e ∷ es) = ap (blocks.target (plain e.tree)) (plain-targets es)

pub drop-entries : (xs : List Target) (i : ℕ) (x : Target) → drop i xs ≡ x ∷ drop (i + 1) xs
    → drop i (entries_of xs) ≡ entry_of x ∷ drop (i + 1) (entries_of xs)
drop-entries xs i x e = drop-map entry_of i xs ∙ ap entries_of e ∙ ap (λ ys. entry_of x ∷ ys) (sym (drop-map entry_of (i + 1) xs))

pub get-entries : (xs : List Target) (i : ℕ) (d : Target) → get_or (entries_of xs) i (entry_of d) ≡ entry_of (get_or xs i d)
get-entries xs i d = get_or-map entry_of xs i d
