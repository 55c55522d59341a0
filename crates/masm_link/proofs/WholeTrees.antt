-- The trees of assembled programs are within the limits.
use Rattle.std.proofs.Common.{◌≡◌, ◌+◌, ◌≤◌, max, List, [], Option, Some, None, MatchOption, inl, inr, refl, sym, ap, ap₂, subst, arith}
use Rattle.std.proofs.lemmas.Bool.{cases_lt}
use Rattle.std.proofs.lemmas.List.Elements.{Contains-append_right}
use Rattle.std.proofs.lemmas.Option.{same_Some}
use Rattle.std.specs.List.{Contains}
use Rattle.std.specs.Option.{option_to_list}
use Rattle.block_tree.specs.Trees.{Tree, targets_from, targets_height, tree_height}
use Rattle.block_tree.specs.KnownTrees.{HasNoOpaque, HaveNoOpaque}
use Rattle.block_tree.specs.TreeView.{tree_of}
use Rattle.masm_tree.specs.declared.tree.Position.{Position}
use Rattle.masm_tree.specs.Trees.{Procedure, Source, position_of}
use Rattle.masm_names.specs.declared.refusal.LinkCause.{LinkCause}
use Rattle.masm_names.specs.declared.refusal.LinkCause.TheVariants as causes
use Rattle.masm_names.proofs.DoubleLemmas.{cons_here}
use Rattle.masm_flat.specs.Blocks.{Block, Blocks, Span, Join, Split, Loop, Call, Syscall, Dyn, no_block, block_before, greatest, seen_as, seen_all, as_tree, as_operations, as_height}
use Rattle.masm_flat.specs.Lists.{Exported, Outside, outside_of, IsBlockOf}
use Rattle.masm_link.specs.Assembling.{assembled}
use Rattle.masm_link.specs.Libraries.{with_library}
use Rattle.masm_link.specs.Laws.{IsWithinLimits, AssembledTrees}
use Rattle.masm_link.specs.Refusals.{IsTooLarge, too_many_operations, too_deep, dangling, oversized, Links}

-- a block's tree is whole, and as high as the block
mutual
  seen_whole : (b : Block) → HasNoOpaque (seen_as as_tree b)
  seen_whole (Span items) = tt
  seen_whole (Join a b) = (seen_whole a, seen_whole b)
  seen_whole (Split a b) = (seen_whole a, seen_whole b)
  seen_whole (Loop a) = seen_whole a
  seen_whole (Call a) = seen_whole a
  seen_whole (Syscall a) = seen_whole a
  seen_whole (Dyn targets) = all_whole targets

  all_whole : (bs : Blocks) → HaveNoOpaque (targets_from (seen_all as_tree bs))
  all_whole no_block = tt
  all_whole (block_before first more) = (seen_whole first, all_whole more)

mutual
  seen_height : (b : Block) → tree_height (seen_as as_tree b) ≡ seen_as as_height b
  seen_height (Span items) = refl
  seen_height (Join a b) = ap₂ (λ m n. 1 + max m n) (seen_height a) (seen_height b)
  seen_height (Split a b) = ap₂ (λ m n. 1 + max m n) (seen_height a) (seen_height b)
  seen_height (Loop a) = ap (λ n. 1 + n) (seen_height a)
  seen_height (Call a) = ap (λ n. 1 + n) (seen_height a)
  seen_height (Syscall a) = ap (λ n. 1 + n) (seen_height a)
  seen_height (Dyn targets) = ap (λ n. 1 + n) (all_height targets)

  all_height : (bs : Blocks) → targets_height (targets_from (seen_all as_tree bs)) ≡ greatest (seen_all as_height bs)
  all_height no_block = refl
  all_height (block_before first more) = ap₂ max (seen_height first) (all_height more)

module _ (source : Source) (out : Outside) (own : List Exported) (block : Block) (links : Links source out own (Some block)) where
  main_of : (main : Option Procedure) → source.main ≡ main
      → MatchOption main (Some block ≡ None) (λ p. (b : Block) × (Some block ≡ Some b) × IsBlockOf source out p b)
      → (p : Procedure) × (source.main ≡ Some p) × IsBlockOf source out p block
  main_of None is h = cc
  main_of (Some p) is h = (p, is, subst (IsBlockOf source out p) (sym (same_Some block h.0 h.1)) h.2)

  found : (p : Procedure) × (source.main ≡ Some p) × IsBlockOf source out p block
  found = main_of source.main refl links.body

  not_large : (at : Position) (cause : LinkCause) → ¬ (IsTooLarge source out found.0 at cause)
  not_large at cause large =
      let p = found.0 in
      let there = Contains-append_right source.procs (option_to_list source.main) p (subst (λ o. Contains (option_to_list o) p) (sym found.1)
      (cons_here p [])) in
      links.clean at cause (oversized (λ a c d. links.clean a c (dangling d)) (there.0, p, there.1, there.2, large))

  few_operations : seen_as as_operations block ≤ 524288
  few_operations = elim (cases_lt 524288 (seen_as as_operations block)) [
    | inl more ↦ absurd (not_large (position_of found.0) causes.TooManyOps (too_many_operations block found.2 more))
    | inr few ↦ few
  ]

  low : seen_as as_height block ≤ 1024
  low = elim (cases_lt 1024 (seen_as as_height block)) [
    | inl more ↦ absurd (not_large (position_of found.0) causes.TooDeep (too_deep block found.2 more))
    | inr few ↦ few
  ]

  pub within : (tree : Tree) → tree ≡ seen_as as_tree block → IsWithinLimits tree block
  within tree is = record {
    is = is;
    operations = few_operations;
    height = let a = ap tree_height is in let b = seen_height block in let c = low in omega arith;
    whole = subst HasNoOpaque (sym is) (seen_whole block);
  }

pub assembled-trees : AssembledTrees
assembled-trees constants library text kernel program (assembled exports own block _ k links is) = (
  block,
  within (with_library library links.source) (outside_of constants exports) own block links.links (tree_of program.tree) is.tree,
)
