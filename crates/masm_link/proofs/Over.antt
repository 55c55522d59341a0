-- The least refusal of procedures whose trees are too large.
use Rattle.std.proofs.Common.{◌≡◌, zero, suc, ◌<◌, ◌≤◌, List, [], ◌∷◌, Option, Some, None, inl, inr, ◌↔◌, refl, sym, ap, subst, ◌∙◌, unwrap_or, arith}
use Rattle.std.proofs.lemmas.Bool.{cases_lt}
use Rattle.std.proofs.lemmas.Bool.Decides.{nat_tests}
use Rattle.std.proofs.lemmas.List.Elements.{Contains-append_left, Contains-append_right, Contains-append_cases}
use Rattle.std.specs.List.{Contains}
use Rattle.std.specs.Option.{option_to_list}
use Rattle.masm_tree.specs.declared.tree.Position.{Position}
use Rattle.masm_tree.specs.Trees.{Procedure, Source, position_of}
use Rattle.masm_names.specs.declared.refusal.LinkCause.{LinkCause}
use Rattle.masm_names.specs.declared.refusal.LinkCause.TheVariants as causes
use Rattle.masm_names.specs.declared.refusal.Refusal.{Refusal}
use Rattle.masm_names.specs.Among.{Among}
use Rattle.masm_names.specs.Causes.{order}
use Rattle.masm_names.specs.Earlier.{earlier}
use Rattle.masm_names.specs.Least.{FindsLeast}
use Rattle.masm_names.proofs.LeastLemmas.{Either, FindsLeast-same, FindsLeast-earlier, no_later-trans}
use Rattle.masm_uses.proofs.UsedLemmas.{contains_at, at_contains}
use Rattle.masm_names.proofs.DoubleLemmas.{cons_here}
use Rattle.masm_flat.specs.declared.extent.Extent.{Extent}
use Rattle.masm_flat.specs.Blocks.{Block, Piece, seen_as, seen_pieces, block_of, as_operations, as_height}
use Rattle.masm_flat.specs.Lists.{Outside, IsList, IsBlockOf, with_locals}
use Rattle.masm_size.specs.Sizes.{as_extent, extent_of, size_of}
use Rattle.masm_flat.proofs.Flattened.{seen-block}
use Rattle.masm_flat.proofs.Once.{list_once}
use Rattle.masm_size.proofs.Sized.{HasOperations, list-solid, solid-locals, some-whole, operations-block, height-block}
use Rattle.masm_size.proofs.SizeLaws.{Agree, extent-whole}
use Rattle.masm_tables.specs.Limits.{size_cause, ExceedsLimit}
use Rattle.masm_link.specs.Refusals.{IsTooLarge, too_many_operations, too_deep, Oversized}

-- fewer refusals, where each of the others stands behind one of them at the same place
pub FindsLeast-fewer : (P Q : Position → LinkCause → Type 0) (r : Option Refusal) → ((at : Position) (cause : LinkCause) → P at cause → Q at cause)
    → ((at : Position) (cause : LinkCause) → Q at cause → (first : LinkCause) × P at first × (order first ≤ order cause)) → FindsLeast P r → FindsLeast Q r
FindsLeast-fewer P Q None to from none = λ at cause q. let p = from at cause q in none at p.0 p.1
FindsLeast-fewer P Q (Some r) to from least = record {
  stands = to r.at r.cause least.stands;
  first = λ other why q.
      let p = from other why q in
      no_later-trans r.at r.cause other p.0 other why (least.first other p.0 p.1) (inr (refl, p.2));
}

-- what the test of an extent says
over_operations : (e : Extent) → 524288 < e.operations → size_cause e ≡ Some causes.TooManyOps
over_operations e h = grind (arith, nat_tests)

over_height : (e : Extent) → e.operations ≤ 524288 → 1024 < e.height → size_cause e ≡ Some causes.TooDeep
over_height e few h = grind (arith, nat_tests)

over_none : (e : Extent) → e.operations ≤ 524288 → e.height ≤ 1024 → size_cause e ≡ None
over_none e few low = grind (arith, nat_tests)

same_cause : (o : Option LinkCause) (a b : LinkCause) → o ≡ Some a → o ≡ Some b → b ≡ a
same_cause o a b e f = ap (λ o. unwrap_or o a) (sym f ∙ e)

module _ (source : Source) (out : Outside) (some : HasOperations out.exports) (p : Procedure) (xs : List (Piece Block))
    (d : IsList source out p.locals p.body xs) where
  abbrev the_block : Block
  the_block = block_of (with_locals p.locals xs)

  abbrev the_extent : Extent
  the_extent = extent_of (size_of (seen_pieces (seen_as as_extent) (with_locals p.locals xs)))

  -- the extent of a procedure's list, and that of its block
  pub extents_agree : Agree the_extent (seen_as as_extent the_block)
  extents_agree =
      subst (Agree the_extent) (sym (seen-block as_extent (with_locals p.locals xs)))
      (extent-whole (seen_pieces (seen_as as_extent) (with_locals p.locals xs)) (solid-locals p.locals xs (list-solid some d)))

  pub some_operation : 1 ≤ seen_as as_operations the_block
  some_operation =
      let whole = some-whole (with_locals p.locals xs) (solid-locals p.locals xs (list-solid some d)) in
      let is = operations-block the_block in
      let one = whole.0 in
      omega arith

  pub the_block_is : IsBlockOf source out p the_block
  the_block_is = record { pieces = xs; flat = d; is = refl }

  pub block_once : (block : Block) → IsBlockOf source out p block → block ≡ the_block
  block_once block is = is.is ∙ ap (λ ys. block_of (with_locals p.locals ys)) (list_once source out is.flat d)

  many : (524288 < the_extent.operations) ↔ (524288 < seen_as as_operations the_block)
  many =
      let same = extents_agree.operations in
      let is = operations-block the_block in
      (λ h. omega arith, λ h. omega arith)

  deep : the_extent.operations ≤ 524288 → (1024 < the_extent.height) ↔ (1024 < seen_as as_height the_block)
  deep few =
      let same = extents_agree.height few in
      let is = height-block the_block in
      (λ h. omega arith, λ h. omega arith)

  pub over_large : (at : Position) (cause : LinkCause) → ExceedsLimit (position_of p) the_extent at cause → IsTooLarge source out p at cause
  over_large at cause over = elim (cases_lt 524288 the_extent.operations) [
    | inl more ↦
        moved causes.TooManyOps (same_cause _ _ _ (over_operations the_extent more) over.1)
        (too_many_operations the_block the_block_is (many.0 more))
    | inr few ↦ elim (cases_lt 1024 the_extent.height) [
      | inl high ↦
          moved causes.TooDeep (same_cause _ _ _ (over_height the_extent few high) over.1)
          (too_deep the_block the_block_is ((deep few).0 high))
      | inr low ↦ absurd (let none = over_none the_extent few low in let is = over.1 in cc)
    ]
  ]
    where
      moved : (why : LinkCause) → cause ≡ why → IsTooLarge source out p (position_of p) why → IsTooLarge source out p at cause
      moved why is h = subst (λ a. IsTooLarge source out p a cause) (sym over.0) (subst (IsTooLarge source out p (position_of p)) (sym is) h)

  pub large_over : (at : Position) (cause : LinkCause) → IsTooLarge source out p at cause
      → (first : LinkCause) × ExceedsLimit (position_of p) the_extent at first × (order first ≤ order cause)
  large_over at cause (too_many_operations block is more) = (
    causes.TooManyOps,
    (
      refl,
      over_operations the_extent
          (many.1 (subst (λ b. 524288 < seen_as as_operations b) (block_once block is) more)),
    ),
    omega arith,
  )
  large_over at cause (too_deep block is high) = elim (cases_lt 524288 the_extent.operations) [
    | inl more ↦ (causes.TooManyOps, (refl, over_operations the_extent more), omega arith)
    | inr few ↦ (
      causes.TooDeep,
      (
        refl,
        over_height the_extent few
            ((deep few).1 (subst (λ b. 1024 < seen_as as_height b) (block_once block is) high)),
      ),
      omega arith,
    )
  ]

-- the trees of a source's procedures, and that of its main body
module _ (source : Source) (out : Outside) where
  abbrev Large : Procedure → Position → LinkCause → Type 0
  Large p at cause = IsTooLarge source out p at cause

  abbrev LargeProcs : Position → LinkCause → Type 0
  LargeProcs = Among (λ place p. Large p) source.procs

  abbrev LargeMain : Position → LinkCause → Type 0
  LargeMain at cause = (p : Procedure) × (source.main ≡ Some p) × Large p at cause

  large_either : (at : Position) (cause : LinkCause) → Either LargeProcs LargeMain at cause → Oversized source out at cause
  large_either at cause (inl h) =
      let there = Contains-append_left source.procs (option_to_list source.main) h.1.0 (contains_at source.procs h.0 h.1.0 h.1.1) in
      (there.0, h.1.0, there.1, there.2, h.1.2)
  large_either at cause (inr h) =
      let there = Contains-append_right source.procs (option_to_list source.main) h.0 (subst (λ o. Contains (option_to_list o) h.0) (sym h.1)
      (cons_here h.0 [])) in
      (there.0, h.0, there.1, there.2, h.2)

  in_main : (o : Option Procedure) (p : Procedure) → Contains (option_to_list o) p → o ≡ Some p
  in_main None p h = absurd (omega (arith, h.1))
  in_main (Some q) p h = elim (Contains-append_cases [] (q ∷ []) p h) [
    | inl none ↦ absurd (omega (arith, none.1))
    | inr one ↦ ap Some (one_is q p one)
  ]
    where
      one_is : (q p : Procedure) → Contains (q ∷ []) p → q ≡ p
      one_is q p (zero, within, is) = is
      one_is q p (suc k, within, is) = absurd (omega arith)

  either_large : (at : Position) (cause : LinkCause) → Oversized source out at cause → Either LargeProcs LargeMain at cause
  either_large at cause h = elim (Contains-append_cases source.procs (option_to_list source.main) h.1 (h.0, h.2, h.3)) [
    | inl here ↦ let there = at_contains source.procs h.1 here in inl (there.0, (h.1, there.1, h.4))
    | inr main ↦ inr (h.1, in_main source.main h.1 main, h.4)
  ]

  pub FindsLeast-oversized : (a b : Option Refusal) → FindsLeast LargeProcs a → FindsLeast LargeMain b → FindsLeast (Oversized source out) (earlier a b)
  FindsLeast-oversized a b p q = FindsLeast-same (Either LargeProcs LargeMain) (Oversized source out) (earlier a b) large_either either_large
      (FindsLeast-earlier LargeProcs LargeMain a b p q)
