-- The least refusal of a source, and what it links to where nothing is refused.
use Rattle.std.proofs.Common.{◌≡◌, ℕ, ◌≤◌, true, false, cond, List, [], ◌∷◌, ◌++◌, length, map, slice_get, Option, Some, None, MatchOption, Vec, Global, inl, inr, refl, sym, ap, ap₂, subst, ◌∙◌, append-nil, zero, suc, Bool, is_some, arith}
use Rattle.std.proofs.lemmas.Bool.{cases_lt}
use Rattle.std.proofs.lemmas.List.{map-append}
use Rattle.std.proofs.lemmas.List.Elements.{filter-append, Contains-append_left}
use Rattle.std.proofs.lemmas.Option.{slice_get_within}
use Rattle.std.specs.List.{AllZip, Contains}
use Rattle.std.specs.Option.{option_map, option_to_list}
use Rattle.block_tree.specs.declared.tree.Tree as code
use Rattle.block_tree.specs.TreeView.{tree_of}
use Rattle.masm_tree.specs.declared.tree.Position.{Position}
use Rattle.masm_tree.specs.declared.tree.Ast.{Ast}
use Rattle.masm_tree.specs.declared.tree.Proc.{Proc}
use Rattle.masm_tree.specs.Trees.{Procedure, Source, position_of}
use Rattle.masm_tree.specs.Views.{body_of, procedure_of, source_of}
use Rattle.masm_names.specs.declared.refusal.LinkCause.{LinkCause}
use Rattle.masm_names.specs.declared.refusal.LinkCause.TheVariants as causes
use Rattle.masm_names.specs.declared.refusal.Refusal.{Refusal}
use Rattle.masm_names.specs.Among.{Among}
use Rattle.masm_names.specs.Earlier.{earlier}
use Rattle.masm_names.specs.Least.{IsLeast, FindsLeast}
use Rattle.masm_uses.specs.Plans.{IsWanted, IsReferred}
use Rattle.masm_uses.specs.Plans as plans
use Rattle.masm_names.specs.Naming.{Dangles, Doubles, IsClosed, exported_of}
use Rattle.masm_names.specs.Uses.{dynexecs_of}
use Rattle.masm_names.proofs.LeastLemmas.{Either, FindsLeast-same, FindsLeast-earlier}
use Rattle.masm_uses.proofs.UsedLemmas.{unmapped, mapped, contains_at}
use Rattle.masm_flat.specs.declared.outside.KernelProc.{KernelProc}
use Rattle.masm_flat.specs.declared.piece.Piece as piece
use Rattle.masm_flat.specs.declared.extent.Extent.{Extent}
use Rattle.masm_size.specs.declared.shape.Size as shape
use Rattle.masm_flat.specs.Blocks.{Block, Piece, seen_as, seen_pieces, block_of, as_tree, as_operations, whole}
use Rattle.masm_flat.specs.Flattening.{flat_with}
use Rattle.masm_flat.specs.KnownLists.{dispatch_in, list_at, lists_known}
use Rattle.masm_size.specs.KnownSizes.{dispatch_extent, size_at, sizes_known}
use Rattle.masm_flat.specs.Lists.{Exported, Outside, IsList, IsBlockOf, with_locals}
use Rattle.masm_size.specs.Sizes.{as_extent, extent_of, size_of, procedure_size}
use Rattle.masm_flat.proofs.DynamicBodies.{dynexecs_only}
use Rattle.masm_flat.proofs.Flattened.{seen-block}
use Rattle.masm_size.proofs.Sized.{operations-block, procedure-sized}
use Rattle.masm_link.specs.declared.linking.Linked.{Linked}
use Rattle.masm_link.specs.declared.linking.Measured.{Measured}
use Rattle.masm_tables.specs.Building.{AreBuilt, none, exported, inner}
use Rattle.masm_tables.specs.Kernels.{IsExport, AreExports, IsOutside, names_in, names_of}
use Rattle.masm_tables.specs.Limits.{ExceedsLimit}
use Rattle.masm_link.specs.Measures.{IsMeasured, AreReady, IsLinked}
use Rattle.masm_link.specs.Refusals.{IsTooLarge, too_many_operations, Oversized, RefusesAt, double, dangling, oversized}
use Rattle.masm_tables.specs.Tables.{AreLists, AreDigests, IsDispatch}
use Rattle.masm_tables.proofs.Closed.{Behind, uses_main, uses_wanted}
use Rattle.masm_tables.proofs.Dispatches.{IsDispatchExtent, dispatch_extent_is, target_within}
use Rattle.masm_tables.proofs.Exist.{list_of_procedure, list_of_main}
use Rattle.masm_tables.proofs.Finding.{names_same}
use Rattle.masm_tables.proofs.Known.{has_operations, sizes_fit, listed-is}
use Rattle.masm_link.proofs.Over.{FindsLeast-fewer, extents_agree, some_operation, the_block_is, over_large, large_over, FindsLeast-oversized}

abbrev no_block : Option Block
no_block = None

module _ (source : Source) (out : Outside) where
  -- where a use leads nowhere or back
  pub refused_use : (doubled : Option Refusal) (u first : Refusal) → FindsLeast (Doubles source) doubled
      → FindsLeast (Dangles source (names_of out.exports)) (Some u)
      → Some first ≡ earlier doubled (Some u) → IsLeast (RefusesAt source out) first.at first.cause
  refused_use doubled u first p q is =
      FindsLeast-same (Either (Doubles source) (Dangles source (names_of out.exports))) (RefusesAt source out) (Some first)
      (λ at cause h. elim h [ inl d ↦ double d | inr d ↦ dangling d ])
      (λ at cause h. elim h [ double d ↦ inl d | dangling d ↦ inr d | oversized closed o ↦ absurd (closed u.at u.cause q.stands) ])
      (subst (FindsLeast (Either (Doubles source) (Dangles source (names_of out.exports)))) (sym is)
      (FindsLeast-earlier (Doubles source) (Dangles source (names_of out.exports)) doubled (Some u) p q))

  -- where none does
  pub refused_size : IsClosed source (names_of out.exports) → (doubled large : Option Refusal) → FindsLeast (Doubles source) doubled
      → FindsLeast (Oversized source out) large → FindsLeast (RefusesAt source out) (earlier doubled large)
  refused_size closed doubled large p q =
      FindsLeast-same (Either (Doubles source) (Oversized source out)) (RefusesAt source out) (earlier doubled large)
      (λ at cause h. elim h [ inl d ↦ double d | inr o ↦ oversized closed o ])
      (λ at cause h. elim h [ double d ↦ inl d | dangling d ↦ absurd (closed at cause d) | oversized closed' o ↦ inr o ])
      (FindsLeast-earlier (Doubles source) (Oversized source out) doubled large p q)

  pub closed_names : (kernel : List KernelProc) → AreExports out.exports kernel → IsClosed source (names_in kernel) → IsClosed source (names_of out.exports)
  closed_names kernel are closed = subst (IsClosed source) (names_same out.exports kernel are) closed

-- Exports, as they are built one behind the other.
zip_push : {X Y : Type 0} (R : X → Y → Type 0) (xs : List X) (ys : List Y) (x : X) (y : Y) → AllZip R xs ys → R x y
    → AllZip R (xs ++ x ∷ []) (ys ++ y ∷ [])
zip_push R [] [] x y h r = (r, tt)
zip_push R [] (z ∷ ys) x y h r = absurd h
zip_push R (w ∷ xs) [] x y h r = absurd h
zip_push R (w ∷ xs) (z ∷ ys) x y h r = (h.0, zip_push R xs ys x y h.1 r)

got_before : {X : Type 0} (xs ys : List X) (k : ℕ) (x : X) → slice_get xs k ≡ Some x → slice_get (xs ++ ys) k ≡ Some x
got_before [] ys k x e = cc
got_before (z ∷ xs) ys zero x e = e
got_before (z ∷ xs) ys (suc k) x e = got_before xs ys k x e

got_last : {X : Type 0} (xs : List X) (x : X) → slice_get (xs ++ x ∷ []) (length xs) ≡ Some x
got_last [] x = refl
got_last (z ∷ xs) x = got_last xs x

module _ (source : Source) (out : Outside) (sizes : List shape.Size) (lists : List (Vec piece.Piece Global)) where
  abbrev IsOwn : Procedure → Exported → Type 0
  IsOwn p e = (e.name ≡ p.name) × IsBlockOf source out p e.block

  abbrev IsReady : ℕ → Procedure → Type 0
  IsReady place p =
      (block : Block) × IsBlockOf source out p block × (whole as_tree (list_at lists (Some place)) ≡ seen_as as_tree block)
      × (extent_of (size_at sizes (Some place)) ≡ seen_as as_extent block) × (1 ≤ seen_as as_operations block)

  one_more : (front : List Proc) (p : Proc) (b : Bool) → p.exported ≡ b
      → exported_of (map procedure_of (front ++ p ∷ [])) ≡ exported_of (map procedure_of front) ++ cond b (procedure_of p ∷ []) []
  one_more front p b is =
      ap exported_of (map-append procedure_of front (p ∷ []))
      ∙ filter-append (λ (q : Procedure). q.exported) (map procedure_of front) (procedure_of p ∷ [])
      ∙ ap (λ t. exported_of (map procedure_of front) ++ cond t (procedure_of p ∷ []) []) is

  pub own_of : {front : List Proc} {made : List KernelProc} → AreBuilt sizes lists front made
      → ((place : ℕ) (p : Proc) → slice_get front place ≡ Some p → p.exported ≡ true → IsReady place (procedure_of p))
      → (own : List Exported) × AllZip IsOwn (exported_of (map procedure_of front)) own × AreExports own made
  own_of none ready = ([], tt, tt)
  own_of (exported {procs = front} {exports = made} p export before is built) ready =
      let rest = own_of before (λ place q here. ready place q (got_before front (p ∷ []) place q here)) in
      let r = ready (length front) p (got_last front p) is in
      let e : Exported = record { name = p.name; block = r.0 } in (
        rest.0 ++ e ∷ [],
        subst (λ ps. AllZip IsOwn ps (rest.0 ++ e ∷ [])) (sym (one_more front p true is)) (zip_push IsOwn (exported_of
            (map procedure_of front)) rest.0 (procedure_of p) e rest.1 (refl, r.1)),
        zip_push IsExport rest.0 made e export rest.2 (record { name = built.name; tree = built.tree ∙ r.2; extent = built.extent ∙ r.3; some = r.4 }),
      )
  own_of (inner {procs = front} {exports = made} p before is) ready =
      let rest = own_of before (λ place q here. ready place q (got_before front (p ∷ []) place q here)) in (
        rest.0,
        subst (λ ps. AllZip IsOwn ps rest.0)
            (sym (one_more front p false is ∙ append-nil (exported_of (map procedure_of front)))) rest.1,
        rest.2,
      )

pub some_same : {A B C : Type 0} (f : A → C) (g : B → C) (a : Option A) (b : Option B) → option_map f a ≡ option_map g b → is_some a ≡ is_some b
some_same f g None None e = refl
some_same f g None (Some y) e = cc
some_same f g (Some x) None e = cc
some_same f g (Some x) (Some y) e = refl

-- What is measured of a source in memory.
module _ (ast : Ast) (kernel : List KernelProc) (m : Measured) (is : IsMeasured (source_of ast) kernel m) (out : Outside)
    (lies : IsOutside kernel out) where
  abbrev source : Source
  source = source_of ast

  -- the extent of a dynexec's block between begin and end
  abbrev dispatched : Extent
  dispatched = dispatch_extent m.sizes.items m.targets.items

  abbrev HasListOf : Procedure → Type 0
  HasListOf p = (xs : List (Piece Block)) × IsList source out p.locals p.body xs

  list_at_place : (place : ℕ) (p : Procedure) → slice_get source.procs place ≡ Some p → HasListOf p
  list_at_place = list_of_procedure source (names_in kernel) is.closed out (names_same out.exports kernel lies.exports) m.order.items is.order

  list_of_body : (p : Procedure) → source.main ≡ Some p → HasListOf p
  list_of_body = list_of_main source (names_in kernel) is.closed out (names_same out.exports kernel lies.exports) m.order.items is.order

  abbrev the_extent : Procedure → List (Piece Block) → Extent
  the_extent p xs = extent_of (size_of (seen_pieces (seen_as as_extent) (with_locals p.locals xs)))

  extent_is : (place : ℕ) (p : Procedure) (here : slice_get source.procs place ≡ Some p) → extent_of (size_at m.sizes.items
      (Some place)) ≡ the_extent p (list_at_place place p here).0
  extent_is place p here =
      let list = list_at_place place p here in
      ap extent_of (is.sizes out lies place p list.0 (is.order.all place (slice_get_within source.procs place p here)) here list.1)

  main_extent : (p : Procedure) (main : source.main ≡ Some p)
      → extent_of (procedure_size (sizes_known m.names m.sizes.items dispatched kernel) p.locals p.body) ≡
      the_extent p (list_of_body p main).0
  main_extent p main =
      let list = list_of_body p main in
      let some = has_operations source out kernel lies.exports m.names is.names in
      let D = IsDispatchExtent source out dispatched in
      let done = Behind source.procs (Contains m.order.items) in
      ap extent_of (procedure-sized some lies.count done done D (sizes_known m.names m.sizes.items dispatched kernel)
      (sizes_fit source out kernel lies.exports m.names is.names m.order.items m.sizes.items dispatched (is.sizes out lies)) p list.0 list.1
      (uses_main source (names_in kernel) is.closed m.order.items is.order p main)
      (dynexecs_only D p.body (λ at has. dispatch_extent_is source m.targets.items is.targets out some m.order.items m.sizes.items
      (is.sizes out lies) (λ j target. is.order.all j (target_within source j target)))))

  large_procs : (first : Option Refusal)
      → FindsLeast (Among (λ place p. ExceedsLimit (position_of (procedure_of p)) (extent_of (size_at m.sizes.items (Some place)))) ast.procs.items) first
      → FindsLeast (Among (λ place p at cause. IsTooLarge source out p at cause) source.procs) first
  large_procs first =
      FindsLeast-fewer (Among (λ place p. ExceedsLimit (position_of (procedure_of p)) (extent_of (size_at m.sizes.items (Some place)))) ast.procs.items)
      (Among (λ place p at cause. IsTooLarge source out p at cause) source.procs) first
      (λ at cause h.
      let p = procedure_of h.1.0 in
      let here = mapped procedure_of ast.procs.items h.0 h.1.0 h.1.1 in
      let list = list_at_place h.0 p here in (
        h.0,
        (
          p,
          here,
          over_large source out (has_operations source out kernel lies.exports m.names is.names) p list.0 list.1 at cause
              (subst (λ e. ExceedsLimit (position_of p) e at cause) (extent_is h.0 p here) h.1.2),
        ),
      ))
      (λ at cause h.
      let found = unmapped procedure_of ast.procs.items h.0 h.1.0 h.1.1 in
      let p = procedure_of found.0 in
      let here = mapped procedure_of ast.procs.items h.0 found.0 found.1 in
      let list = list_at_place h.0 p here in
      let over = large_over source out (has_operations source out kernel lies.exports m.names is.names) p list.0 list.1 at cause
      (subst (λ q. IsTooLarge source out q at cause) found.2 h.1.2) in
      (over.0, (h.0, (found.0, found.1, subst (λ e. ExceedsLimit (position_of p) e at over.0) (sym (extent_is h.0 p here)) over.1)), over.2))

  abbrev LargeMain : Position → LinkCause → Type 0
  LargeMain at cause = (p : Procedure) × (source.main ≡ Some p) × IsTooLarge source out p at cause

  large_main : (main : Option Proc) → ast.main ≡ main → (first : Option Refusal)
      → MatchOption main (first ≡ None) (λ p. FindsLeast (ExceedsLimit (position_of (procedure_of p)) (extent_of (procedure_size
      (sizes_known m.names m.sizes.items dispatched kernel) p.locals (body_of p.body.items)))) first)
      → FindsLeast LargeMain first
  large_main None same first e =
      subst (FindsLeast LargeMain) (sym e) (λ at cause h. let other = ap (option_map procedure_of) same in let is_main = h.1 in cc)
  large_main (Some q) same first a =
      let p = procedure_of q in
      let main : source.main ≡ Some p = ap (option_map procedure_of) same in
      let list = list_of_body p main in
      FindsLeast-fewer (ExceedsLimit (position_of p) (extent_of (procedure_size (sizes_known m.names m.sizes.items dispatched kernel) p.locals p.body))) LargeMain first
      (λ at cause h. (
        p,
        main,
        over_large source out (has_operations source out kernel lies.exports m.names is.names) p list.0 list.1 at cause
            (subst (λ e. ExceedsLimit (position_of p) e at cause) (main_extent p main) h),
      ))
      (λ at cause h.
      let over = large_over source out (has_operations source out kernel lies.exports m.names is.names) p list.0 list.1 at cause
      (subst (λ r. IsTooLarge source out r at cause) (same_some h.0 p (sym h.1 ∙ main)) h.2) in
      (over.0, subst (λ e. ExceedsLimit (position_of p) e at over.0) (sym (main_extent p main)) over.1, over.2))
      a
    where
      same_some : (a b : Procedure) → Some a ≡ Some b → a ≡ b
      same_some a b e = cc

  pub FindsLeast-large : (procs main : Option Refusal)
      → FindsLeast (Among (λ place p. ExceedsLimit (position_of (procedure_of p)) (extent_of (size_at m.sizes.items (Some place)))) ast.procs.items) procs
      → MatchOption ast.main (main ≡ None) (λ p. FindsLeast (ExceedsLimit (position_of (procedure_of p)) (extent_of (procedure_size
      (sizes_known m.names m.sizes.items dispatched kernel) p.locals (body_of p.body.items)))) main)
      → FindsLeast (Oversized source out) (earlier procs main)
  FindsLeast-large procs main p q = FindsLeast-oversized source out procs main (large_procs procs p) (large_main ast.main refl main q)

  -- the tables tell each procedure's block, where not_so tree is too large
  module _ (clean : (at : Position) (cause : LinkCause) → ¬ (RefusesAt source out at cause)) (lists : List (Vec piece.Piece Global))
      (known : AreLists source out lists) (digests : List (List ℕ)) (told : AreDigests source out digests)
      (dispatch : Option code.Tree)
      (runs : (p : Procedure) (at : Position) → source.main ≡ Some p → Contains (dynexecs_of p.body) at → IsDispatch source out (dispatch_in dispatch)) where
    ready : AreReady source out m.sizes.items lists
    ready place p here is_exported =
        let list = list_at_place place p here in
        let some = has_operations source out kernel lies.exports m.names is.names in
        let zs = with_locals p.locals list.0 in
        let block = block_of zs in
        let tree = ap (whole as_tree) (known place (plans.exported p here is_exported) p list.0 here list.1) ∙ sym
        (seen-block as_tree zs) in (
          block,
          the_block_is source out some p list.0 list.1,
          tree,
          extent_is place p here
              ∙ same_extent place p here,
          some_operation source out some p list.0 list.1,
        )
      where
        in_bodies : (place : ℕ) (p : Procedure) → slice_get source.procs place ≡ Some p → (at : Position) (cause : LinkCause)
            → IsTooLarge source out p at cause
            → Oversized source out at cause
        in_bodies place p here at cause large =
            let there = Contains-append_left source.procs (option_to_list source.main) p (contains_at source.procs place p here) in
            (there.0, p, there.1, there.2, large)

        same_extent : (place : ℕ) (p : Procedure) (here : slice_get source.procs place ≡ Some p)
            → the_extent p (list_at_place place p here).0 ≡ seen_as as_extent (block_of (with_locals p.locals (list_at_place place p here).0))
        same_extent place p here =
            let list = list_at_place place p here in
            let some = has_operations source out kernel lies.exports m.names is.names in
            let agree = extents_agree source out some p list.0 list.1 in
            let block = block_of (with_locals p.locals list.0) in
            let counted = operations-block block in
            let few : seen_as as_operations block ≤ 524288 = elim (cases_lt 524288 (seen_as as_operations block)) [
              | inl more ↦ absurd (clean (position_of p) causes.TooManyOps (oversized (closed_names source out kernel lies.exports is.closed)
                  (in_bodies place p here (position_of p) causes.TooManyOps (too_many_operations block
                  (the_block_is source out some p list.0 list.1) more))))
              | inr few ↦ few
            ] in
            let same = agree.operations in
            ap₂ (λ o h. record { operations = o; height = h }) agree.operations (agree.height (omega arith))

    pub built_exports : (made : List KernelProc) → AreBuilt m.sizes.items lists ast.procs.items made
        → (own : List Exported) × AllZip (λ p e. (e.name ≡ p.name) × IsBlockOf source out p e.block)
        (exported_of source.procs) own × AreExports own made
    built_exports made built = own_of source out m.sizes.items lists built (λ place p here is_exported. ready place (procedure_of p)
        (mapped procedure_of ast.procs.items place p here) is_exported)

    -- the tree of the main body
    pub main_block : (main : Option code.Tree)
        → option_map tree_of main ≡ option_map (λ p. whole as_tree (with_locals p.locals (flat_with as_tree
        (lists_known m.names lists digests dispatch kernel) p.locals (body_of p.body.items)))) ast.main
        → (block : Option Block) × MatchOption source.main (block ≡ None) (λ p. (b : Block) × (block ≡ Some b) × IsBlockOf source out p b)
        × (option_map tree_of main ≡ option_map (seen_as as_tree) block)
    main_block main e = by ast.main refl e
      where
        by : (o : Option Proc) → ast.main ≡ o
            → option_map tree_of main ≡ option_map (λ p. whole as_tree (with_locals p.locals (flat_with as_tree
            (lists_known m.names lists digests dispatch kernel) p.locals (body_of p.body.items)))) o
            → (block : Option Block) × MatchOption (option_map procedure_of ast.main) (block ≡ None) (λ p. (b : Block) ×
            (block ≡ Some b) × IsBlockOf source out p b)
            × (option_map tree_of main ≡ option_map (seen_as as_tree) block)
        by None there e' = (
          no_block,
          subst (λ o. MatchOption (option_map procedure_of o) (no_block ≡ no_block) (λ p. (b : Block) ×
              (no_block ≡ Some b) × IsBlockOf source out p b)) (sym there) refl,
          e',
        )
        by (Some q) there e' =
            let p = procedure_of q in
            let main_is : source.main ≡ Some p = ap (option_map procedure_of) there in
            let list = list_of_body p main_is in
            let zs = with_locals p.locals list.0 in
            let block = block_of zs in (
              Some block,
              subst (λ o. MatchOption (option_map procedure_of o) (Some block ≡ None) (λ r. (b : Block) ×
                  (Some block ≡ Some b) × IsBlockOf source out r b)) (sym there)
                  (block, refl, the_block_is source out (has_operations source out kernel lies.exports m.names is.names) p list.0 list.1),
              e' ∙ ap Some (ap (whole as_tree) (listed-is source out kernel lies.exports m.names is.names (IsWanted source) (IsReferred source) lists digests dispatch
                  known told p list.0 list.1
                  (uses_wanted source (names_in kernel) is.closed p main_is) (λ at has. runs p at main_is has)) ∙ sym (seen-block as_tree zs)),
            )

    pub linked_is : (linked : Linked) → AreBuilt m.sizes.items lists ast.procs.items linked.exports.items
        → option_map tree_of linked.main ≡ option_map (λ p. whole as_tree (with_locals p.locals (flat_with as_tree
        (lists_known m.names lists digests dispatch kernel) p.locals (body_of p.body.items)))) ast.main
        → IsLinked source out linked
    linked_is linked built e =
        let own = built_exports linked.exports.items built in
        let body = main_block linked.main e in
        record { exports = own.0; main = body.0; links = record { clean = clean; exported = own.1; body = body.1 }; are = own.2; tree = body.2 }
