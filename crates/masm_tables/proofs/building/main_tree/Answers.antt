use Rattle.masm_tables.proofs.Words.{◌≡◌, ℕ, List, [], refl, subst, Option, Some, None, Vec, Global, sym, ap, ap₂, ◌∙◌, option_map, same_Some, Tree, tree_of}
use Rattle.masm_tables.proofs.Words.{Proc, body_of, procedure_of, Names, KernelProc, as_tree, whole, Table, Known, flat_with, with_locals, dispatch_of}
use Rattle.masm_tables.proofs.Words.{lists_known, place_at, places_used, uses_of, Prepares}
use Rattle.block_tree.specs.declared.tree.Tree as code
use Rattle.masm_flat.specs.Blocks.{Piece}
use Rattle.masm_flat.specs.declared.piece.Piece as piece
use Rattle.masm_uses.specs.Plans.{IsNoneOrAll, main_uses}
use Rattle.masm_tables.proofs.Taken.{counted_in, serves_start, all_of}
use Rattle.masm_tables.proofs.building.main_tree.Goals as goal

-- the tree of a list that is built with lists that are lent
tree_is : (main : Option Proc) (p : Proc) (names : Names) (kernel : List KernelProc) (dispatch : Option code.Tree)
    (lent lists : List (Vec piece.Piece Global)) (lent_digests digests : List (List ℕ)) (pieces : List (Piece Tree))
    (tree : Tree) → main ≡ Some p → lent ≡ lists → lent_digests ≡ digests
    → pieces ≡ with_locals p.locals (flat_with as_tree (lists_known names lent lent_digests dispatch kernel) p.locals (body_of p.body.items))
    → tree ≡ whole as_tree pieces
    → Some tree ≡ option_map (λ (q : Proc). whole as_tree (with_locals q.locals (flat_with as_tree (lists_known names lists digests dispatch kernel) q.locals
    (body_of q.body.items)))) main
tree_is main p names kernel dispatch lent lists lent_digests digests pieces tree there same same_digests listed built =
    ap Some (built ∙ ap (whole as_tree) (listed ∙ ap₂ (λ (ls : List (Vec piece.Piece Global)) ds. with_locals p.locals (flat_with as_tree
    (lists_known names ls ds dispatch kernel) p.locals (body_of p.body.items))) same same_digests))
    ∙ ap (option_map (λ (q : Proc). whole as_tree (with_locals q.locals (flat_with as_tree (lists_known names lists digests dispatch kernel) q.locals
    (body_of q.body.items))))) (sym there)

no_main : {A B : Type 0} (f : A → B) (o : Option A) → ((x : A) → o ≡ Some x → ⊥) → None ≡ option_map f o
no_main f None none = refl
no_main f (Some x) none = absurd (none x refl)

pub returns-in_default : goal.returns-in_default
returns-in_default c = (
  c.args.built.dispatch,
  λ q there. absurd (c.in_default.not-Some q there),
  no_main _ c.args.main.now (λ q there. c.in_default.not-Some q there),
)

pub prepare-requires : goal.prepare-requires
prepare-requires c = c.requires.targets

pub returns : goal.returns
returns c =
    let built = c.args.built in
    let dispatch = c.prepare.new.self.dispatch in
    let p = c.in-Some.procedure in
    let mid = c.expect.new.self in
    let uses = uses_of (body_of p.body.items) in
    let all = c.requires.uses ∙ ap (λ main. main_uses (place_at c.args.names.now) (option_map procedure_of main)) c.in-Some.is in
    let counted = counted_in c.prepare.new.self.table mid c.args.uses.now c.args.uses.now c.expect.ensures.count refl c.expect.ensures.left in
    let known : Known Tree = lists_known c.args.names.now mid.lists.items c.as_slice.result.now dispatch c.args.outside.now.exports.now in
    let ends : IsNoneOrAll c.args.uses.now (places_used (place_at c.args.names.now) uses) =
    subst (IsNoneOrAll c.args.uses.now) all (all_of c.args.uses.now) in
    let gives = c.in_ok-list.ensures.gives known [] (serves_start mid c.args.uses.now counted _ uses ends) in
    let Is : code.Tree → Type 0 = λ tree. tree_of tree ≡ dispatch_of built.table.lists.items c.args.targets.now in
    let prepares = subst (λ xs. Prepares Is (body_of xs) built.dispatch dispatch) c.deref.ensures.value c.in_ok-prepare.ensures.dispatch in (
      dispatch,
      λ q there. subst (λ (r : Proc). Prepares Is (body_of r.body.items) built.dispatch dispatch) (same_Some p q (sym c.in-Some.is ∙ there)) prepares,
      tree_is c.args.main.now _ c.args.names.now c.args.outside.now.exports.now dispatch mid.lists.items built.table.lists.items
          c.as_slice.result.now built.digests.items _ _ c.in-Some.is
          (ap (λ v. v.items) c.expect.ensures.lists ∙ ap (λ (t : Table). t.lists.items) c.in_ok-prepare.ensures.table)
          (c.as_slice.ensures.value ∙ ap (λ (v : Vec (List ℕ) Global). v.items) c.in_ok-prepare.ensures.digests)
          gives.0 c.in_ok-tree_of_list.ensures,
    )
