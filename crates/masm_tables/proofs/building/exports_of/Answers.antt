use Rattle.masm_tables.proofs.Words.{◌≡◌, ◌<◌, length, Some, Vec, Global, take, unwrap_or, [], refl, sym, ap, subst, ◌∙◌, arith, slice_get_read, option_map}
use Rattle.masm_tables.proofs.Words.{as_tree, whole, list_at, size_at, extent_of, size_view, nothing, pieces_of, AreBuilt, none}
use Rattle.masm_flat.specs.declared.piece.Piece.{Piece}
use Rattle.masm_tables.proofs.Built.{built_more, built_same}
use Rattle.masm_tables.proofs.building.exports_of.Goals as goal
use Rattle.masm_tables.proofs.building.exports_of.Goals.{then-procedure+in_ok-export_of+in_ok-push, else-procedure}

pub loop-place-init : goal.loop-place-init
loop-place-init c = subst (AreBuilt c.args.sizes.now c.args.lists.now (take 0 c.args.procs.now)) (sym c.new-exports.ensures.items) none

pub loop-place-preserved : goal.loop-place-preserved
loop-place-preserved c =
    let sizes = c.args.sizes.now in
    let lists = c.args.lists.now in
    let procs = c.args.procs.now in
    let i = c.loop-place.place in
    let p = c.index-procs-place.result in
    let below = c.loop-place-test.true in
    elim c.if-procedure.branch [
      | then-procedure+in_ok-export_of+in_ok-push w ↦
          let made = w.in_ok-export_of.ensures in
          let list = w.index-lists-place.result in
          let size = w.index-sizes-place.result in
          let in_lists : i < length lists = let count = c.requires.lists in omega arith in
          let in_sizes : i < length sizes = let count = c.requires.sizes in omega arith in
          let list_is : list_at lists (Some i) ≡ pieces_of list.items =
          ap (λ o. unwrap_or (option_map (λ (v : Vec Piece Global). pieces_of v.items) o) []) (slice_get_read lists
          (length lists) i list refl in_lists w.index-lists-place.is) in
          let size_is : size_at sizes (Some i) ≡ size_view size =
          ap (λ o. unwrap_or (option_map size_view o) nothing) (slice_get_read sizes (length sizes) i size refl in_sizes w.index-sizes-place.is) in
          built_more sizes lists procs i p below c.index-procs-place.is c.loop-place.exports.items c.if-procedure.exports.items
          w.in_ok-export_of.field-0 c.loop-place.invariant w.if-procedure.true
          (record {
            name = made.name;
            tree = made.tree ∙ ap (λ xs. whole as_tree (pieces_of xs)) w.deref.ensures.value ∙ ap (whole as_tree) (sym list_is);
            extent = made.extent ∙ ap extent_of (sym size_is);
          })
          (ap (λ v. v.items) w.exports-is ∙ w.in_ok-push.ensures.items)
      | else-procedure w ↦
          built_same sizes lists procs i p below c.index-procs-place.is c.loop-place.exports.items c.if-procedure.exports.items c.loop-place.invariant
          w.if-procedure.false (ap (λ v. v.items) w.exports-is)
    ]
