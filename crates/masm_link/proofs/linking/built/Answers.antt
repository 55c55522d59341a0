use Rattle.std.proofs.Common.{◌≡◌, ◌<◌, length, map, Some, sym, subst}
use Rattle.std.specs.List.{All}
use Rattle.block_tree.specs.TreeView.{tree_of}
use Rattle.masm_flat.specs.Blocks.{as_tree, whole}
use Rattle.masm_flat.specs.KnownLists.{dispatch_of}
use Rattle.masm_tree.specs.declared.tree.Proc.{Proc}
use Rattle.masm_tree.specs.Views.{body_of, source_of}
use Rattle.masm_tables.specs.Building.{AreBuilt}
use Rattle.masm_tables.specs.Preparing.{Prepares}
use Rattle.masm_tables.specs.Tables.{AreLists, AreDigests, listed}
use Rattle.masm_tables.proofs.Dispatches.{targets_below}
use Rattle.masm_names.specs.Names.{place_at}
use Rattle.masm_names.specs.Uses.{first_place, target_names}
use Rattle.masm_uses.specs.Plans.{EndsInFull}
use Rattle.masm_link.proofs.Linked.{linked_is, some_same}
use Rattle.masm_link.proofs.MainRuns.{main_runs}
use Rattle.masm_link.proofs.linking.built.Goals as goal

pub lists_of-requires-clause-ended : goal.lists_of-requires-clause-ended
lists_of-requires-clause-ended c =
    subst (All (EndsInFull (place_at c.args.measured.now.names) (source_of c.args.ast.now).procs)) (sym c.deref.ensures.value)
    c.requires.measured.ended

pub returns-clause-linked : goal.returns-clause-linked
returns-clause-linked c = λ out is lies.
    let ast = c.args.ast.now in
    let m = c.args.measured.now in
    let kernel = c.args.outside.now.exports.now in
    let lists = c.in_ok-built.built.table.lists.items in
    let digests = c.in_ok-built.built.digests.items in
    let made = c.in_ok-exports.exports.items in
    let known : AreLists (source_of ast) out lists = c.in_ok-built.ensures.lists out is lies.exports in
    let told : AreDigests (source_of ast) out digests = c.in_ok-built.ensures.digests out is lies.exports in
    let built =
    subst (λ ls. AreBuilt m.sizes.items ls ast.procs.items made) c.deref-4.ensures.value
    (subst (λ ss. AreBuilt ss c.deref-4.result.now ast.procs.items made) c.deref-3.ensures.value
    (subst (λ ps. AreBuilt c.deref-3.result.now c.deref-4.result.now ps made) c.deref-2.ensures.value c.in_ok-exports.ensures)) in
    let targets = m.targets.items in
    let dispatch = c.in_ok-main.ensures.0 in
    let asks = subst (λ ts. (q : Proc) → ast.main ≡ Some q → Prepares (λ tree. tree_of tree ≡ dispatch_of lists ts) (body_of q.body.items)
    c.in_ok-built.built.dispatch dispatch) c.as_slice-targets.ensures.value c.in_ok-main.ensures.1 in
    let runs = main_runs ast out lists known targets c.requires.measured.targets c.in_ok-built.built.dispatch dispatch
    (c.in_ok-built.ensures.dispatch out is lies.exports) asks in
    linked_is ast kernel m c.requires.measured out lies (c.requires.clean out lies) lists known digests told dispatch runs
    (record { exports = c.in_ok-exports.exports; main = c.in_ok-main.main }) built c.in_ok-main.ensures.2

pub returns-clause-main : goal.returns-clause-main
returns-clause-main c =
    some_same tree_of
    (λ p. whole as_tree (listed c.args.measured.now.names c.in_ok-built.built c.in_ok-main.ensures.0 c.args.outside.now.exports.now p))
    c.in_ok-main.main c.args.ast.now.main c.in_ok-main.ensures.2

pub main_tree-requires-clause-targets : goal.main_tree-requires-clause-targets
main_tree-requires-clause-targets c =
    let m = c.args.measured.now in
    subst (All (λ j. j < length c.in_ok-built.built.table.lists.items)) (sym c.as_slice-targets.ensures.value)
    (subst (λ n. All (λ j. j < n) m.targets.items) (sym c.in_ok-built.ensures.count)
    (targets_below (source_of c.args.ast.now) m.targets.items c.requires.measured.targets))

pub lists_of-requires-clause-targets : goal.lists_of-requires-clause-targets
lists_of-requires-clause-targets c =
    let source = source_of c.args.ast.now in
    subst (λ ts. map Some ts ≡ map (first_place source.procs) (target_names source)) (sym c.as_slice-targets.ensures.value)
    c.requires.measured.targets
