use Rattle.std.proofs.Common.{arith, refl, sym, ap, subst, ◌∙◌}
use Rattle.rpo_hash.specs.Constants.{constants_of}
use Rattle.block_tree.specs.Trees.{Refines, tree_digest}
use Rattle.block_tree.specs.TreeView.{tree_of}
use Rattle.tree_hash.specs.Nodes.{node_tree}
use Rattle.tree_merge.specs.AddrEvidences.{IsAddrEvidence}
use Rattle.tree_merge.specs.AddrView.{placed_of}
use Rattle.tree_merge.specs.Placed.{plain}
use Rattle.tree_merge.proofs.RunLemmas.{refined-run}
use Rattle.source_check.specs.Comparing.{IsCompared}
use Rattle.source_check.specs.Numbering.{blocks_in}
use Rattle.source_check.specs.SourceEvidences.{public_of}
use Rattle.source_check.proofs.CompareLemmas.{other-words, same-words}
use Rattle.source_check.proofs.checking.check_source.Goals as goal

pub returns-then-ne-clause-err : goal.returns-then-ne-clause-err
returns-then-ne-clause-err c =
    let own = c.digest-digest.ensures.is ∙ c.in_ok-source.ensures.digest
    ∙ ap (λ k. tree_digest k (tree_of c.args.program.now.tree)) c.keeping_none-permutations.ensures in
    record { stated_is = refl; own_is = own; differ = other-words _ _ c.ne.result c.ne.ensures c.if-ne.true }

pub compare-requires-clause-digest : goal.compare-requires-clause-digest
compare-requires-clause-digest c =
    let own = c.digest-digest.ensures.is ∙ c.in_ok-source.ensures.digest
    ∙ ap (λ k. tree_digest k (tree_of c.args.program.now.tree)) c.keeping_none-permutations.ensures in
    let agree = same-words _ _ c.ne.result c.ne.ensures c.if-ne.false in
    let run = subst (IsAddrEvidence (public_of c.args.params.now c.args.statement.now) c.args.trace.now) c.in-Run.is c.requires.evidence in
    run.run.digest ∙ sym agree ∙ own ∙ sym (ap (tree_digest (constants_of c.args.params.now)) c.in_ok-source.ensures.tree)

pub compare-requires-clause-room : goal.compare-requires-clause-room
compare-requires-clause-room c =
    let same = ap (blocks_in (constants_of c.args.params.now)) c.in_ok-source.ensures.tree in
    let room = c.requires.room in
    omega (arith, same, room)

pub returns-in-Merged-clause-digest : goal.returns-in-Merged-clause-digest
returns-in-Merged-clause-digest c =
    let own = c.digest-digest.ensures.is ∙ c.in_ok-source.ensures.digest
    ∙ ap (λ k. tree_digest k (tree_of c.args.program.now.tree)) c.keeping_none-permutations.ensures in
    sym own ∙ same-words _ _ c.ne.result c.ne.ensures c.if-ne.false

pub returns-in-Merged-clause-ok : goal.returns-in-Merged-clause-ok
returns-in-Merged-clause-ok c =
    let p = public_of c.args.params.now c.args.statement.now in
    let run = subst (IsAddrEvidence p c.args.trace.now) c.in-Run.is c.requires.evidence in
    let both = subst
    (IsCompared (constants_of c.args.params.now) c.args.trace.now (node_tree c.in_ok-source.source) (plain (placed_of c.in-Run.tree)))
    c.in-Merged.is c.in_ok-tree-in-Run.ensures in
    record {
      refines = subst (Refines (constants_of c.args.params.now) (tree_of c.in-Merged.tree)) c.in_ok-source.ensures.tree both.refines;
      run = refined-run p c.args.trace.now c.in-Run.cycles (plain (placed_of c.in-Run.tree)) (tree_of c.in-Merged.tree) c.in-Run.tape run.run both.fits;
    }

pub returns-in-Run-clause-digest : goal.returns-in-Run-clause-digest
returns-in-Run-clause-digest c =
    let own = c.digest-digest.ensures.is ∙ c.in_ok-source.ensures.digest
    ∙ ap (λ k. tree_digest k (tree_of c.args.program.now.tree)) c.keeping_none-permutations.ensures in
    sym own ∙ same-words _ _ c.ne.result c.ne.ensures c.if-ne.false

pub returns-clause-digest : goal.returns-clause-digest
returns-clause-digest c =
    let own = c.digest-digest.ensures.is ∙ c.in_ok-source.ensures.digest
    ∙ ap (λ k. tree_digest k (tree_of c.args.program.now.tree)) c.keeping_none-permutations.ensures in
    sym own ∙ same-words _ _ c.ne.result c.ne.ensures c.if-ne.false
