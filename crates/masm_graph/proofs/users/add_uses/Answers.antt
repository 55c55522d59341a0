use Rattle.std.proofs.Common.{◌≡◌, ℕ, ◌≤◌, length, get_or, ◌⊎◌, ◌↔◌, subst, ◌∙◌, rules, arith}
use Rattle.std.proofs.lemmas.List.{get_or_default, take_all}
use Rattle.graphs.specs.Graph.{rows_of, Edge}
use Rattle.masm_graph.specs.Users.{HasOwn}
use Rattle.masm_graph.proofs.UserLemmas.{no_link, row_has, uses-more}
use Rattle.masm_graph.proofs.users.add_uses.Goals as goal

pub add_user-requires : goal.add_user-requires
add_user-requires c = record {
  within = λ place leads.
      let row = c.args.row.now in
      let i = c.loop-link.link-index in
      let h = c.requires.within place (row_has row i (get_or row i no_link) place c.loop-link-test.true
      (get_or_default row i no_link (get_or row i no_link) c.loop-link-test.true) leads) in
      let count = c.loop-link.invariant.1 in
      omega arith;
}

pub loop-link-preserved : goal.loop-link-preserved
loop-link-preserved c =
    let row = c.args.row.now in
    let i = c.loop-link.link-index in (
      uses-more _ _ _ c.args.user row i (get_or row i no_link) c.loop-link-test.true
          (get_or_default row i no_link (get_or row i no_link) c.loop-link-test.true)
          c.loop-link.invariant.0 c.in_ok-add_user.ensures.edges,
      c.in_ok-add_user.ensures.count ∙ c.loop-link.invariant.1,
    )

pub returns-clause-edges : goal.returns-clause-edges
returns-clause-edges c =
    let ended : length c.args.row.now ≤ c.loop-link.link-index = search rules in
    subst (λ row. (place other : ℕ) → Edge (rows_of c.loop-link.users.items) place other
    ↔ (Edge (rows_of c.args.users.now.items) place other ⊎ ((other ≡ c.args.user) × HasOwn row place)))
    (take_all _ c.args.row.now ended) c.loop-link.invariant.0
