use Rattle.std.proofs.Common.{◌≤◌, length, sym, subst, ◌∙◌, rules, arith}
use Rattle.std.proofs.lemmas.List.{length-map}
use Rattle.graphs.specs.Graph.{rows_of}
use Rattle.masm_graph.specs.Users.{HasOwn}
use Rattle.masm_graph.proofs.UserLemmas.{row_read, rows_ended, rows-more, AreUsers-end}
use Rattle.masm_graph.proofs.users.users_of.Goals as goal

pub add_uses-requires : goal.add_uses-requires
add_uses-requires c = record {
  within = λ place has.
      let is =
      c.deref.ensures.value ∙ row_read c.args.rows.now c.loop-user.user c.index-rows-user.result c.loop-user-test.true
      c.index-rows-user.is in
      let h = c.requires.within c.loop-user.user place (subst (λ r. HasOwn r place) is has) in
      let count = c.loop-user.invariant.1 in
      omega arith;
}

pub loop-user-preserved : goal.loop-user-preserved
loop-user-preserved c =
    let is =
    c.deref.ensures.value ∙ row_read c.args.rows.now c.loop-user.user c.index-rows-user.result c.loop-user-test.true
    c.index-rows-user.is in (
      rows-more (rows_of c.args.rows.now) _ _ c.loop-user.user c.deref.result.now is c.loop-user.invariant.0 c.in_ok-add_uses.ensures.edges,
      c.in_ok-add_uses.ensures.count ∙ c.loop-user.invariant.1,
    )

pub returns : goal.returns
returns c =
    let ended : length c.args.rows.now ≤ c.loop-user.user = search rules in
    AreUsers-end (rows_of c.args.rows.now) _ c.loop-user.user
    (length-map c.loop-user.users.items _ ∙ (c.loop-user.invariant.1 ∙ sym (length-map c.args.rows.now _)))
    (rows_ended c.args.rows.now c.loop-user.user ended) c.loop-user.invariant.0
