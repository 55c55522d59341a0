use Rattle.masm_uses.proofs.Words.{ap, get_or, false, sym, subst, ◌∙◌, AmongFirst, Returns, rows_of}
use Rattle.masm_uses.proofs.Words.{Leads, HasOwn, FindsLeast-with, Among-either, Among-end, row_read, row_itself, rows_within, rows_ended, AreUsers-graph}
use Rattle.masm_uses.proofs.recursion.first_recursion.Goals as goal

pub with_row-requires-clause-graph : goal.with_row-requires-clause-graph
with_row-requires-clause-graph c = AreUsers-graph (rows_of c.args.rows.now) (rows_of c.args.users.now) c.requires

pub with_row-requires-clause-settled : goal.with_row-requires-clause-settled
with_row-requires-clause-settled c = λ marked place has.
    let is =
    c.deref-in-loop-user.ensures.value
    ∙ row_read c.args.rows.now c.loop-user.user c.index-rows-user.result c.loop-user-test.true c.index-rows-user.is in
    c.in_ok-settled.ensures c.loop-user.user place
    (ap (λ marks. get_or marks c.loop-user.user false) (sym c.deref.ensures.value) ∙ (sym c.is_marked.ensures ∙ marked))
    (subst (λ r. HasOwn r place) is has)

pub loop-user-preserved : goal.loop-user-preserved
loop-user-preserved c =
    let rows = rows_of c.args.rows.now in
    let users = rows_of c.args.users.now in
    let i = c.loop-user.user in
    let row = c.deref-in-loop-user.result.now in
    let within = rows_within c.args.rows.now i c.loop-user-test.true in
    let is = c.deref-in-loop-user.ensures.value ∙ row_read c.args.rows.now i c.index-rows-user.result c.loop-user-test.true c.index-rows-user.is in
    Among-either (λ user row. Returns (Leads users user) row) rows i row c.in_ok-first.first within (row_itself rows i row within is)
    (FindsLeast-with (AmongFirst (λ user row. Returns (Leads users user) row) rows i) (Returns (Leads users i) row) c.loop-user.first c.in_ok-first.first
    c.loop-user.invariant c.in_ok-first.ensures)

pub returns : goal.returns
returns c =
    let ended = rows_ended c.args.rows.now c.loop-user.user c.loop-user-test.false in
    Among-end (λ user row. Returns (Leads (rows_of c.args.users.now) user) row) (rows_of c.args.rows.now) c.loop-user.user c.loop-user.first ended
    c.loop-user.invariant
