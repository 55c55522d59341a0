use Rattle.masm_uses.proofs.Words.{◌<◌, ℕ, false, length, take, get_or, Vec, Global, inl, inr, sym, ap, subst, ◌∙◌, arith, cases_Bool, length-map}
use Rattle.masm_uses.proofs.Words.{All-contains, Contains, rows_of, LeadsFrom, itself, IsOrder, marked_first, Leads-push}
use Rattle.graphs.proofs.FirstLemmas.{marked_before, IsOrder-marked_first}
use Rattle.masm_uses.proofs.ordering.order_from.Goals as goal

pub returns-clause-order : goal.returns-clause-order
returns-clause-order c =
    let graph = rows_of c.args.graph.now in
    let marks = c.in_ok-marks.marks.items in
    let tells = c.in_ok-marks.ensures in
    subst (IsOrder graph) (sym (c.in_ok-first.ensures ∙ ap (λ ms. marked_first ms c.as_slice.result.now) c.deref.ensures.value
    ∙ ap (marked_first marks) c.as_slice.ensures.value))
    (IsOrder-marked_first marks c.in_ok-order.order.items graph c.in_ok-order.ensures
    (λ a b marked edge. let from = (tells a).0 marked in (tells b).1 (from.0, from.1, Leads-push graph from.0 a b from.2 edge)))

pub returns-clause-starts : goal.returns-clause-starts
returns-clause-starts c = λ k start none has.
    let graph = rows_of c.args.graph.now in
    let marks = c.in_ok-marks.marks.items in
    let tells = c.in_ok-marks.ensures in
    let first = c.in_ok-first.ensures ∙ ap (λ ms. marked_first ms c.as_slice.result.now) c.deref.ensures.value
    ∙ ap (marked_first marks) c.as_slice.ensures.value in
    let below = All-contains (λ q. q < length c.args.graph.now) c.args.starts.now start c.requires.starts has in
    let count = length-map c.args.graph.now (λ (v : Vec ℕ Global). v.items) in
    let is : start < length graph = omega arith in
    subst (λ order. Contains (take k order) start) (sym first)
    (marked_before marks c.in_ok-order.order.items k start
    (elim (cases_Bool (get_or marks (get_or (marked_first marks c.in_ok-order.order.items) k 0) false)) [
      | inl marked ↦ absurd (none (subst (λ order. LeadsFrom graph c.args.starts.now (get_or order k 0)) (sym first) ((tells _).0 marked)))
      | inr plain ↦ plain
    ])
    ((tells start).1 (start, has, itself)) (c.in_ok-order.ensures.all start is))
