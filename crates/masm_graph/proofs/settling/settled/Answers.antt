use Rattle.std.proofs.Common.{ℕ, ◌≤◌, get_or, ap, subst, ◌∙◌}
use Rattle.graphs.specs.Graph.{rows_of, Edge}
use Rattle.masm_graph.proofs.SettlingLemmas.{Ascend, settles}
use Rattle.masm_graph.proofs.settling.settled.Goals as goal

pub returns : goal.returns
returns c =
    let graph = ap rows_of c.as_slice-graph.ensures.value ∙ c.in_ok-graph.ensures in
    let numbers = c.as_slice-numbers.result.now in
    let marks = c.in_ok-settled.settled.items in
    settles (rows_of c.args.rows.now) (rows_of c.args.users.now) c.requires numbers
    (subst (λ g. (a b : ℕ) → Edge g a b → get_or numbers a 0 ≤ get_or numbers b 0) graph (c.ascends.ensures c.if-not-ascends.false)) marks
    (subst (λ g. Ascend g numbers marks) graph c.in_ok-settled.ensures)
