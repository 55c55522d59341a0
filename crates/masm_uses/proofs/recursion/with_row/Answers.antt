use Rattle.masm_uses.proofs.Words.{◌≡◌, ℕ, true, false, Some, slice_index_or, rules, list_any, Returns, waits, rows_of, Leads, FindsLeast-earlier}
use Rattle.masm_uses.proofs.Words.{FindsLeast-itself, FindsLeast-stays}
use Rattle.masm_uses.proofs.DanglingLemmas.{Returns-same, none_back, none_waits}
use Rattle.masm_uses.proofs.recursion.with_row.Goals as goal

pub returns-then-is_settled : goal.returns-then-is_settled
returns-then-is_settled c =
    FindsLeast-stays (Returns (Leads (rows_of c.args.users.now) c.args.user) c.args.row.now) c.args.first
    (none_back c.args.first c.args.row.now (Leads (rows_of c.args.users.now) c.args.user) (c.requires.settled c.if-is_settled.true))

pub returns-then-not-some_waits : goal.returns-then-not-some_waits
returns-then-not-some_waits c =
    let none : list_any (waits c.args.first) c.args.row.now ≡ false = search rules in
    FindsLeast-stays (Returns (Leads (rows_of c.args.users.now) c.args.user) c.args.row.now) c.args.first
    (none_waits c.args.first c.args.row.now (Leads (rows_of c.args.users.now) c.args.user) none)

pub returns : goal.returns
returns c =
    let row = c.args.row.now in
    let Back : ℕ → Type 0 = Leads (rows_of c.args.users.now) c.args.user in
    let marked = rw c.deref.ensures.value at c.first_return.ensures in
    rw c.earlier.ensures (FindsLeast-earlier (λ at cause. c.args.first ≡ Some (record { at = at; cause = cause })) (Returns Back row)
    c.args.first _ (FindsLeast-itself c.args.first)
    (Returns-same (λ q. slice_index_or c.in_ok-marks.marks.items q false ≡ true) Back row _ c.in_ok-marks.ensures marked))
