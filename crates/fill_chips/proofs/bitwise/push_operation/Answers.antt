use Rattle.fill_chips.proofs.Words.{◌≡◌, ◌*◌, ◌-◌, [], ◌∷◌, ◌++◌, sym, ap, ◌∙◌, append_assoc, add-one, arith, append-nil, row_without}
use Rattle.fill_chips.proofs.BitLemmas.{first_rows, first-all}
use Rattle.fill_chips.proofs.bitwise.push_operation.Goals as goal

pub loop-k-init : goal.loop-k-init
unfolding first_rows
loop-k-init c = sym (append-nil c.args.table.now)

pub loop-k-preserved : goal.loop-k-preserved
unfolding first_rows
loop-k-preserved c =
    let op = c.args.op in
    let k = c.loop-k.k in
    c.in_ok-push_row.ensures.ok
    ∙ ap (λ row. c.loop-k.table ++ row ∷ []) c.row_without.ensures
    ∙ ap (λ table. table ++ row_without (28 - 4 * k) op ∷ []) c.loop-k.invariant
    ∙ append_assoc c.args.table.now (first_rows op k) (row_without (28 - 4 * k) op ∷ [])
    ∙ ap (λ rows. c.args.table.now ++ rows) (ap (first_rows op) (sym (add-one k)))

pub returns-clause-rows : goal.returns-clause-rows
returns-clause-rows c =
    let eight : c.loop-k.k ≡ 8 = omega arith in
    c.loop-k.invariant ∙ ap (λ n. c.args.table.now ++ first_rows c.args.op n) eight ∙ ap (λ rows. c.args.table.now ++ rows) (first-all c.args.op)
