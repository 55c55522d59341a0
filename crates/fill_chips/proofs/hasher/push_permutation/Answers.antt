use Rattle.fill_chips.proofs.Words.{append-nil, ◌≡◌, [], ◌∷◌, ◌++◌, false, sym, ap, ◌∙◌, append_assoc, add-one, arith, perm_row}
use Rattle.perm_memo.proofs.StateLemmas.{round_states-at}
use Rattle.fill_chips.proofs.PermLemmas.{ok_then, first_rows, first-all, row-is}
use Rattle.fill_chips.proofs.hasher.push_permutation.Goals as goal

pub loop-k-init : goal.loop-k-init
unfolding first_rows
loop-k-init c = λ constants is. sym (append-nil c.args.table.now)

pub loop-k-preserved : goal.loop-k-preserved
unfolding first_rows
loop-k-preserved c = λ constants is.
    let perm = c.args.perm.now in
    let k = c.loop-k.k in
    let state = round_states-at constants perm.start c.args.states.now k (omega arith) is in
    c.in_ok-push_row.ensures.ok
    ∙ ap (λ row. c.loop-k.table ++ row ∷ []) (c.row_of.ensures ∙ row-is constants perm k false _ state)
    ∙ ap (λ table. table ++ perm_row constants perm k false ∷ []) (c.loop-k.invariant constants is)
    ∙ append_assoc c.args.table.now (first_rows constants perm k) (perm_row constants perm k false ∷ [])
    ∙ ap (λ rows. c.args.table.now ++ rows) (ap (first_rows constants perm) (sym (add-one k)))

pub returns-clause-rows : goal.returns-clause-rows
returns-clause-rows c = λ constants is.
    let perm = c.args.perm.now in
    let seven : c.loop-k.k ≡ 7 = omega arith in
    let state = round_states-at constants perm.start c.args.states.now 7 (omega arith) is in
    let rows = c.loop-k.invariant constants is ∙ ap (λ n. c.args.table.now ++ first_rows constants perm n) seven in
    ok_then c.push_row-2.result (λ ok.
    ok ∙ ap (λ row. c.loop-k.table ++ row ∷ []) (c.row_of-2.ensures ∙ row-is constants perm 7 perm.more _ state)
    ∙ ap (λ table. table ++ perm_row constants perm 7 perm.more ∷ []) rows
    ∙ append_assoc c.args.table.now (first_rows constants perm 7) (perm_row constants perm 7 perm.more ∷ [])
    ∙ ap (λ rows. c.args.table.now ++ rows) (first-all constants perm)) c.push_row-2.ensures.ok
