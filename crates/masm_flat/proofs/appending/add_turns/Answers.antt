use Rattle.masm_flat.proofs.Words.{◌++◌, append_assoc, ap, sym, ◌∙◌, times, pieces_of}
use Rattle.masm_flat.proofs.Times.{times_more}
use Rattle.masm_flat.proofs.appending.add_turns.Goals as goal

pub loop-turn-preserved : goal.loop-turn-preserved
loop-turn-preserved c =
    let before = pieces_of c.args.out.now.items in
    let list = pieces_of c.args.list.now in
    c.in_ok-add_copies.ensures ∙ ap (λ xs. xs ++ list) c.loop-turn.invariant ∙ append_assoc before (times c.loop-turn._turn list) list
    ∙ ap (λ xs. before ++ xs) (sym (times_more c.loop-turn._turn list))
