use Rattle.masm_flat.proofs.Words.{sym, ap, ◌∙◌, place_at, pieces_of}
use Rattle.masm_flat.proofs.Served.{on_both, comes_used, comes_unused}
use Rattle.masm_flat.proofs.flattening.add_used.Goals as goal

pub returns-in-Some : goal.returns-in-Some
returns-in-Some c =
    let leads = ap (place_at c.args.scope.now.names.now) (sym c.as_slice.ensures.items) ∙ sym c.in-Some.ensures in
    on_both c.add_list.result (λ pieces taken. λ at. comes_used at c.args.name.now (pieces_of c.args.out.now.items) leads taken pieces)
    c.add_list.ensures.pieces c.add_list.ensures.taken

pub returns-in-None : goal.returns-in-None
returns-in-None c = λ at.
    let leads = ap (place_at c.args.scope.now.names.now) (sym c.as_slice.ensures.items) ∙ sym c.in-None.ensures in
    comes_unused at c.args.name.now (pieces_of c.args.out.now.items) leads
