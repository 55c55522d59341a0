use Rattle.show_text.proofs.Lines.{eight, found_eight}
use Rattle.show_text.proofs.evidence.batch_of.Goals as goal

pub returns-in-len8 : goal.returns-in-len8
returns-in-len8 c =
    let least = c.in-len8.len_at_least in
    let most = c.in-len8.len_below in
    found_eight c.args.elements.now _ least most
    (eight c.args.elements.now _ _ _ _ _ _ _ _ least most c.a-item.is c.b-item.is c.c-item.is c.d-item.is c.e-item.is c.f-item.is
    c.g-item.is c.h-item.is)
