use Rattle.std.proofs.Common.{◌≡◌, ◌-◌, ◌++◌, [], ◌∷◌, length, get_or, take, slice_get, sym, ap, ap₂, ◌∙◌, append_assoc}
use Rattle.masm_size.specs.declared.shape.Rise.{Rise}
use Rattle.masm_size.specs.Sizes.{top_of, top_after, rises_behind}
use Rattle.masm_size.proofs.Measures.{top_last, behind_more}
use Rattle.masm_size.proofs.size.add_rises.Goals as goal

pub loop-rise-preserved : goal.loop-rise-preserved
loop-rise-preserved c =
    let rises = c.args.rises.now.items in
    let more = c.args.more.now in
    let i = c.loop-rise.rise-index in
    let offset = c.args.offset in
    let none : Rise = record { index = 0; height = 0 } in
    let rise = get_or more i none in
    let top : top_after c.copied-highest.result ≡ top_of 0 rises =
    ap top_after (c.copied-highest.ensures ∙ (c.last.ensures.value ∙ ap (λ xs. slice_get xs (length xs - 1)) c.deref.ensures.value))
    ∙ sym (top_last rises) in
    c.in_ok-add_rise.ensures
    ∙ (ap₂ (λ xs below. xs ++ rises_behind offset below (rise ∷ [])) c.loop-rise.invariant top
    ∙ (append_assoc rises (rises_behind offset (top_of 0 rises) (take i more)) (rises_behind offset (top_of 0 rises) (rise ∷ []))
    ∙ ap (λ xs. rises ++ xs) (sym (behind_more offset (top_of 0 rises) more i none c.loop-rise-test.true))))
