use Rattle.masm_flat.proofs.Words.{ap, ◌∙◌, sym, option_copied, place_at}
use Rattle.masm_flat.proofs.Placed.{found_at, got_at}
use Rattle.masm_flat.proofs.outside.Outside.first.Goals as goal

pub returns-in_err-place : goal.returns-in_err-place
returns-in_err-place c =
    let outside = c.args.self.now in
    let name = c.args.name.now in
    let placed = sym (outside.indexed name) ∙ (ap (place_at outside.names) (sym c.as_slice.ensures.items) ∙ sym c.place.ensures) in
    ap option_copied c.from_residual.ensures ∙ sym (found_at (λ p. p.name) outside.exports.now name _ (placed ∙ c.in_err-place.was))

pub returns : goal.returns
returns c =
    let outside = c.args.self.now in
    let name = c.args.name.now in
    let placed = sym (outside.indexed name) ∙ (ap (place_at outside.names) (sym c.as_slice.ensures.items) ∙ sym c.place.ensures) in
    got_at outside.exports.now c.in_ok-place.place c.get.result c.get.ensures.lookup
    ∙ sym (found_at (λ p. p.name) outside.exports.now name _ (placed ∙ c.in_ok-place.was))
