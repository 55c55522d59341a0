use Rattle.std.proofs.Common.{cond, Some, None, sym, ap, ap₂, ◌∙◌, bytes_eq}
use Rattle.std.specs.Option.{option_or}
use Rattle.masm_names.proofs.NameLemmas.{place_in-more}
use Rattle.masm_names.proofs.names.Names.of.Goals as goal

pub loop-place-preserved : goal.loop-place-preserved
loop-place-preserved g c = λ text.
    let xs = c.args.items.now in
    let i = c.loop-place.place in
    c.in_ok-add.ensures text
    ∙ (ap₂ (λ before name. option_or before (cond (bytes_eq name text) (Some i) None)) (c.loop-place.invariant text)
    (c.name.ensures ∙ ap g.T.Named.name c.index-items-place.is)
    ∙ sym (place_in-more g.T.Named.name xs i c.index-items-place.result text c.loop-place-test.true))
