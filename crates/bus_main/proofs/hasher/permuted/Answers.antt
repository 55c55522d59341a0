-- The output behind the input.
use Rattle.std.proofs.Common.{◌∷◌, ap, ◌∙◌}
use Rattle.vm_field.specs.Signs.{◌⊞◌}
use Rattle.vm_table.specs.MainColumns.{w}
use Rattle.air_kit.specs.MainTuples.{twelve}
use Rattle.bus_blocks.proofs.TwoLemmas.{two_asked}
use Rattle.bus_main.proofs.hasher.permuted.Goals as goal

pub returns : goal.returns
returns g c =
    let x = g.V.View.cells c.args.x.now in
    let y = g.V.View.cells c.args.y.now in
    two_asked _ _ _ _ _ _ _ _ (c.whole.ensures ∙ ap (λ k. 4 ∷ k ∷ twelve x) c.w0.ensures.is)
    (c.whole-2.ensures ∙ ap (λ k. 5 ∷ k ∷ twelve y)
    (c.add.ensures ∙ ap (λ k. k ⊞ c.from_u32.result) c.w0-2.ensures.is ∙ ap (λ k. w x 0 ⊞ k) c.from_u32.ensures))
    c.in_ok-ask.ensures c.ask-2.ensures
