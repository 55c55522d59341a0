use Rattle.masm_tables.proofs.Words.{refl, ap, ◌∙◌, sizes_known, procedure_size, body_of}
use Rattle.masm_tables.proofs.sizing.add_size.Goals as goal

pub returns : goal.returns
returns c =
    let p = c.args.procedure.now in (
      c.in_ok-size.size,
      refl,
      c.in_ok-size.ensures ∙ ap (λ sizes. procedure_size (sizes_known c.args.names.now sizes c.args.dispatch c.args.outside.now.exports.now) p.locals
          (body_of p.body.items)) c.as_slice.ensures.value,
    )
