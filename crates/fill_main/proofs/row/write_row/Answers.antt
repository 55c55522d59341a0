use Rattle.std.proofs.Common.{◌==◌, [], ◌∷◌, length, sym, ap, ◌∙◌}
use Rattle.vm_ops.specs.Codes.{is_ordinary_op}
use Rattle.vm_ops.specs.Values.{bit_of}
use Rattle.complete_rows.specs.Filling.{hash_by, in_use_by, line_of, witnesses_by}
use Rattle.vm_ops.specs.declared.kind.Kind.{Kind}
use Rattle.fill_requests.specs.Parts.{eight_of, four_of}
use Rattle.fill_decoder.specs.Views.{decoder_in}
use Rattle.fill_main.proofs.RowLemmas.{row-laid}
use Rattle.fill_main.proofs.row.write_row.Goals as goal

pub returns : goal.returns
returns c = λ later turn.
    let d = decoder_in c.args.decoder.now in
    let e = c.args.event.now in
    let next = c.args.next.now in
    let kind = c.kind_of-kind.ensures in
    row-laid (line_of d e next later) _ _ _ _ _ _ _ _ _ _ _ _ _ _ _ _ c.write_cells.ensures.written c.write_cells-2.ensures.written
    c.write_cells-3.ensures.written c.write_cells-4.ensures.written c.write_cells-5.ensures.written c.write_cells-6.ensures.written
    c.write_cells-7.ensures.written c.write_cells-8.ensures.written c.write_cells-8.ensures.whole
    c.state_cells.ensures c.open_cells.ensures (c.hash_cells.ensures ∙ ap (λ (k : Kind). eight_of (hash_by k d e)) kind)
    (c.batch_cells.ensures ∙ ap (λ (k : Kind). bit_of (is_ordinary_op e.op) ∷ length d.unread.positions ∷ d.unread.place
    ∷ bit_of (in_use_by k e == 8) ∷ bit_of (in_use_by k e == 4) ∷ bit_of (in_use_by k e == 2) ∷ []) kind)
    c.stack_cells.ensures c.key_cells.ensures
    (c.witness_cells-witnesses.ensures later (λ is. turn (sym kind ∙ is)) ∙ ap (λ (k : Kind). four_of (witnesses_by k d e next later)) kind) c.limbs_of.ensures.cells
