use Rattle.std.proofs.Common.{[], get_or, map, ap, ◌∙◌, arith}
use Rattle.std.specs.Prelude.{slice_index, slice_index_or}
use Rattle.std.proofs.lemmas.List.{get_or_read}
use Rattle.show_text.specs.ExplainText.{field_text}
use Rattle.show_text.proofs.Lines.{name_at, piece_more}
use Rattle.show_text.proofs.explain.append_fields.Goals as goal

pub loop-i-preserved : goal.loop-i-preserved
loop-i-preserved c =
    let names = map (λ name. name.now) c.args.names.now in
    let i = c.loop-i.i in
    let value = c.index-tuple-i.result in
    piece_more (λ i. field_text (slice_index_or names i []) (slice_index c.args.tuple.now i)) c.args.text.now c.loop-i.text _
    _ 0 i i _ c.loop-i.invariant c.in_ok-append_field.ensures
    (ap (λ n. field_text n value) (name_at c.args.names.now i _ (omega arith))
    ∙ ap (field_text (get_or names i [])) (get_or_read c.args.tuple.now i value (omega arith) c.index-tuple-i.is 0))
    (omega arith) (omega arith)
