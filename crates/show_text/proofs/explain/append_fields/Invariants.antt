use Rattle.std.proofs.Common.{◌≡◌, [], ◌++◌, map}
use Rattle.std.specs.Prelude.{slice_index, slice_index_or}
use Rattle.std.specs.List.{flat_map, range_with_len}
use Rattle.show_text.specs.ExplainText.{field_text}
use Rattle.show_text.proofs.explain.append_fields.Given as goal

-- the fields so far stand behind the text
abbrev pub invariant-loop-i : goal.invariant-loop-i
invariant-loop-i l =
    l.text ≡ l.initial.text
    ++ flat_map (λ i. field_text (slice_index_or (map (λ name. name.now) l.names) i []) (slice_index l.tuple i)) (range_with_len 0 l.i)
