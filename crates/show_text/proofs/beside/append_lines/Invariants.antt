use Rattle.std.proofs.Common.{[]}
use Rattle.std.specs.Prelude.{slice_index_or}
use Rattle.air_kit.specs.declared.trace.TableName.TheVariants as table
use Rattle.show_text.specs.BesideText.{beside_line, is_beside, most_beside}
use Rattle.show_text.proofs.FewTold.{Told}
use Rattle.show_text.proofs.beside.append_lines.Given as goal

-- the first rows so far stand behind the text
abbrev pub invariant-loop-i : goal.invariant-loop-i
invariant-loop-i l =
    Told (λ i. beside_line table.Memory i (slice_index_or l.trace.memory i [])) (λ i. is_beside l.tuple (slice_index_or l.trace.memory i [])) most_beside l.i l.initial.text
    l.text l.told
