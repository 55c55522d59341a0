use Rattle.std.proofs.Common.{ℕ, ◌++◌, drop, ap, ◌∙◌}
use Rattle.std.specs.Prelude.{codes}
use Rattle.masm_places.specs.Pending.{levels_in, walk_of}
use Rattle.masm_places.specs.Told.{told}
use Rattle.show_cycles.specs.CycleLines.{moment_text, stack_text, told_text}
use Rattle.show_cycles.proofs.LevelLemmas.{four_more}
use Rattle.show_cycles.proofs.cycles.append_line.Goals as goal

pub returns : goal.returns
returns c =
    four_more c.args.text.now (moment_text c.args.event.now)
    (stack_text c.args.event.now.before.depth c.args.event.now.before.cells)
    (told_text (told c.args.event.now.op (walk_of c.args.walk.now))) (codes "\n") c.append_moment.new.text c.append_stack.new.text
    c.append_told.new.text _ c.in_ok-append_moment.ensures c.in_ok-append_stack.ensures
    (c.in_ok-append_told.ensures
    ∙ ap (λ (n : ℕ). c.append_stack.new.text ++ told_text (drop n (levels_in c.args.walk.now.levels))) c.skipped.ensures)
    c.in_ok-append.ensures.ok
