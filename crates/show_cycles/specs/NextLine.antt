-- The line that tells where a run goes on that was cut off (docs/SHOW.md, "trace").
use Rattle.std.specs.Prelude.{ℕ, List, [], ◌∷◌, ◌++◌, codes}
use Rattle.machine_cycles.specs.declared.event.Event.{Event}
use Rattle.masm_places.specs.Pending.{Walk}
use Rattle.masm_places.specs.Silent.{settled}
use Rattle.masm_places.specs.Steps.{reached}
use Rattle.masm_places.specs.Texts.{Texts}
use Rattle.masm_places.specs.Walks.{begin}
use Rattle.show_cycles.specs.CycleLines.{gone, told_text}

-- the walk behind these cycles
abbrev pub behind : Texts → Walk → List Event → Walk
behind texts w [] = w
behind texts w (e ∷ events) = behind texts (gone texts w e) events

-- where the cycle behind these belongs
abbrev pub next_line : Texts → List Event → List ℕ
next_line texts events =
    codes "next" ++ told_text (reached (settled texts (behind texts (begin texts) events))).levels ++ codes "\n"
