-- The rows of a run take of the tape what the run takes.
use Rattle.complete_rows.proofs.Words
use Words.{◌≡◌, ℕ, List, ◌∷◌, ◌++◌, length, take, drop, refl, sym, ap, ◌∙◌, append_assoc, number_of_constants, State, start, advice_taken, Task, Event}
use Words.{AreLinked, Decoder, IsMoment}
use Words.flags
use Words.chains
use Rattle.std.proofs.lemmas.List.{take-append-drop}
use Rattle.air_kit.specs.RowStates.{tape_of, taken_by}
use Rattle.complete_rows.proofs.MomentFacts.{moment_op}
use Rattle.complete_rows.proofs.TableLemmas.{linked}
use Rattle.complete_requests.specs.Taken.{RunTakes}
use Rattle.complete_requests.proofs.TapeRows.{row_takes}

module _ {constants : List ℕ} (len : length constants ≡ number_of_constants) {kernel : List (List ℕ)} {limit : ℕ} where
  -- what is taken, and what is left
  moment_takes : {x y : List ℕ} (m : IsMoment constants kernel limit x y) → m.s.tape ≡ taken_by (flags.op_of x) y ++ m.t.tape
  moment_takes {x = x} {y = y} m =
      let row : taken_by (flags.op_of x) y ≡ take (advice_taken m.mark) m.s.tape
      = ap (λ o. taken_by o y) (moment_op m) ∙ row_takes len m in
      let left : m.t.tape ≡ drop (advice_taken m.mark) m.s.tape = ap (λ t. t.tape) m.cycle.now in
      rw (row, left) (sym (take-append-drop (advice_taken m.mark) m.s.tape))

  tape_along : {u : State} {todo : List Task} {d : Decoder} {s : State} {events : List Event} {rows : List (List ℕ)}
      → AreLinked constants kernel limit u todo d s events rows → s.tape ≡ tape_of rows ++ u.tape
  unfolding tape_of
  tape_along (chains.ends e) = refl
  tape_along {u = u} (chains.goes {x = x} {y = y} {rows = rows} m later) =
      moment_takes m ∙ ap (λ tape. taken_by (flags.op_of x) y ++ tape) (tape_along later)
      ∙ sym (append_assoc (taken_by (flags.op_of x) y) (tape_of (y ∷ rows)) u.tape)

pub run_takes : RunTakes
unfolding start
run_takes constants kernel limit tree inputs tape u log r = tape_along r.constants_are (linked r)
