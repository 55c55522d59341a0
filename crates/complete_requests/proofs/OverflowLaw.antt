-- What the inputs and the rows of a run give of overflow is what the rows and the cells that are left ask.
use Rattle.complete_rows.proofs.Words
use Words.{◌≡◌, ℕ, ◌+◌, ◌-◌, List, [], ◌∷◌, ◌++◌, length, map, drop, refl, sym, ap, ◌∙◌, subst, arith, lit<, length-drop, number_of_constants, State, start}
use Words.{Block, IsCycle, Tree, cycle-step, counted, over_rows, with_next, drop-filled_up, cell_tuples, keys_at_start, overflow_asked, overflow_given, Event}
use Words.{filled, keys_of, AreLinked, advance, at_start, decoder_after, IsMoment}
use Rattle.vm_ops.proofs.FrameLemmas.{step-below}
use Rattle.chip_columns.specs.LeftColumns as left
use Rattle.complete_rows.proofs.ChainLemmas.{bus_balanced}
use Rattle.complete_rows.proofs.MomentFacts.{advice_of, core_after, moment_allowed, moment_behind, moment_event, moment_op, moment_shows, place_shows}
use Rattle.complete_rows.proofs.TableLemmas.{linked}
use Rattle.complete_requests.specs.Overflow.{RunKeepsOverflow}
use Rattle.complete_requests.proofs.LeftTable.{table_asks}
use Rattle.complete_requests.proofs.MomentCells.{moment_eight}
use Rattle.complete_requests.proofs.OverflowBus.{overflow_step}
use Rattle.complete_requests.proofs.OverflowSteps.{owed_cells}

module _ {constants : List ℕ} (len : length constants ≡ number_of_constants) {kernel : List (List ℕ)} {limit : ℕ} (v : List ℕ) where
  moment_even : {x y : List ℕ} (m : IsMoment constants kernel limit x y)
      → counted (overflow_given x y) v + owed_cells v (m.task ∷ m.todo) m.d m.s.core.stack
      ≡ counted (overflow_asked x y) v + owed_cells v (m.rest ++ m.todo) (advance m.d (moment_event m) m.later) m.t.core.stack
  moment_even m =
      let here = moment_shows m in
      let there = place_shows m.next in
      overflow_step kernel (advice_of m) v m.d m.later m.todo (moment_behind m) m.t.core.stack m.first m.whole (moment_allowed m)
      (ap (λ c. c.stack) (core_after m.cycle))
      (λ item is. step-below constants item m.s m.t len m.before
      (cycle-step constants kernel limit item m.s m.t (subst (λ mark. IsCycle constants kernel limit mark m.s m.t) is m.cycle)))
      m.agrees.keyed (record {
        op = moment_op m;
        clock = here.clock;
        last = here.cells 15 (lit< tt);
        deep = here.deep;
        key_is = here.key_is;
        behind = there.cells 15 (lit< tt);
        key_behind = there.key_is;
        eight = moment_eight m;
      })

  rows_even : {u : State} (deep : ℕ) {tree : Tree} {s : State} {events : List Event} {rows : List (List ℕ)}
      → AreLinked constants kernel limit u (Block tree ∷ []) (at_start deep) s events rows
      → counted (cell_tuples (keys_at_start deep) (drop 16 s.core.stack)) v + over_rows (with_next overflow_given) rows v
      ≡ over_rows (with_next overflow_asked) rows v + counted (cell_tuples (decoder_after (at_start deep) events).keys (drop 16 u.core.stack)) v
  rows_even deep linked =
      let whole = bus_balanced overflow_given overflow_asked v (λ todo d t later. owed_cells v todo d t.core.stack)
      (λ x y rows m later. moment_even m) linked in
      omega (arith, whole)

-- what is owed at the start are the inputs below the sixteenth
starts_with : (inputs tape : List ℕ)
    → cell_tuples (keys_at_start (length inputs - 16)) (drop 16 (start inputs tape).core.stack)
    ≡ cell_tuples (keys_at_start (length (drop 16 inputs))) (drop 16 inputs)
unfolding start
starts_with inputs tape =
    ap (cell_tuples (keys_at_start (length inputs - 16))) (drop-filled_up inputs)
    ∙ ap (λ n. cell_tuples (keys_at_start n) (drop 16 inputs)) (sym (length-drop 16 inputs))

pub overflow_is_even : RunKeepsOverflow
overflow_is_even constants kernel limit tree inputs tape u log r =
    let even : (v : List ℕ)
    → counted (cell_tuples (keys_at_start (length (drop 16 inputs))) (drop 16 inputs)) v
    + over_rows (with_next overflow_given) (filled constants kernel u log) v
    ≡ over_rows (with_next overflow_asked) (filled constants kernel u log) v
    + counted (cell_tuples (keys_of constants kernel inputs log) (drop 16 u.core.stack)) v
    = λ v.
    subst
    (λ cells. counted cells v + over_rows (with_next overflow_given) (filled constants kernel u log) v
    ≡ over_rows (with_next overflow_asked) (filled constants kernel u log) v
    + counted (cell_tuples (keys_of constants kernel inputs log) (drop 16 u.core.stack)) v)
    (starts_with inputs tape) (rows_even r.constants_are v (length inputs - 16) (linked r)) in
    record {
      cells = even;
      table = λ k others given outputs keys v.
          let begun = ap (λ xs. counted (cell_tuples (keys_at_start (length (drop 16 xs))) (drop 16 xs)) v) given in
          let asked = table_asks k others v in
          let same : counted (cell_tuples (map left.key others) (drop 16 k.outputs)) v
          ≡ counted (cell_tuples (keys_of constants kernel inputs log) (drop 16 u.core.stack)) v
          = rw (keys, outputs) refl in
          let whole = even v in
          omega (arith, begun, asked, same, whole);
    }
