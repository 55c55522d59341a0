-- The rows of a run ask on the hasher's bus what its permutations give.
use Rattle.complete_rows.proofs.Words
use Words.{◌≡◌, ℕ, List, [], ◌∷◌, length, refl, arith, lit<, number_of_constants, State, op_of_mark, Block, Tree, counted, over_rows, with_next, counted-none}
use Words.{hasher_asked, perms_given, visible_of, Event, AreLinked, Decoder, at_start, IsMoment, perms_of}
use Rattle.complete_rows.proofs.MomentFacts.{advice_of, moment_behind, moment_event, moment_op, moment_witness}
use Rattle.complete_requests.proofs.Following.{coming_are, coming_whole, rows_ask}
use Rattle.complete_requests.proofs.HasherBus.{hasher_step}
use Rattle.complete_requests.proofs.HasherSteps.{OperationAsks, owed_hashes}
use Rattle.complete_requests.proofs.HpermRows.{operation_given, operation_moves}
use Rattle.complete_requests.proofs.MomentCells.{moment_cells, moment_low}
use Rattle.complete_requests.proofs.Tops.{moment_cell, moment_tops}

nothing_owed : (constants v : List ℕ) (d : Decoder) → owed_hashes constants v [] d [] ≡ 0
unfolding perms_of perms_given
nothing_owed constants v d = let none = counted-none v in omega (arith, none)

module _ {constants : List ℕ} (len : length constants ≡ number_of_constants) {kernel : List (List ℕ)} {limit : ℕ} (v : List ℕ) where
  operation_asks : {x y : List ℕ} (m : IsMoment constants kernel limit x y) → OperationAsks constants m.mark m.d.next (moment_event m) x y v
  operation_asks {x = x} {y = y} m = record {
    given = operation_given constants len x y v m.mark m.d m.s (moment_event m) (visible_of m.t.core) m.later refl (moment_op m)
        (let low = (moment_low m).next in omega (arith, low)) m.before.core.deep (moment_cell len m) (moment_tops len m)
        (moment_witness m 0 (lit< tt));
    moves = λ is. operation_moves (op_of_mark m.mark) m.d.next (visible_of m.s.core);
  }

  pub hashes_asked : {u : State} (deep : ℕ) {tree : Tree} {s : State} {events : List Event} {rows : List (List ℕ)}
      → AreLinked constants kernel limit u (Block tree ∷ []) (at_start deep) s events rows
      → over_rows (with_next hasher_asked) rows v ≡ counted (perms_given constants 1 (perms_of constants events)) v
  hashes_asked deep linked =
      let asked = rows_ask hasher_asked v (owed_hashes constants v)
      (λ x y rows m later. hasher_step len (advice_of m) m.d m.later m.todo (moment_behind m) m.first m.whole (coming_whole later)
      (coming_are later) m.agrees.reads.1 (moment_cells m) (moment_low m) (operation_asks m)) (nothing_owed constants v) linked in
      omega (arith, asked)
