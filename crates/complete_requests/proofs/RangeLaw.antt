-- The rows of a run ask on the range's bus its limbs, and how many more blocks may nest in each block that starts.
use Rattle.complete_rows.proofs.Words
use Words.{◌≡◌, ℕ, suc, ◌+◌, ◌-◌, ◌<◌, ◌≤◌, Bool, true, false, cond, List, [], ◌∷◌, ◌++◌, length, map, slice_index, refl, sym, ap, ◌∙◌, arith}
use Words.{get_or_append_left, State, ◌⊟◌, is_start_op, Op, lv, t, op_of_mark, Task, Counted, counted, once, over_rows, with_next, counted-none, range_asked}
use Words.{visible_of, Event, Visible, AreLinked, Decoder, limbs_by, limbs_of, word_rest, IsMoment, ranges_by, ranges_of}
use Words.ops
use Words.tuples
use Rattle.air_kit.specs.MainTuples.{limbs_from}
use Rattle.complete_rows.proofs.MomentFacts.{moment_event, moment_limb, moment_op, place_shows}
use Rattle.complete_requests.proofs.Following.{events_ask, map_counts, seen_is, small_is}

abbrev in_range : ℕ → Counted
in_range n = once (n ∷ [])

-- limbs from one on, as a list
limbs_are : (x : List ℕ) (xs : List ℕ) (j : ℕ) → ((i k : ℕ) → i < length xs → k ≡ j + i → t x k ≡ slice_index xs i)
    → limbs_from x j (length xs) ≡ map in_range xs
unfolding limbs_from
limbs_are x [] j cells = refl
limbs_are x (n ∷ xs) j cells =
    let here : t x j ≡ n = cells 0 j (omega arith) (omega arith) in
    let later : limbs_from x (suc j) (length xs) ≡ map in_range xs
    = limbs_are x xs (suc j) (λ i k low at. cells (suc i) k (omega (arith, low)) (omega (arith, at))) in
    rw (here, later) refl

-- an operation has as many limbs as its row shows
pub count_limbs : (op : Op) (x y : Visible) → length (limbs_by op x y) ≡ tuples.count_of_limbs op
count_limbs ops.Noop x y = refl
count_limbs op x y = refl

pub few_limbs : (op : Op) → tuples.count_of_limbs op ≤ 10
few_limbs ops.Noop = omega arith
few_limbs op = omega arith

operation_limbs : (e : Event) (next : Visible) (x : List ℕ) → ((j : ℕ) → j < 10 → t x j ≡ slice_index (limbs_of e next) j)
    → limbs_from x 0 (tuples.count_of_limbs e.op) ≡ map in_range (limbs_by e.op e.before next)
unfolding limbs_of
operation_limbs e next x cells =
    let size = count_limbs e.op e.before next in
    let few = few_limbs e.op in
    ap (λ n. limbs_from x 0 n) (sym size)
    ∙ limbs_are x (limbs_by e.op e.before next) 0 (λ i k low at.
    let same : k ≡ i = omega (arith, at) in
    ap (t x) same ∙ cells i (omega (arith, low, size, few)) ∙ get_or_append_left (limbs_by e.op e.before next) (word_rest e.op e.word) 0 i low)

-- how many more blocks may nest
room_left : (n : ℕ) → n ≤ 1024 → 1024 ⊟ n ≡ 1024 - n
room_left n few = omega (arith, few)

asked_ranges : (b : Bool) (level room : ℕ) (limbs : List Counted) (ns : List ℕ) (v : List ℕ) → level ≡ room → limbs ≡ map in_range ns
    → counted (cond b (once (level ∷ []) ∷ []) limbs) v ≡ counted (map in_range (cond b (room ∷ []) ns)) v
asked_ranges true level room limbs ns v is are = ap (λ n. counted (once (n ∷ []) ∷ []) v) is
asked_ranges false level room limbs ns v is are = ap (λ l. counted l v) are

module _ {constants : List ℕ} {kernel : List (List ℕ)} {limit : ℕ} (v : List ℕ) where
  row_ranges : {x y : List ℕ} (m : IsMoment constants kernel limit x y) → m.t.core.nesting ≤ 1024
      → counted (range_asked x y) v ≡ counted (map in_range (ranges_by (moment_event m) (visible_of m.t.core))) v
  unfolding range_asked
  row_ranges {x = x} {y = y} m few =
      ap (λ o. counted (cond (is_start_op o) (once ((1024 ⊟ lv y) ∷ []) ∷ []) (limbs_from x 0 (tuples.count_of_limbs o))) v) (moment_op m)
      ∙ asked_ranges (is_start_op (op_of_mark m.mark)) (1024 ⊟ lv y) (1024 - m.t.core.nesting) (limbs_from x 0 (tuples.count_of_limbs (op_of_mark m.mark)))
      (limbs_by (op_of_mark m.mark) (visible_of m.s.core) (visible_of m.t.core)) v
      (ap (λ n. 1024 ⊟ n) (place_shows m.next).level ∙ room_left m.t.core.nesting few)
      (operation_limbs (moment_event m) (visible_of m.t.core) x (moment_limb m))

  pub ranges_asked : {u : State} {todo : List Task} {d : Decoder} {s : State} {events : List Event} {rows : List (List ℕ)}
      → AreLinked constants kernel limit u todo d s events rows
      → over_rows (with_next range_asked) rows v ≡ counted (map in_range (ranges_of (visible_of u.core) events)) v
  unfolding ranges_of
  ranges_asked {u = u} linked =
      events_ask range_asked v (λ events. counted (map in_range (ranges_of (visible_of u.core) events)) v) (counted-none v)
      (λ x y rows m later.
      let here = row_ranges m (small_is later).nesting in
      let both = map_counts in_range (ranges_by (moment_event m) (visible_of m.t.core)) (ranges_of (visible_of u.core) m.later) v in
      let seen = ap (λ n. counted (map in_range (ranges_by (moment_event m) n ++ ranges_of (visible_of u.core) m.later)) v) (seen_is later) in
      omega (arith, here, both, seen)) linked
