-- The numbers that the rows of a run look up on the range bus have 16 bits.
use Rattle.complete_rows.proofs.Words
use Words.{All, Bool, true, false, is_ordinary_op, is_start_op, op_of_mark, ◌≡◌, ℕ, ◌+◌, ◌-◌, ◌^◌, ◌<◌, ◌≤◌, cond, List, [], ◌∷◌, length, map, refl, sym, ◌∙◌}
use Words.{subst, arith, get_or_append_left, All-append, All-cons, All-head, All-nil, All-tail, most_cycles, most_inputs, number_of_constants, State}
use Words.{IsWellFormed, start, length-filled_up, start-IsWellFormed, Item, Op, t, Mark, Do, advice_taken, event_of, IsWholeMark, Block, Task, IsCycle, Steps}
use Words.{ended, goes, Tree, steps-shallow, cycle-kept, run-steps, shown, visible_of, Event, Visible, IsWholeRun, events_of, Decoder, advance, halted, line_of}
use Words.{row_of, seen_behind, nothing_unread, limbs_by, limbs_of, word_rest, event_at, ranges_by, ranges_of}
use Words.ops
use Words.run
use Words.tuples
use Rattle.std.proofs.Common.{replicate}
use Rattle.std.proofs.lemmas.List.{length-replicate, nil_from_length}
use Rattle.std.proofs.lemmas.List.Elements.{All-from_get_or}
use Rattle.block_tree.proofs.TaskLemmas.{AreWholeTasks, next-whole, whole-append}
use Rattle.complete_rows.proofs.BlockLemmas.{no_block}
use Rattle.complete_rows.proofs.ColumnLemmas.{col_t}
use Rattle.complete_rows.proofs.MomentLemmas.{behind_is}
use Rattle.complete_rows.proofs.ShowLemmas.{shows_row}
use Rattle.complete_trace.proofs.Fillings.{do_fills}
use Rattle.complete_requests.proofs.RangeLaw.{count_limbs, few_limbs}
use Rattle.complete_trace.proofs.QuietOps.{limbs_none}

abbrev Is16 : ℕ → Type 0
Is16 v = v < 2 ^ 16

-- there is room for the cells below the sixteenth
some_keys : ℕ → Decoder
some_keys n = record { blocks = []; next = 0; ha = 0; unread = nothing_unread; keys = replicate n 0 }

keys_count : (n : ℕ) → length (some_keys n).keys ≡ n
unfolding some_keys
keys_count n = length-replicate n 0

enough_keys : (n : ℕ) → 16 ≤ n → length (some_keys (n - 16)).keys + 16 ≡ n
enough_keys n deep = let count = keys_count (n - 16) in omega (arith, count, deep)

-- a block asks for the levels that are left, or for nothing
block_ranges : (op : Op) → is_ordinary_op op ≡ false → (n : ℕ) (x y : Visible) → All Is16 (cond (is_start_op op) ((1024 - n) ∷ []) (limbs_by op x y))
block_ranges op is n x y = go (is_start_op op)
  where
    go : (b : Bool) → All Is16 (cond b ((1024 - n) ∷ []) (limbs_by op x y))
    go true = All-cons Is16 (1024 - n) [] (omega arith) (All-nil Is16)
    go false = subst (All Is16) (sym (nil_from_length (limbs_by op x y) (count_limbs op x y ∙ limbs_none op is))) (All-nil Is16)

module _ (constants : List ℕ) (kernel : List (List ℕ)) (limit : ℕ) (len : length constants ≡ number_of_constants) (within : limit ≤ most_cycles) where
  -- the limbs of an operation, whatever the decoder shows
  limbs_low : {item : Item} {from to : State} → IsCycle constants kernel limit (Do item) from to
      → IsWholeMark (Do item) → IsWellFormed from → IsWellFormed to → length from.core.stack ≤ most_inputs + from.core.clock
      → All Is16 (limbs_by item.op (visible_of from.core) (visible_of to.core))
  unfolding limbs_of
  limbs_low {item = item} {from = from} {to = to} cycle w h g few =
      let e : Event = event_at constants kernel (Do item) from in
      let v : Visible = visible_of to.core in
      let d : Decoder = some_keys (length from.core.stack - 16) in
      let y : List ℕ = row_of (advance d e []) (halted v) v [] in
      let early : from.core.clock < limit = cycle.before in
      let deep = h.core.deep in
      let f = do_fills cycle d [] y ops.Halt len w h g (omega (arith, early, within))
      (omega (arith, early, within, few)) (enough_keys (length from.core.stack) deep) (shows_row (advance d e []) (halted v) v [] to.core refl) in
      let most = few_limbs item.op in
      All-from_get_or Is16 (limbs_by item.op e.before v) 0 (λ j low.
      (let size : length (limbs_by item.op e.before v) ≡ tuples.count_of_limbs item.op = count_limbs item.op e.before v in
      let few_j : j < tuples.count_of_limbs item.op = omega (arith, low, size) in
      subst Is16 (col_t (line_of d e v []) j (omega (arith, few_j, most))
      ∙ get_or_append_left (limbs_by item.op e.before v) (word_rest item.op e.word) 0 j low)
      (f.looks.ranges j few_j)))

  -- what a cycle asks for
  ranges_low : (mark : Mark) {from to : State} → IsCycle constants kernel limit mark from to
      → IsWholeMark mark → IsWellFormed from → IsWellFormed to → length from.core.stack ≤ most_inputs + from.core.clock
      → All Is16 (ranges_by (event_at constants kernel mark from) (visible_of to.core))
  ranges_low (Do item) {from = from} {to = to} cycle w h g few =
      subst (λ b. All Is16 (cond b ((1024 - to.core.nesting) ∷ []) (limbs_by item.op (visible_of from.core) (visible_of to.core))))
      (sym (no_block item.op w.ordinary).start) (limbs_low cycle w h g few)
  ranges_low mark {from = from} {to = to} cycle w h g few =
      block_ranges (op_of_mark mark) refl to.core.nesting (visible_of from.core) (visible_of to.core)

  -- ---- along a run

  along : {todo : List Task} {s u : State} {log : List run.Event} → Steps constants kernel limit todo s log u
      → AreWholeTasks todo → IsWellFormed s → All (λ e. length e.core.stack ≤ most_inputs + e.core.clock) log
      → All Is16 (ranges_of (visible_of u.core) (map (shown constants kernel) log))
  unfolding ranges_of
  along ended w h shallow = All-nil Is16
  along (goes {rest = rest} {todo = todo} {mark = mark} {s = s} {t = t} {u = u} {events = log} first cycle later) w h shallow =
      let n = next-whole constants len first w.0 h.core in
      let kept = cycle-kept constants kernel limit mark s t len cycle n.0 h in
      let few = All-head (λ e. length e.core.stack ≤ most_inputs + e.core.clock) (event_of mark (advice_taken mark) s) log shallow in
      let e : Event = event_at constants kernel mark s in
      All-append Is16 (ranges_by e (seen_behind (visible_of u.core) (map (shown constants kernel) log)))
      (ranges_of (visible_of u.core) (map (shown constants kernel) log))
      (subst (λ v. All Is16 (ranges_by e v)) (sym (behind_is later)) (ranges_low mark cycle n.0 h kept few))
      (along later (whole-append rest todo n.1 w.1) kept
      (All-tail (λ e. length e.core.stack ≤ most_inputs + e.core.clock) (event_of mark (advice_taken mark) s) log shallow))

module _ (constants : List ℕ) (kernel : List (List ℕ)) (limit : ℕ) where
  pub ranges_are_low : (tree : Tree) (inputs tape : List ℕ) (u : State) (log : List run.Event) → IsWholeRun constants kernel limit tree inputs tape u log
      → All Is16 (ranges_of (visible_of u.core) (events_of constants kernel log))
  unfolding start
  ranges_are_low tree inputs tape u log r =
      let steps : Steps constants kernel limit (Block tree ∷ []) (start inputs tape) log u
      = run-steps constants kernel limit tree (start inputs tape) u log r.whole r.done in
      let formed : IsWellFormed (start inputs tape) = start-IsWellFormed inputs tape r.inputs_are r.tape_is in
      let shallow = steps-shallow constants kernel limit r.constants_are 0 most_inputs steps
      (let few = r.few in omega (arith, few, length-filled_up inputs), (r.whole, tt), formed) in
      along constants kernel limit r.constants_are r.within steps (r.whole, tt) formed (λ k d low. (let few = shallow.0 k d low in omega (arith, few)))
