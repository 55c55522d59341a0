-- From cycle to cycle the keys of cells below the sixteenth stay those of inputs and of past pushes, the newest first.
use Rattle.complete_rows.proofs.Words
use Words.{◌≡◌, ◌⊎◌, ℕ, zero, suc, ◌+◌, ◌-◌, ◌<◌, ◌≤◌, ◌^◌, Bool, true, false, cond, List, [], ◌∷◌, ◌++◌, length, drop, slice_index, inl, inr, refl, sym, ap}
use Words.{subst, arith, cases_lt, append-nil, prime, most_cycles, State, start, shift_of, Shift, Left, Stay, Right, Kind, kind_of, Steps, Task, ended, goes}
use Words.{cycle-clock, run-steps, Event, input_key, input_keys, keys_at_start, events_of, Open, Decoder, advance, advance_by, at_start, ends_call, ends_loop}
use Words.{hidden_of, keys_after, event_at}
use Words.kinds
use Words.run
use Rattle.complete_rows.specs.DeepKeys.{AreApart, AreDeepKeys, Fall, HasDeepKeys, IsInputKey, KeepsDeepKeys, RunKeepsDeepKeys, WasPushed, all_keys, came}
use Rattle.complete_rows.specs.DeepKeys.{hidden_keys}

-- ---- when keys came

-- a clock came after the inputs
came_pushed : (n clock : ℕ) → n + clock < prime → came n clock ≡ n + clock
came_pushed n clock low = omega (arith, low)

came_given : (n i : ℕ) → i < n → n < 2 ^ 20 → came n (input_key i) ≡ n - suc i
unfolding input_key
came_given n i some few = omega (arith, some, few)

-- ---- a list

still : (n key : ℕ) (e : Event) (past : List Event) → IsInputKey n key ⊎ WasPushed key past → IsInputKey n key ⊎ WasPushed key (e ∷ past)
still n key e past (inl given) = inl given
still n key e past (inr pushed) = inr (inr pushed)

module _ (n : ℕ) where
  below_more : (past : List Event) (b c : ℕ) (keys : List ℕ) → b ≤ c → AreDeepKeys n past b keys → AreDeepKeys n past c keys
  below_more past b c [] le h = tt
  below_more past b c (key ∷ keys) le h = let low = h.0 in (omega (arith, le, low), h.1, h.2)

  behind_some : (past : List Event) (b : ℕ) (xs ys : List ℕ) → AreDeepKeys n past b (xs ++ ys) → AreDeepKeys n past b ys
  behind_some past b [] ys h = h
  behind_some past b (x ∷ xs) ys h =
      let low = h.0 in below_more past (came n x) b ys (omega (arith, low)) (behind_some past (came n x) xs ys h.2)

  without_first : (past : List Event) (b : ℕ) (xs ys : List ℕ) → AreDeepKeys n past b (xs ++ ys) → AreDeepKeys n past b (drop 1 xs ++ ys)
  without_first past b [] ys h = h
  without_first past b (x ∷ xs) ys h = let low = h.0 in below_more past (came n x) b (xs ++ ys) (omega (arith, low)) h.2

  without_middle : (past : List Event) (b : ℕ) (xs hs ys : List ℕ) → AreDeepKeys n past b (xs ++ (hs ++ ys)) → AreDeepKeys n past b (xs ++ ys)
  without_middle past b [] hs ys h = behind_some past b hs ys h
  without_middle past b (x ∷ xs) hs ys h = (h.0, h.1, without_middle past (came n x) xs hs ys h.2)

  one_more : (e : Event) (past : List Event) (b : ℕ) (keys : List ℕ) → AreDeepKeys n past b keys → AreDeepKeys n (e ∷ past) b keys
  one_more e past b [] h = tt
  one_more e past b (key ∷ keys) h = (h.0, still n key e past h.1, one_more e past (came n key) keys h.2)

  -- the keys before an event, seen from behind it
  seen_behind : (e : Event) (past : List Event) (keys : List ℕ) → AreDeepKeys n past (n + length past) keys
      → AreDeepKeys n (e ∷ past) (n + suc (length past)) keys
  seen_behind e past keys h =
      one_more e past (n + suc (length past)) keys (below_more past (n + length past) (n + suc (length past)) keys (omega arith) h)

  after_shift : (s : Shift) (e : Event) (past : List Event) (keys others : List ℕ) → shift_of e.op ≡ s → e.before.clock ≡ length past
      → n + length past < prime → AreDeepKeys n past (n + length past) (keys ++ others)
      → AreDeepKeys n (e ∷ past) (n + suc (length past)) (keys_after s e.before.clock keys ++ others)
  after_shift Left e past keys others is clock low h =
      seen_behind e past (drop 1 keys ++ others) (without_first past (n + length past) keys others h)
  after_shift Stay e past keys others is clock low h = seen_behind e past (keys ++ others) h
  after_shift Right e past keys others is clock low h =
      let new : came n e.before.clock ≡ n + e.before.clock = came_pushed n e.before.clock (omega (arith, clock, low)) in (
        omega (arith, new, clock),
        inr (inl (refl, is)),
        one_more e past (came n e.before.clock) (keys ++ others)
            (below_more past (n + length past) (came n e.before.clock) (keys ++ others) (omega (arith, new, clock)) h),
      )

  after_end : (loops calls : Bool) (past : List Event) (b : ℕ) (keys : List ℕ) (blocks : List Open)
      → AreDeepKeys n past b (keys ++ hidden_keys blocks)
      → AreDeepKeys n past b (cond loops (drop 1 keys) (cond calls (hidden_of blocks) keys) ++ hidden_keys (drop 1 blocks))
  after_end true calls past b keys [] h = without_first past b keys [] h
  after_end true calls past b keys (block ∷ blocks) h =
      without_middle past b (drop 1 keys) block.hidden (hidden_keys blocks)
      (without_first past b keys (block.hidden ++ hidden_keys blocks) h)
  after_end false true past b keys [] h = tt
  after_end false true past b keys (block ∷ blocks) h = behind_some past b keys (block.hidden ++ hidden_keys blocks) h
  after_end false false past b keys [] h = h
  after_end false false past b keys (block ∷ blocks) h = without_middle past b keys block.hidden (hidden_keys blocks) h

  by_kind : (k : Kind) (d : Decoder) (e : Event) (later past : List Event) → e.before.clock ≡ length past → n + length past < prime
      → AreDeepKeys n past (n + length past) (all_keys d)
      → AreDeepKeys n (e ∷ past) (n + suc (length past)) (all_keys (advance_by k d e later))
  by_kind kinds.Ordinary d e later past clock low h = after_shift (shift_of e.op) e past d.keys (hidden_keys d.blocks) refl clock low h
  by_kind kinds.Split d e later past clock low h =
      seen_behind e past (drop 1 d.keys ++ hidden_keys d.blocks) (without_first past (n + length past) d.keys (hidden_keys d.blocks) h)
  by_kind kinds.Loop d e later past clock low h =
      seen_behind e past (drop 1 d.keys ++ hidden_keys d.blocks) (without_first past (n + length past) d.keys (hidden_keys d.blocks) h)
  by_kind kinds.End d e later past clock low h =
      seen_behind e past _ (after_end (ends_loop e.hash) (ends_call e.hash) past (n + length past) d.keys d.blocks h)
  by_kind kinds.Repeat d e later past clock low h =
      seen_behind e past (drop 1 d.keys ++ hidden_keys d.blocks) (without_first past (n + length past) d.keys (hidden_keys d.blocks) h)
  by_kind kind d e later past clock low h = seen_behind e past (all_keys d) h

  below_bound : (past : List Event) (b : ℕ) (keys : List ℕ) (j : ℕ) → AreDeepKeys n past b keys → j < length keys
      → came n (slice_index keys j) < b
  below_bound past b [] j h within = absurd (omega (arith, within))
  below_bound past b (key ∷ keys) zero h within = h.0
  below_bound past b (key ∷ keys) (suc j) h within =
      let behind = below_bound past (came n key) keys j h.2 (omega (arith, within)) in let low = h.0 in omega (arith, behind, low)

  fall : (past : List Event) (b : ℕ) (keys : List ℕ) → AreDeepKeys n past b keys → Fall n keys
  fall past b [] h i j before within = absurd (omega (arith, within))
  fall past b (key ∷ keys) h zero (suc j) before within = below_bound past (came n key) keys j h.2 (omega (arith, within))
  fall past b (key ∷ keys) h (suc i) (suc j) before within =
      fall past (came n key) keys h.2 i j (omega (arith, before)) (omega (arith, within))
  fall past b (key ∷ keys) h i zero before within = absurd (omega (arith, before))

  -- the same key did not come at two times
  apart : (keys : List ℕ) → Fall n keys → AreApart keys
  apart keys falls i j here there same = go (cases_lt i j) (cases_lt j i)
    where
      when : came n (slice_index keys i) ≡ came n (slice_index keys j)
      when = ap (came n) same

      go : (i < j) ⊎ (j ≤ i) → (j < i) ⊎ (i ≤ j) → i ≡ j
      go (inl before) other = let less = falls i j before there in absurd (omega (arith, less, when))
      go (inr late) (inl behind) = let less = falls j i behind here in absurd (omega (arith, less, when))
      go (inr late) (inr early) = omega (arith, late, early)

  has_keys : (d : Decoder) (past : List Event) → AreDeepKeys n past (n + length past) (all_keys d) → HasDeepKeys n d past
  has_keys d past h =
      let falls = fall past (n + length past) (all_keys d) h in
      record { pushed = h; fall = falls; apart = apart (all_keys d) falls }

  -- ---- at the start

  given : n < 2 ^ 20 → (i m : ℕ) → i + m ≤ n → AreDeepKeys n [] (n - i) (input_keys i m)
  unfolding input_keys
  given few i zero within = tt
  given few i (suc m) within =
      let new : came n (input_key i) ≡ n - suc i = came_given n i (omega (arith, within)) few in (
        omega (arith, new, within),
        inl (i, omega (arith, within), refl),
        subst (λ b. AreDeepKeys n [] b (input_keys (suc i) m)) (sym new) (given few (suc i) m (omega (arith, within))),
      )

module _ (constants : List ℕ) (kernel : List (List ℕ)) (limit : ℕ) (within : limit ≤ most_cycles) (n : ℕ) (some : n < 2 ^ 20) where
  keys_along : {todo : List Task} {s u : State} {log : List run.Event} → Steps constants kernel limit todo s log u
      → (d : Decoder) (past : List Event) → s.core.clock ≡ length past → AreDeepKeys n past (n + length past) (all_keys d)
      → KeepsDeepKeys n d past (events_of constants kernel log)
  keys_along ended d past clock h = has_keys n d past h
  keys_along (goes {mark = mark} {s = s} {t = t} {events = log} first cycle later) d past clock h =
      let e : Event = event_at constants kernel mark s in
      let ticks : t.core.clock ≡ s.core.clock + 1 = cycle-clock constants kernel limit mark s t cycle in
      let early : s.core.clock < limit = cycle.before in
      let after = advance d e (events_of constants kernel log) in (
        has_keys n d past h,
        keys_along later after (e ∷ past) (omega (arith, ticks, clock))
            (by_kind n (kind_of e.op) d e (events_of constants kernel log) past clock (omega (arith, early, within, some, clock)) h),
      )

pub run_keeps_keys : RunKeepsDeepKeys
unfolding start
run_keeps_keys constants kernel limit tree inputs tape u log r =
    let n : ℕ = length inputs - 16 in
    let few : n < 2 ^ 20 = let most = r.few in omega (arith, most) in
    keys_along constants kernel limit r.within n few
    (run-steps constants kernel limit tree (start inputs tape) u log r.whole r.done) (at_start n) [] (omega arith)
    (subst (AreDeepKeys n [] (n + 0)) (sym (append-nil (keys_at_start n)))
    (below_more n [] (n - 0) (n + 0) (keys_at_start n) (omega arith) (given n few 0 n (omega arith))))
