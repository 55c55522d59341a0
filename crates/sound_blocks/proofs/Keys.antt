-- The law of keys: no two cells that there are at once have one.
use Rattle.sound_blocks.proofs.Words.{◌≡◌, ◌⊎◌, inl, inr, ℕ, zero, suc, ◌<◌, ◌≤◌, true, List, [], ◌∷◌, length, slice_index, slice_index_or, refl, sym, ap}
use Rattle.sound_blocks.proofs.Words.{subst, ◌∙◌, arith, cases_Bool, cases_lt, key, s, is_right, is_call_op, Claim, claim_of, row_at, op_in, input, pushed}
use Rattle.sound_blocks.proofs.Words.{Chain, rank_of, open_at}
use Rattle.std.specs.List.{All, AllPairs}
use Rattle.std.proofs.lemmas.List.Elements.{All-cons, All-drop, All-head, All-nil, All-tail}
use Rattle.std.proofs.lemmas.List.Kept.{AllPairs-cons}
use Rattle.sound_blocks.specs.Keys.{AreApart, GrantedKeys, IsAlong, IsPast, behind, calls_among, clock, here, number, open_calls}
use Rattle.sound_blocks.proofs.Operations.{Moves, moves_of}
use Rattle.sound_blocks.proofs.OpenBlocks.{open_at-end, open_at-keep, open_at-start}
use Rattle.sound_blocks.proofs.Asides.{called_by, calls-call, calls-other, calls_same}
use Rattle.sound_blocks.proofs.Chains.{Entry, KeysDiffer, front_of, no_entry, same_entry}
use Rattle.sound_blocks.proofs.Holds.{Known, differ_of, holds, pushed_key, pushes_later}
use Rattle.sound_blocks.proofs.OverflowLaw.{known_of}
use Rattle.sound_blocks.proofs.Returns.{aside_is, movement_at}
use Rattle.sound_blocks.proofs.RowKinds.{Movement, Stays, calls, call_starts, deeper, keeps, returns, right}

-- ---- pairs of a list

module _ (R : ℕ → ℕ → Type 0) (x : ℕ) where
  pairs_head : (xs : List ℕ) → AllPairs R (x ∷ xs) → All (R x) xs
  pairs_head xs all j d h = all 0 (suc j) d (omega arith) (omega (arith, h))

  pairs_tail : (xs : List ℕ) → AllPairs R (x ∷ xs) → AllPairs R xs
  pairs_tail xs all i j d less h = all (suc i) (suc j) d (omega (arith, less)) (omega (arith, h))

  pairs_none : AllPairs R (x ∷ [])
  pairs_none i j d less h = absurd (omega (arith, less, h))

module _ (rows : List (List ℕ)) where
  -- ---- open blocks are those of rows before

  open_earlier : (i : ℕ) → All (λ j. j < i) (open_at rows i)
  unfolding open_at
  open_earlier zero = All-nil (λ j. j < 0)
  open_earlier (suc i) = by (λ n d h. let less = open_earlier i n d h in omega (arith, less)) (moves_of (op_in rows i))
    where
      by : All (λ j. j < suc i) (open_at rows i) → Moves (op_in rows i) → All (λ j. j < suc i) (open_at rows (suc i))
      by all (Moves.start is) = subst (All (λ j. j < suc i)) (sym (open_at-start rows i is)) (All-cons (λ j. j < suc i) i (open_at rows i) (omega arith) all)
      by all (Moves.end is) = subst (All (λ j. j < suc i)) (sym (open_at-end rows i is)) (All-drop (λ j. j < suc i) 1 (open_at rows i) all)
      by all (Moves.keep no_start no_end) = subst (All (λ j. j < suc i)) (sym (open_at-keep rows i no_start no_end)) all

  among : (P : ℕ → Type 0) (js : List ℕ) → All P js → All P (calls_among rows js)
  unfolding calls_among
  among P [] all = all
  among P (j ∷ js) all = elim (cases_Bool (is_call_op (op_in rows j))) [
    | inl is ↦
        subst (All P) (sym (calls-call rows j js is)) (All-cons P j (calls_among rows js) (All-head P j js all) (among P js (All-tail P j js all)))
    | inr other ↦ subst (All P) (sym (calls-other rows j js other)) (among P js (All-tail P j js all))
  ]

-- ---- along a chain

-- a key along a chain has a chain, and no greater rank
record SubChain (k : Claim) (rows : List (List ℕ)) (at front : ℕ) : Type 0 where
  cells : List ℕ
  chain : Chain k rows at cells
  most : rank_of k at ≤ rank_of k front

entry_along : {k : Claim} {rows : List (List ℕ)} {at front : ℕ} → IsAlong k rows at front → (cell : ℕ) × (below : ℕ) × Entry k rows at cell below
entry_along (here cell below entry) = (cell, below, entry)
entry_along (behind _ cell below entry rest) = entry_along rest

module _ {k : Claim} {rows : List (List ℕ)} (differ : KeysDiffer k rows) where
  nothing_along : {A : Type 0} {at front : ℕ} → front ≡ 0 → IsAlong k rows at front → A
  nothing_along e (here cell below entry) = no_entry differ (subst (λ n. Entry k rows n cell below) e entry)
  nothing_along e (behind _ cell below entry rest) = no_entry differ (subst (λ n. Entry k rows n cell below) e entry)

  -- the key in front, or one behind it
  front_or : {at front cell below : ℕ} → Entry k rows front cell below → IsAlong k rows at front → (at ≡ front) ⊎ IsAlong k rows at below
  front_or entry (here other under also) = inl refl
  front_or {at = at} entry (behind _ other under also rest) = inr (subst (IsAlong k rows at) (same_entry differ also entry).1 rest)

  sub_chain : {at front : ℕ} {cells : List ℕ} → Chain k rows front cells → IsAlong k rows at front → SubChain k rows at front
  sub_chain chain (here cell below entry) = record { cells = _; chain = chain; most = omega arith }
  sub_chain chain (behind _ cell below entry rest) =
      let f = front_of differ chain entry in
      let sub = sub_chain f.chain rest in record { cells = sub.cells; chain = sub.chain; most = omega (arith, sub.most, f.falls) }

-- ---- the rows

module _ {k : Claim} {rows left_rows : List (List ℕ)} (known : Known k rows left_rows) where
  -- a key of a row has a chain
  chain_at : {i at : ℕ} → i < length rows → IsAlong k rows at (key (row_at rows i)) → SubChain k rows at (key (row_at rows i))
  chain_at {i} h along = sub_chain (differ_of known (omega (arith, h))) (holds known i h).chain along

  -- and is not the clock of this row or a later one
  no_later : {A : Type 0} {i at : ℕ} → i < length rows → IsAlong k rows at (key (row_at rows i)) → i ≤ at → 0 < at → at < length rows → A
  no_later {i = i} {at = at} h along from more within = absurd (omega (arith, (chain_at h along).most, (holds known i h).early at from more within))

  past_at : (i at : ℕ) → i < length rows → IsAlong k rows at (key (row_at rows i)) → IsPast k rows i at
  past_at i at h along = go (entry_along along).2
    where
      go : {cell below : ℕ} → Entry k rows at cell below → IsPast k rows i at
      go (pushed p) = elim (cases_lt at i) [
        | inl less ↦ clock less p.right
        | inr from ↦ no_later h along from (pushes_later known at p.within p.right) (omega (arith, p.within))
      ]
      go (input q) = number q.number q.within q.key_is

  once_at : (i at cell below : ℕ) → i < length rows → IsAlong k rows at (key (row_at rows i)) → Entry k rows at cell below
      → IsAlong k rows at below → ⊥
  once_at i at cell below h along entry again =
      let differ = differ_of known (omega (arith, h)) in
      let f = front_of differ (chain_at h along).chain entry in omega (arith, (sub_chain differ f.chain again).most, f.falls)

  -- ---- what stands at once

  abbrev Apart : ℕ → Type 0
  Apart i = AllPairs (AreApart k rows) (i ∷ open_calls rows i)

  -- where the open calls stay, it is enough that what is along the next row's key is apart from them
  same_calls : {i : ℕ} → suc i < length rows → Stays (row_at rows i) → Apart i
      → ((j : ℕ) → j < i → AreApart k rows i j → AreApart k rows (suc i) j) → Apart (suc i)
  same_calls {i} within stays all next =
      subst (λ js. AllPairs (AreApart k rows) (suc i ∷ js)) (sym (calls_same known.frames within stays))
      (AllPairs-cons (AreApart k rows) (suc i) (open_calls rows i) (λ n d h. next (slice_index_or (open_calls rows i) n d)
      (among rows (λ j. j < i) (open_at rows i) (open_earlier rows i) n d h)
      (pairs_head (AreApart k rows) i (open_calls rows i) all n d h)) (pairs_tail (AreApart k rows) i (open_calls rows i) all))

  -- the key of a cell that is pushed is later than each other
  push_apart : {i : ℕ} → suc i < length rows → is_right (op_in rows i) ≡ true → (j : ℕ) → j < i → AreApart k rows i j → AreApart k rows (suc i) j
  push_apart {i} within r j earlier apart at along other =
      let is = pushed_key known within r in
      let entry = pushed (record { within = within; right = r; cell_is = refl; below_is = refl }) in
      elim (front_or (differ_of known (omega (arith, within)))
      (subst (λ n. Entry k rows n (s (row_at rows i) 15) (key (row_at rows i))) (sym is) entry) along) [
        | inl e ↦
            no_later (omega (arith, earlier, within)) other (omega (arith, e, is, earlier)) (omega (arith, e, is, pushes_later known i within r))
            (omega (arith, e, is, within))
        | inr rest ↦ apart at rest other
      ]

  step : {i : ℕ} → suc i < length rows → Apart i → Movement (row_at rows i) (row_at rows (suc i)) → Apart (suc i)
  step within all (right r stays back d e) = same_calls within stays all (push_apart within r)
  step within all (keeps stays back d e) =
      same_calls within stays all (λ j earlier apart at along. apart at (subst (IsAlong k rows at) e along))
  step {i} within all (deeper l a stays back d) =
      same_calls within stays all (λ j earlier apart at along.
      apart at (behind (key (row_at rows i)) (s (row_at rows (suc i)) 15) (key (row_at rows (suc i))) (known.overflow.brought i within l a) along))
  step {i} within all (calls c back d e) =
      subst (λ js. AllPairs (AreApart k rows) (suc i ∷ js))
      (sym (ap (calls_among rows) (open_at-start rows i (call_starts (op_in rows i) c).0) ∙ calls-call rows i (open_at rows i) c))
      (AllPairs-cons (AreApart k rows) (suc i) (i ∷ open_calls rows i)
      (λ n d h at along. nothing_along (differ_of known (omega (arith, within))) e along) all)
  step {i} within all (returns t) =
      let b = called_by known.frames within t in
      let called = ap (calls_among rows) b.1.newest ∙ calls-call rows b.0 (open_at rows b.0) b.2 in
      let inside = subst (AllPairs (AreApart k rows)) called (pairs_tail (AreApart k rows) i (open_calls rows i) all) in
      let key_back = ap (λ xs. slice_index xs 4) (b.1.closes.frame b.2) in
      subst (λ js. AllPairs (AreApart k rows) (suc i ∷ js)) (sym (ap (calls_among rows) b.3))
      (AllPairs-cons (AreApart k rows) (suc i) (open_calls rows b.0)
      (λ n d h at along. pairs_head (AreApart k rows) b.0 (open_calls rows b.0) inside n d h at (subst (IsAlong k rows at) key_back along))
      (pairs_tail (AreApart k rows) b.0 (open_calls rows b.0) inside))

  apart_at : (i : ℕ) → i < length rows → Apart i
  unfolding open_at calls_among
  apart_at zero h = pairs_none (AreApart k rows) 0
  apart_at (suc i) h = step h (apart_at i (omega (arith, h))) (movement_at known.shows i h)

pub key_law : GrantedKeys
key_law p t granted frames = record {
  aside = aside_is (claim_of p t) t.main granted.rows frames;
  past = past_at known;
  once = once_at known;
  apart = apart_at known;
}
  where
    known : Known (claim_of p t) t.main t.left
    known = known_of p t granted frames
