-- The calls that are open, and the cells that they have set aside: those of their starts.
use Rattle.sound_blocks.proofs.Words.{◌≡◌, ℕ, suc, ◌<◌, Bool, true, false, ◌&&◌, eqb, List, ◌∷◌, length, map, drop, sym, ap, ap₂, ◌∙◌, ◌⊞◌, is_op, is_call_op}
use Rattle.sound_blocks.proofs.Words.{Claim, and_parts, row_returns, row_at, op_in, Closes, FrameFacts, IsBlock, open_at, below_at, op_from}
use Rattle.sound_blocks.proofs.Words.ops
use Rattle.sound_blocks.specs.Keys.{calls_among, open_calls}
use Rattle.sound_blocks.proofs.Operations.{Moves, moves_of}
use Rattle.sound_blocks.proofs.OpenBlocks.{open_at-end, open_at-keep, open_at-start}
use Rattle.sound_blocks.proofs.RowKinds.{Stays, call_flags}

pub calls-call : (rows : List (List ℕ)) (j : ℕ) (js : List ℕ) → is_call_op (op_in rows j) ≡ true
    → calls_among rows (j ∷ js) ≡ j ∷ calls_among rows js
unfolding calls_among
calls-call rows j js is = rw is

pub calls-other : (rows : List (List ℕ)) (j : ℕ) (js : List ℕ) → is_call_op (op_in rows j) ≡ false → calls_among rows (j ∷ js) ≡ calls_among rows js
unfolding calls_among
calls-other rows j js other = rw other

-- the cells of the starts of the calls among these blocks
abbrev pub asides : Claim → List (List ℕ) → List ℕ → List (List ℕ)
asides k rows js = map (below_at k rows) (calls_among rows js)

-- the END of a call is that of a block which a call starts
pub returns_is : (rows : List (List ℕ)) (j e : ℕ) → Closes rows j e → row_returns (row_at rows e) ≡ is_call_op (op_in rows j)
returns_is rows j e closes =
    ap₂ (λ (t : Bool) n. t && eqb n 1) (ap (λ o. is_op o ops.End) closes.ends.is) (ap₂ (λ n m. n ⊞ m) closes.flags.call closes.flags.syscall)
    ∙ call_flags (op_in rows j)

module _ {rows : List (List ℕ)} (frames : FrameFacts rows) where
  -- the call whose END a row is, and the open calls before the row and behind it
  pub called_by : {i : ℕ} → suc i < length rows → row_returns (row_at rows i) ≡ true
      → (j : ℕ) × IsBlock rows j i × (is_call_op (op_in rows j) ≡ true) × (open_at rows (suc i) ≡ open_at rows j)
  called_by {i} within returns =
      let is = op_from {other = ops.End} (and_parts (is_op (op_in rows i) ops.End) _ returns).0 in
      let b = frames.ends i (record { within = within; is = is }) in
      (b.0, b.1, sym (returns_is rows b.0 i b.1.closes) ∙ returns, open_at-end rows i is ∙ ap (drop 1) b.1.newest)

  -- a row that does not call and does not return leaves the open calls
  pub calls_same : {i : ℕ} → suc i < length rows → Stays (row_at rows i) → open_calls rows (suc i) ≡ open_calls rows i
  calls_same {i} within stays = by (moves_of (op_in rows i))
    where
      by : Moves (op_in rows i) → open_calls rows (suc i) ≡ open_calls rows i
      by (Moves.start is) = ap (calls_among rows) (open_at-start rows i is) ∙ calls-other rows i (open_at rows i) stays.0
      by (Moves.keep no_start no_end) = ap (calls_among rows) (open_at-keep rows i no_start no_end)
      by (Moves.end is) =
          let b = frames.ends i (record { within = within; is = is }) in
          ap (calls_among rows) (open_at-end rows i is ∙ ap (drop 1) b.1.newest)
          ∙ sym (ap (calls_among rows) b.1.newest ∙ calls-other rows b.0 (open_at rows b.0) (sym (returns_is rows b.0 i b.1.closes) ∙ stays.1))
