-- Each END is that of one block, which has no other END.
use Rattle.sound_buses.proofs.Words.{◌≡◌, ℕ, suc, ◌<◌, ◌≤◌, ◌==◌, cond, List, [], ◌∷◌, drop, slice_index, refl, sym, ap, subst, ◌∙◌, arith, felt_add, addr, h}
use Rattle.sound_buses.proofs.Words.{is_op, op_of, blocks_asked, blocks_given, frame_cells, is_call_op, kind_of_end, kind_of_start, no_frame, Claim, row_at}
use Rattle.sound_buses.proofs.Words.{ShowsRows, op_in, BlockFacts, Closes, IsAt, ShowsKind, Starts, own, s}
use Rattle.sound_buses.proofs.Words.ops
use Rattle.sound_buses.proofs.BlockKinds.{call_flagged, flags_of_end, kind_shown}
use Rattle.sound_buses.proofs.RowSums.{Balanced, IsInRow, giver, in_rows, row_has, rows_one, rows_same}
use Rattle.sound_buses.proofs.Tuples.{tested_few, tested_is}

-- what a start gives, and what an END asks
abbrev start_tuple : List ℕ → List ℕ → List ℕ
start_tuple x y = addr y ∷ addr x ∷ kind_of_start (op_of x) x ∷ cond (is_call_op (op_of x)) (frame_cells x) no_frame

abbrev end_tuple : List ℕ → List ℕ → List ℕ
end_tuple x y = addr x ∷ addr y ∷ kind_of_end x ∷ cond (felt_add (h x 6) (h x 7) == 1) (frame_cells y) no_frame

module _ (k : Claim) (rows : List (List ℕ)) (shows : ShowsRows k rows) (alike : Balanced blocks_asked blocks_given rows)
    (positive : (j : ℕ) → Starts rows j → 0 < own rows j)
    (one : (i j : ℕ) → Starts rows i → Starts rows j → own rows i ≡ own rows j → i ≡ j) where
  abbrev given_by : ℕ → List ℕ
  given_by j = start_tuple (row_at rows j) (row_at rows (suc j))

  abbrev asked_by : ℕ → List ℕ
  asked_by e = end_tuple (row_at rows e) (row_at rows (suc e))

  asks : {e : ℕ} → IsAt rows e ops.End → IsInRow blocks_asked rows (asked_by e) e
  unfolding blocks_asked
  asks at = row_has [] at.within (rw at.is refl)

  gives : {j : ℕ} {u : List ℕ} → IsInRow blocks_given rows u j → Starts rows j × (given_by j ≡ u)
  unfolding blocks_given
  gives {u = u} at = let b = tested_is _ _ u at.positive in (record { within = at.within; is = b.0 }, b.1)

  -- the start whose tuple an END asks
  partner : (e : ℕ) → IsAt rows e ops.End → (j : ℕ) × Starts rows j × (given_by j ≡ asked_by e)
  partner e at =
      let found : (j : ℕ) × IsInRow blocks_given rows (asked_by e) j = giver alike (asks at) in
      let b = gives found.1 in (found.0, b.0, b.1)

  closes : (e : ℕ) → IsAt rows e ops.End → (j : ℕ) × Closes rows j e
  closes e at = (
    p.0,
    record {
      starts = p.1;
      ends = at;
      own_is = ap (λ xs. slice_index xs 0) p.2;
      parent = sym (ap (λ xs. slice_index xs 1) p.2);
      flags = flags;
      frame = λ is. sym (rw (is, call_flagged (op_in rows p.0) is flags) at (ap (drop 3) p.2));
    },
  )
    where
      p : (j : ℕ) × Starts rows j × (given_by j ≡ asked_by e)
      p = partner e at

      flags : ShowsKind (op_in rows p.0) (s (row_at rows p.0) 0) (row_at rows e)
      flags =
          kind_shown (op_in rows p.0) (row_at rows p.0) (row_at rows e) p.1.is (shows.row_is p.0 (omega (arith, p.1.within))).row.block.condition
          (flags_of_end (row_at rows e)
          ((shows.row_is e (omega (arith, at.within))).row.block.ends (ap (λ op. is_op op ops.End) at.is)) (ap (λ xs. slice_index xs 2) p.2))

  -- what starts give is given once
  given_one : (u : List ℕ) → in_rows blocks_given rows u ≤ 1
  unfolding blocks_given
  given_one u =
      rows_one blocks_given rows u (λ i h. tested_few _ _ u)
      (λ i j here there. one i j (gives here).0 (gives there).0 (ap (λ xs. slice_index xs 0) ((gives here).1 ∙ sym (gives there).1)))

  end_once : (d e : ℕ) → IsAt rows d ops.End → IsAt rows e ops.End → addr (row_at rows d) ≡ addr (row_at rows e) → d ≡ e
  end_once d e here there same =
      let p = partner d here in
      let q = partner e there in
      let own_same = ap (λ xs. slice_index xs 0) p.2 ∙ same ∙ sym (ap (λ xs. slice_index xs 0) q.2) in
      let tuples : asked_by e ≡ asked_by d = sym q.2 ∙ ap given_by (sym (one p.0 q.0 p.1 q.1 own_same)) ∙ p.2 in
      rows_same (omega (arith, alike (asked_by d), given_one (asked_by d))) (asks here) (subst (λ u. IsInRow blocks_asked rows u e) tuples (asks there))

  pub block_facts : BlockFacts rows
  block_facts = record { positive = positive; one = one; block = closes; once = end_once }
