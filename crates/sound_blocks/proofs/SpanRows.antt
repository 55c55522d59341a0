-- The batches of a span, one behind the other, and its END.
use Rattle.sound_blocks.proofs.Words.{◌≡◌, inl, inr, lit<, ℕ, zero, suc, ◌+◌, ◌%◌, ◌≤◌, List, [], ◌∷◌, length, sym, ap, ◌∙◌, arith, or_cases, ◌⊞◌, addr, h, ha}
use Rattle.sound_blocks.proofs.Words.{is_op, eight, front, hash_end, is_batch_op, Claim, GivesOn, keeps_block, row_at, ShowsRows, Begins, GroupFacts, batch_at}
use Rattle.sound_blocks.proofs.Words.{BlockFacts, IsAt, HashFacts, hasher_gives, AreBatches, last, op_from}
use Rattle.sound_blocks.proofs.Words.ops
use Rattle.sound_blocks.specs.Spans.{more}
use Rattle.sound_blocks.proofs.Addresses.{address_of_block, last_row, next_block}
use Rattle.sound_blocks.proofs.BatchReads.{HasBatch, has_batch}
use Rattle.sound_blocks.proofs.SpanHashes.{gives_at, gives_digest, gives_block}

-- what is known of the tables
pub record Known (constants : List ℕ) (hasher rows : List (List ℕ)) : Type 0 where
  pub claim : Claim
  pub shows : ShowsRows claim rows
  pub groups : GroupFacts rows
  pub blocks : BlockFacts rows
  pub hashes : HashFacts constants rows hasher

-- The rows from row i, which begins a batch, to the END of its span; if that END is one of a span, what is hashed.
pub record HasBatches (hasher rows : List (List ℕ)) (i : ℕ) : Type 0 where
  pub end : ℕ
  pub later : List (List ℕ)
  pub are : AreBatches rows i end (eight (row_at rows i) ∷ later)
  pub ends : IsAt rows end ops.End
  pub inside : addr (row_at rows end) ≡ addr (row_at rows (suc i))
  pub given : h (row_at rows end) 5 ≡ 1 → GivesOn (hasher_gives hasher) (batch_at rows i) later (front (row_at rows end))

module _ {constants : List ℕ} {hasher rows : List (List ℕ)} (known : Known constants hasher rows) where
  respan_address : {r : ℕ} → IsAt rows r ops.Respan → batch_at rows r ≡ ha (row_at rows r) ⊞ 8
  respan_address {r} at = (known.shows.pair_is r at.within).pair.batch.later (ap (λ o. is_op o ops.Respan) at.is)

  respan_block : {r : ℕ} → IsAt rows r ops.Respan → batch_at rows r % 8 ≡ 1
  respan_block {r} at =
      ap (λ n. n % 8) (respan_address at)
      ∙ address_of_block hasher 2 (ha (row_at rows r) ⊞ 8) (eight (row_at rows r)) (lit< tt) (known.hashes.goes_on r at)

  module _ {i : ℕ} (begins : Begins rows i) (address : batch_at rows i % 8 ≡ 1) (b : HasBatch rows i) where
    -- the last batch
    last_batch : IsAt rows b.end ops.End → HasBatches hasher rows i
    last_batch at = record {
      end = b.end;
      later = [];
      are = last i b.end b.is at;
      ends = at;
      inside = b.is.inside;
      given = λ flag. gives_digest hasher (batch_at rows i) (front (row_at rows b.end)) (end flag) (known.hashes.ends b.end at);
    }
      where
        end : h (row_at rows b.end) 5 ≡ 1 → hash_end (row_at rows b.end) ≡ batch_at rows i + 7
        end flag =
            rw flag (ap (λ n. n ⊞ 7) b.is.hashed ∙ last_row (batch_at rows i) ((known.shows.row_is (suc i) begins.within).reads.low 49) address)

    -- a batch with another one behind it
    more_batches : IsAt rows b.end ops.Respan → HasBatches hasher rows b.end → HasBatches hasher rows i
    more_batches at l = record {
      end = l.end;
      later = eight (row_at rows b.end) ∷ l.later;
      are = more i b.end l.end (eight (row_at rows b.end) ∷ l.later) b.is at l.are;
      ends = l.ends;
      inside = l.inside ∙ (known.shows.pair_is b.end at.within).pair.block.block (ap keeps_block at.is) ∙ b.is.inside;
      given = λ flag. gives_block hasher (batch_at rows i) (batch_at rows b.end) (eight (row_at rows b.end)) l.later (front (row_at rows l.end)) next
          (gives_at hasher 2 (eight (row_at rows b.end)) (sym (respan_address at)) (known.hashes.goes_on b.end at)) (l.given flag);
    }
      where
        from : batch_at rows b.end ≡ batch_at rows i ⊞ 8
        from = respan_address at ∙ ap (λ n. n ⊞ 8) b.is.hashed

        next : batch_at rows b.end ≡ batch_at rows i + 8
        next =
            from ∙ next_block (batch_at rows i) ((known.shows.row_is (suc i) begins.within).reads.low 49) address
            (ap (λ n. n % 8) (sym from) ∙ respan_block at)

  pub batches : (n i : ℕ) → length rows ≤ n + i → Begins rows i → batch_at rows i % 8 ≡ 1 → HasBatches hasher rows i
  batches zero i few begins address = absurd (omega (arith, few, begins.within))
  batches (suc n) i few begins address =
      let b = has_batch known.claim rows known.shows known.groups i begins in
      elim (or_cases _ _ b.stops) [
        | inl is ↦ last_batch begins address b (record { within = b.within; is = op_from is })
        | inr is ↦ let at : IsAt rows b.end ops.Respan = record { within = b.within; is = op_from is } in
            more_batches begins address b at
            (batches n b.end (omega (arith, few, b.behind)) (record { within = at.within; is = ap is_batch_op at.is }) (respan_block at))
      ]
