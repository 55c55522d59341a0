-- The law of spans.
use Rattle.sound_blocks.proofs.Words.{◌≡◌, ℕ, ◌%◌, cond, List, ◌∷◌, length, ap, subst, ◌∙◌, arith, is_start_op, h, is_op, domain_of, eight, front, is_batch_op}
use Rattle.sound_blocks.proofs.Words.{claim_of, GivesOn, hasher_gives, row_at, batch_at, IsAt, Starts, Closes, own, AreBatches, IsHashedAt, GrantedSpans}
use Rattle.sound_blocks.proofs.Words.ops
use Rattle.rpo_hash.specs.Constants.{constants_of}
use Rattle.block_tree.specs.Trees.{input_of_batches}
use Rattle.sound_blocks.proofs.SpanRows.{Known, HasBatches, batches}
use Rattle.sound_blocks.proofs.SpanHashes.{address_is, hashed_at, block_hashed}

span_at : {constants : List ℕ} {hasher rows : List (List ℕ)} → Known constants hasher rows → (j : ℕ) → IsAt rows j ops.Span
    → (e : ℕ) × (batches : List (List ℕ)) × AreBatches rows j e batches × Closes rows j e
    × IsHashedAt constants hasher rows j e (input_of_batches batches)
span_at {hasher = hasher} {rows = rows} known j at = (
  b.end,
  eight (row_at rows j) ∷ b.later,
  b.are,
  closes,
  hashed_at known.hashes b.end starts 0 (ap domain_of at.is) b.later
      (subst (λ (n : ℕ). GivesOn (hasher_gives hasher) n b.later (front (row_at rows b.end))) first (b.given flag)),
)
  where
    starts : Starts rows j
    starts = record { within = at.within; is = ap is_start_op at.is }

    first : batch_at rows j ≡ own rows j
    first = (known.shows.pair_is j at.within).pair.batch.first (ap (λ o. is_op o ops.Span) at.is)

    b : HasBatches hasher rows j
    b =
        batches known (length rows) j (omega arith) (record { within = at.within; is = ap is_batch_op at.is })
        (ap (λ n. n % 8) first ∙ address_is known.hashes starts)

    -- the one END of a block is that of the row that has its address
    closes : Closes rows j b.end
    closes =
        let found = known.blocks.block b.end b.ends in
        subst (λ (i : ℕ). Closes rows i b.end) (known.blocks.one found.0 j found.1.starts starts (found.1.own_is ∙ b.inside)) found.1

    flag : h (row_at rows b.end) 5 ≡ 1
    flag = closes.flags.span ∙ ap (λ o. cond (is_op o ops.Span) 1 0) at.is

pub span_law : GrantedSpans
span_law p t len granted = record {
  span = span_at known;
  block = block_hashed granted.hashes granted.rows;
}
  where
    known : Known (constants_of p.params) t.hasher t.main
    known = record { claim = claim_of p t; shows = granted.rows; groups = granted.groups; blocks = granted.blocks; hashes = granted.hashes }
