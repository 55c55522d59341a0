-- The rows of a batch read it, from its start on.
use Rattle.sound_blocks.proofs.Words.{◌≡◌, ℕ, zero, suc, ◌+◌, ◌-◌, ◌<◌, true, ◌||◌, List, length, take, drop, refl, sym, ap, ◌∙◌, arith, is_ordinary_op, h, gc}
use Rattle.sound_blocks.proofs.Words.{ox, ha, s, is_op, eight, positions, Claim, row_at, ShowsRows, op_in, IsPair, Begins, GroupFacts, batch_at, HasBatchRows}
use Rattle.sound_blocks.proofs.Words.ops
use Rattle.op_pack.specs.Reading.{read_on, reading}
use Rattle.facts_main.specs.Batches.{ShowsBatch, OpensBatch}
use Rattle.sound_blocks.proofs.Rows.{has_next}
use Rattle.sound_blocks.proofs.Tests.{behind_start, ordinary_goes}
use Rattle.sound_blocks.proofs.InUse.{in_use_is, left_of}
use Rattle.sound_blocks.proofs.BatchRows.{IsRead, Runs, step}

-- every row of the batch, the later ones first
runs : {rows : List (List ℕ)} {i : ℕ} → IsRead rows i → (n r : ℕ) → n + suc r ≡ length rows → r < length rows → is_ordinary_op (op_in rows r) ≡ true
    → ha (row_at rows r) ≡ batch_at rows i → gc (row_at rows r) < positions (row_at rows i) → Runs rows i r
runs {rows = rows} c zero r e h ordinary same left =
    absurd (omega (arith, e, has_next c.shows r h (ordinary_goes (op_in rows r) ordinary)))
runs {rows = rows} {i = i} c (suc n) r e h ordinary same left =
    let within = has_next c.shows r h (ordinary_goes (op_in rows r) ordinary) in
    let pair = (c.shows.pair_is r within).pair in
    step c r (record { within = within; ordinary = ordinary; same = same; left = left })
    (λ next fewer. runs c n (suc r) (omega (arith, e)) within next (pair.batch.same ordinary ∙ same) fewer) (pair.group ordinary)

-- a batch, the row behind it, and that its rows come behind its start
pub record HasBatch (rows : List (List ℕ)) (i : ℕ) : Type 0 where
  pub end : ℕ
  pub is : HasBatchRows rows i end
  pub stops : is_op (op_in rows end) ops.End || is_op (op_in rows end) ops.Respan ≡ true
  pub within : suc end < length rows
  pub behind : i < end

reading_is : (x y : List ℕ) → ShowsBatch x → OpensBatch x y → reading (eight x) ≡ read_on (left_of x (gc y)) (9 - ox y) (h y 0)
unfolding reading
reading_is x y shows opens =
    ap (λ n. read_on (drop 1 (take n (eight x))) 9 (h x 0)) (in_use_is x shows)
    ∙ ap (λ n. read_on (drop n (take (positions x) (eight x))) 9 (h x 0)) (let e : 1 ≡ positions x - gc y = omega (arith, opens.left) in e)
    ∙ ap (λ n. read_on (left_of x (gc y)) n (h x 0)) (let e : 9 ≡ 9 - ox y = omega (arith, opens.place) in e)
    ∙ ap (read_on (left_of x (gc y)) (9 - ox y)) (sym opens.group)

pub has_batch : (k : Claim) (rows : List (List ℕ)) → ShowsRows k rows → GroupFacts rows → (i : ℕ) → Begins rows i → HasBatch rows i
has_batch k rows shows groups i begins = record {
  end = run.end;
  is = record {
    begins = begins;
    items = run.items;
    reads = reading_is (row_at rows i) (row_at rows (suc i)) batch opens ∙ run.found.reads;
    are = run.are;
    inside = run.inside;
    hashed = run.hashed;
  };
  stops = run.stops;
  within = run.within;
  behind = omega (arith, run.behind);
}
  where
    pair : IsPair (op_in rows i) (op_in rows (suc i)) (row_at rows i) (row_at rows (suc i))
    pair = (shows.pair_is i begins.within).pair

    batch : ShowsBatch (row_at rows i)
    batch = (shows.row_is i (omega (arith, begins.within))).row.batch begins.is

    opens : OpensBatch (row_at rows i) (row_at rows (suc i))
    opens = pair.opens begins.is

    run : Runs rows i (suc i)
    run =
        runs (record { claim = k; shows = shows; groups = groups; begins = begins; few = batch.is_batch.room })
        (length rows - suc (suc i)) (suc i) (omega (arith, begins.within)) begins.within
        (behind_start (op_in rows i) (op_in rows (suc i)) (s (row_at rows i) 0) begins.is pair.follows) refl (omega (arith, opens.left))
