-- Each cycle asks on the hasher's bus what its requests give and what is owed before it and not behind it.
use Rattle.complete_rows.proofs.Words
use Words.{◌≡◌, ℕ, ◌+◌, ◌*◌, ◌<◌, All, List, ◌∷◌, ◌++◌, length, drop, false, refl, sym, ap, ◌∙◌, arith, number_of_constants, prime, Core, ◌⊞◌, begun, hashed}
use Words.{IsBatch, Mark, Do, IsWholeMark, Task, Next, span, operation, respan, span_ends, repeats, loop_ends, closes, returns, leaves, Loop, tree_digest}
use Words.{hash-batch, counted, counted-none, hasher_asked, perms_given, shown_between, visible_of, Event, AreOutside, Decoder, advance, hash_perms, perms_by}
use Words.{perms_by_op, perms_of, respans}
use Words.ops
use Rattle.complete_rows.proofs.AgreeLemmas.{kind_is, ordinary_advance}
use Rattle.complete_requests.proofs.Chains.{batches_owed, hash_given, hit, length_chain, perms_append}
use Rattle.complete_requests.proofs.Following.{coming}
use Rattle.complete_requests.proofs.HasherSteps.{Cells, OperationAsks, asks, deep, end_step, first_none, owed_hashes, span_step, start_step}

-- addresses are far below the field's prime
pub record IsLow (d : Decoder) : Type 0 where
  pub next : d.next + 16 < prime
  pub ha : d.ha + 16 < prime

module _ {constants : List ℕ} (len : length constants ≡ number_of_constants) {x y v : List ℕ} (advice : List ℕ) (d : Decoder)
    (later : List Event) (todo : List Task) (b : Core) where
  pub hasher_step : {task : Task} {c : Core} {mark : Mark} {rest : List Task} → Next constants task c mark rest → IsWholeMark mark
      → All IsBatch (respans later) → respans later ≡ coming (rest ++ todo) → AreOutside todo
      → Cells mark d (advance d (shown_between mark advice c b) later) x y → IsLow d
      → OperationAsks constants mark d.next (shown_between mark advice c b) x y v
      → owed_hashes constants v (task ∷ todo) d (shown_between mark advice c b ∷ later)
      ≡ counted (hasher_asked x y) v + owed_hashes constants v (rest ++ todo) (advance d (shown_between mark advice c b) later) later
  unfolding perms_of
  hasher_step (span {batch = batch} {later = more} read) w all are out cells low op =
      let given = hash_given constants len d.next 0 batch (respans later) v w all in
      let both = perms_append constants d.next (hash_perms constants 0 (batch ∷ respans later)) (perms_of constants later) v in
      let place = ap (λ n. counted (perms_given constants (d.next + 8 * n) (perms_of constants later)) v)
      (length_chain constants (begun 0) false (batch ∷ respans later)) in
      let owed = ap (λ l. batches_owed d.next l (hashed constants 0 (batch ∷ l)) v) are in
      let asked : counted (hasher_asked x y) v ≡ hit (1 ∷ d.next ∷ 0 ∷ batch) v
      = asks ops.Span x y v cells.op ∙ rw (cells.behind, cells.eight refl) refl in
      omega (arith, given, both, place, owed, asked)
  hasher_step (operation {c = c} {item = item} {later = more} {digest = digest}) w all are out cells low op =
      let given = ap (λ k. counted (perms_given constants d.next
      (perms_by k constants (shown_between (Do item) advice c b) later ++ perms_of constants later)) v)
      (kind_is item.op w.ordinary) in
      let both = perms_append constants d.next (perms_by_op item.op (visible_of c)) (perms_of constants later) v in
      let advanced = ordinary_advance d (shown_between (Do item) advice c b) later w.ordinary in
      let moved = ap (λ n. counted (perms_given constants n (perms_of constants later)) v)
      (sym (ap (λ (z : Decoder). z.next) advanced ∙ op.moves w.ordinary)) in
      let batches = ap (λ (z : Decoder). batches_owed z.ha more digest v) advanced in
      let digests = ap (λ (z : Decoder). deep constants todo (drop 1 z.blocks) v) advanced in
      let asked = op.given w.ordinary in
      omega (arith, given, both, moved, batches, digests, asked)
  hasher_step (respan {batch = batch} read) w all are out cells low op =
      let place : d.ha ⊞ 8 ≡ d.ha + 8 = (let room = low.ha in omega (arith, room)) in
      let asked : counted (hasher_asked x y) v ≡ hit (2 ∷ (d.ha + 8) ∷ batch) v
      = asks ops.Respan x y v cells.op ∙ rw (cells.batch, cells.eight refl) (ap (λ a. hit (2 ∷ a ∷ batch) v) place) in
      omega (arith, asked)
  hasher_step (span_ends {digest = digest}) w all are out cells low op =
      let asked = span_step constants len x y v cells.op digest 0 0 0 w.size (cells.eight refl) cells.batch low.ha in
      omega (arith, asked, first_none 0 todo v out)
  hasher_step (repeats bit) w all are out cells low op =
      let asked : counted (hasher_asked x y) v ≡ 0 = asks ops.Repeat x y v cells.op ∙ counted-none v in omega (arith, asked)
  hasher_step (loop_ends {a = a} bit) w all are out cells low op =
      let asked = end_step constants len x y v cells.op (tree_digest constants (Loop a)) 1 0 0 w.size (cells.eight refl) cells.address in
      omega (arith, asked, first_none 0 todo v out)
  hasher_step (closes {digest = digest}) w all are out cells low op =
      let asked = end_step constants len x y v cells.op digest 0 0 0 w.size (cells.eight refl) cells.address in
      omega (arith, asked, first_none 0 todo v out)
  hasher_step (returns {digest = digest}) w all are out cells low op =
      let asked = end_step constants len x y v cells.op digest 0 1 0 w.0.size (cells.eight refl) cells.address in
      omega (arith, asked, first_none 0 todo v out)
  hasher_step (leaves {digest = digest}) w all are out cells low op =
      let asked = end_step constants len x y v cells.op digest 0 0 1 w.0.size (cells.eight refl) cells.address in
      omega (arith, asked, first_none 0 todo v out)
  hasher_step {mark = mark} next w all are out cells low op =
      start_step constants len x y v refl cells.op (hash-batch mark w) cells.behind (cells.eight refl) low.next (perms_of constants later) _
