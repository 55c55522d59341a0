-- Which block names a child that ends, and what comes behind the child's END.
use Rattle.sound_blocks.proofs.Words.{◌≡◌, ℕ, suc, ◌<◌, Bool, true, false, List, length, refl, sym, ap, ◌∙◌, subst, is_start_op, Op, addr, s, is_op, front}
use Rattle.sound_blocks.proofs.Words.{back, Claim, keeps_block, may_follow, row_at, ShowsRows, op_in, BlockFacts, Closes, IsAt, Starts, own, never, ChildFacts}
use Rattle.sound_blocks.proofs.Words.{IsNamed, IsOnlyChild, TurnsAgain}
use Rattle.sound_blocks.proofs.Words.ops
use Rattle.sound_blocks.proofs.Operations.{BehindEnd, behind_end}
use Rattle.sound_blocks.proofs.OpenBlocks.{no_zero}
use Rattle.sound_blocks.proofs.Rows.{has_next, starts_at}

pub starts_by : {rows : List (List ℕ)} {j : ℕ} (op : Op) → is_start_op op ≡ true → IsAt rows j op → Starts rows j
starts_by op is here = record { within = here.within; is = ap is_start_op here.is ∙ is }

-- a child of this digest is named by the block that starts in row j, and whether another one starts behind it
pub data NamedBy (rows : List (List ℕ)) (j : ℕ) (digest : List ℕ) : Bool → Type 0 where
  first : op_in rows j ≡ ops.Join → digest ≡ front (row_at rows j) → NamedBy rows j digest true
  second : op_in rows j ≡ ops.Join → digest ≡ back (row_at rows j) → NamedBy rows j digest false
  only : IsOnlyChild rows j digest → NamedBy rows j digest false
  body : op_in rows j ≡ ops.Loop → digest ≡ front (row_at rows j) → NamedBy rows j digest false

-- a child is named by the statement, or by the block of this address
data Namer (rows : List (List ℕ)) (root : List ℕ) (parent : ℕ) (digest : List ℕ) : Bool → Type 0 where
  statement : parent ≡ 0 → digest ≡ root → Namer rows root parent digest false
  block : {more : Bool} (i : ℕ) → Starts rows i → own rows i ≡ parent → NamedBy rows i digest more → Namer rows root parent digest more

-- what the row behind the child's END is
pub data Next (rows : List (List ℕ)) (j e : ℕ) : Type 0 where
  start : Starts rows (suc e) → Next rows j e
  end : Closes rows j (suc e) → Next rows j e
  turn : op_in rows j ≡ ops.Loop → TurnsAgain rows j (suc e) → Next rows j e

-- what is known of the rows
pub record Known (k : Claim) (rows : List (List ℕ)) (root : List ℕ) : Type 0 where
  pub shows : ShowsRows k rows
  pub blocks : BlockFacts rows
  pub children : ChildFacts rows root

module _ {k : Claim} {rows : List (List ℕ)} {root : List ℕ} (known : Known k rows root) where
  -- the block of an address
  pub same_block : {i j address : ℕ} → Starts rows i → Starts rows j → own rows i ≡ address → own rows j ≡ address → i ≡ j
  same_block {i} {j} starts_i starts_j own_i own_j = known.blocks.one i j starts_i starts_j (own_i ∙ sym own_j)

  -- no block has this one
  pub outside : {A : Type 0} {j address : ℕ} → Starts rows j → own rows j ≡ address → address ≡ 0 → A
  outside {j = j} starts own_is zero_is = no_zero (own rows j) (known.blocks.positive j starts) (own_is ∙ zero_is)

  -- the loop of a turn
  pub turned : {r j : ℕ} → Starts rows j → addr (row_at rows r) ≡ own rows j → IsAt rows r ops.Repeat
      → (op_in rows j ≡ ops.Loop) × (front (row_at rows r) ≡ front (row_at rows j))
  turned {r} {j} starts inside at =
      let turn = known.children.turn r at in
      let same = same_block (starts_by ops.Loop refl turn.1.is_loop) starts (turn.1.own_is ∙ inside) refl in
      (ap (op_in rows) (sym same) ∙ turn.1.is_loop.is, sym turn.1.body ∙ ap (λ m. front (row_at rows m)) same)

  namer : {parent : ℕ} {digest : List ℕ} {more : Bool} → IsNamed rows root parent digest more → Namer rows root parent digest more
  namer (IsNamed.statement zero_is digest_is) = Namer.statement zero_is digest_is
  namer (IsNamed.first i at own_is is) = Namer.block i (starts_by ops.Join refl at) own_is (NamedBy.first at.is is)
  namer (IsNamed.second i at own_is is) = Namer.block i (starts_by ops.Join refl at) own_is (NamedBy.second at.is is)
  namer (IsNamed.on_one i at top own_is is) = Namer.block i (starts_by ops.Split refl at) own_is (NamedBy.only (IsOnlyChild.on_one at.is top is))
  namer (IsNamed.on_zero i at top own_is is) = Namer.block i (starts_by ops.Split refl at) own_is (NamedBy.only (IsOnlyChild.on_zero at.is top is))
  namer (IsNamed.body i at top own_is is) = Namer.block i (starts_by ops.Loop refl at) own_is (NamedBy.body at.is is)
  namer (IsNamed.callee i at own_is is) = Namer.block i (starts_by ops.Call refl at) own_is (NamedBy.only (IsOnlyChild.callee at.is is))
  namer (IsNamed.kernel i at own_is is) = Namer.block i (starts_by ops.Syscall refl at) own_is (NamedBy.only (IsOnlyChild.kernel at.is is))
  namer (IsNamed.target i at own_is is) = Namer.block i (starts_by ops.Dyn refl at) own_is (NamedBy.only (IsOnlyChild.target at.is is))
  namer (IsNamed.turn r at inside is) =
      let turn = known.children.turn r at in
      Namer.block turn.0 (starts_by ops.Loop refl turn.1.is_loop) (turn.1.own_is ∙ inside) (NamedBy.body turn.1.is_loop.is (is ∙ sym turn.1.body))

  named_by : {j parent : ℕ} {digest : List ℕ} {more : Bool} → Starts rows j → own rows j ≡ parent → Namer rows root parent digest more
      → NamedBy rows j digest more
  named_by starts is (Namer.statement zero_is digest_is) = outside starts is zero_is
  named_by {digest = digest} {more = more} starts is (Namer.block i others own_is by) =
      subst (λ (m : ℕ). NamedBy rows m digest more) (same_block others starts own_is is) by

  -- the statement alone names a child of no block
  by_statement : {parent : ℕ} {digest : List ℕ} {more : Bool} → parent ≡ 0 → Namer rows root parent digest more → (digest ≡ root) × (more ≡ false)
  by_statement none (Namer.statement zero_is digest_is) = (digest_is, refl)
  by_statement none (Namer.block i starts own_is by) = outside starts own_is none

  pub root_named : {e : ℕ} → IsAt rows e ops.End → addr (row_at rows (suc e)) ≡ 0
      → (front (row_at rows e) ≡ root) × (is_start_op (op_in rows (suc e)) ≡ false)
  root_named {e} here none = by_statement none (namer (known.children.child e here))

  -- ---- the row behind

  pub follows_at : {i : ℕ} (op : Op) → IsAt rows i op → may_follow op (s (row_at rows i) 0) (op_in rows (suc i)) ≡ true
  follows_at {i} op here =
      subst (λ (o : Op). may_follow o (s (row_at rows i) 0) (op_in rows (suc i)) ≡ true) here.is (known.shows.pair_is i here.within).pair.follows

  pub keeps_at : {i : ℕ} (op : Op) → keeps_block op ≡ true → IsAt rows i op → addr (row_at rows (suc i)) ≡ addr (row_at rows i)
  keeps_at {i} op keeps here = (known.shows.pair_is i here.within).pair.block.block (ap keeps_block here.is ∙ keeps)

  -- the END in row e is that of the block whose address the row has
  pub ends_own : {j e : ℕ} → Starts rows j → IsAt rows e ops.End → addr (row_at rows e) ≡ own rows j → Closes rows j e
  ends_own {j} {e} starts here inside =
      let found = known.blocks.block e here in
      subst (λ (m : ℕ). Closes rows m e) (same_block found.1.starts starts (found.1.own_is ∙ inside) refl) found.1

  pub op_at_next : {i : ℕ} (op : Op) → i < length rows → is_op op ops.Halt ≡ false → op_in rows i ≡ op → IsAt rows i op
  op_at_next {i} op within goes_on is =
      record { within = has_next known.shows i within (λ halts. never (sym halts ∙ ap (λ o. is_op o ops.Halt) is ∙ goes_on)); is = is }

  next_by : {j e : ℕ} → Starts rows j → IsAt rows e ops.End → addr (row_at rows (suc e)) ≡ own rows j → BehindEnd (op_in rows (suc e)) → Next rows j e
  next_by {e = e} starts here inside (BehindEnd.start is) = Next.start (starts_at known.shows (suc e) here.within is)
  next_by starts here inside (BehindEnd.end is) = Next.end (ends_own starts (op_at_next ops.End here.within refl is) inside)
  next_by {e = e} starts here inside (BehindEnd.repeat is) =
      let again = op_at_next ops.Repeat here.within refl is in
      let loop = turned starts inside again in
      Next.turn loop.0 (record {
        repeats = again;
        body = loop.1;
        starts = starts_at known.shows (suc (suc e)) again.within (follows_at ops.Repeat again);
        inside = keeps_at ops.Repeat refl again ∙ inside;
      })
  next_by {e = e} starts here inside (BehindEnd.halt is) =
      outside starts (sym inside) ((known.shows.row_is (suc e) here.within).row.block.closed (ap (λ o. is_op o ops.Halt) is))

  pub next_of : {j e : ℕ} → Starts rows j → IsAt rows e ops.End → addr (row_at rows (suc e)) ≡ own rows j → Next rows j e
  next_of {e = e} starts here inside = next_by starts here inside (behind_end (op_in rows (suc e)) (s (row_at rows e) 0) (follows_at ops.End here))

  -- and which child has ended
  pub child_of : {j e : ℕ} → Starts rows j → IsAt rows e ops.End → addr (row_at rows (suc e)) ≡ own rows j
      → NamedBy rows j (front (row_at rows e)) (is_start_op (op_in rows (suc e)))
  child_of {e = e} starts here inside = named_by starts (sym inside) (namer (known.children.child e here))
