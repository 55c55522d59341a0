-- The only child of a block, the turns of a loop, and the root.
use Rattle.sound_blocks.proofs.Words.{◌≡◌, ◌⊎◌, ℕ, suc, ◌<◌, Bool, true, false, cond, eqb, List, length, refl, sym, ap, ◌∙◌, inl, inr, subst, is_start_op, Op}
use Rattle.sound_blocks.proofs.Words.{addr, s, is_op, front, Claim, row_at, op_in, halts_last, never, off, Closes, IsAt, Starts, own, op_from, IsOnlyChild}
use Rattle.sound_blocks.proofs.Words.{StartsInside, TurnsAgain}
use Rattle.sound_blocks.proofs.Words.ops
use Rattle.sound_blocks.proofs.Operations.{BehindEnd, behind_end}
use Rattle.sound_blocks.proofs.Rows.{starts_at}
use Rattle.sound_blocks.proofs.Names.{Known, NamedBy, Next, child_of, ends_own, follows_at, next_of, op_at_next, outside, root_named, starts_by}
use Rattle.sound_blocks.proofs.FirstChildren.{first_by, join_no_loop, only_apart}

is_not : {A : Type 0} {op : Op} (other : Op) → is_op op other ≡ false → op ≡ other → is_op other other ≡ true → A
is_not other differs is same = never (sym same ∙ ap (λ o. is_op o other) (sym is) ∙ differs)

only_by : {rows : List (List ℕ)} {j : ℕ} {digest : List ℕ} {more : Bool} → is_op (op_in rows j) ops.Join ≡ false
    → is_op (op_in rows j) ops.Loop ≡ false → NamedBy rows j digest more → IsOnlyChild rows j digest
only_by no_join no_loop (NamedBy.first join digest_is) = is_not ops.Join no_join join refl
only_by no_join no_loop (NamedBy.second join digest_is) = is_not ops.Join no_join join refl
only_by no_join no_loop (NamedBy.only child) = child
only_by no_join no_loop (NamedBy.body loop digest_is) = is_not ops.Loop no_loop loop refl

body_by : {rows : List (List ℕ)} {j : ℕ} {digest : List ℕ} {more : Bool} → op_in rows j ≡ ops.Loop → NamedBy rows j digest more
    → digest ≡ front (row_at rows j)
body_by loop (NamedBy.first join digest_is) = join_no_loop join loop
body_by loop (NamedBy.second join digest_is) = join_no_loop join loop
body_by loop (NamedBy.only child) = off (sym (only_apart child) ∙ rw loop refl)
body_by loop (NamedBy.body same digest_is) = digest_is

module _ {k : Claim} {rows : List (List ℕ)} {root : List ℕ} (known : Known k rows root) where
  -- ---- behind the start of a block

  pub starts_inside : {j : ℕ} {op : Op} → IsAt rows j op → is_start_op (op_in rows (suc j)) ≡ true → StartsInside rows j
  starts_inside {j} here is = record { starts = starts_at known.shows (suc j) here.within is; inside = refl }

  behind_loop : (j top : ℕ) → IsAt rows j ops.Loop → s (row_at rows j) 0 ≡ top
      → cond (eqb top 0) (is_op (op_in rows (suc j)) ops.End) (is_start_op (op_in rows (suc j))) ≡ true
  behind_loop j top loop is =
      subst (λ n. cond (eqb n 0) (is_op (op_in rows (suc j)) ops.End) (is_start_op (op_in rows (suc j))) ≡ true) is (follows_at known ops.Loop loop)

  pub enters : (j : ℕ) → IsAt rows j ops.Loop → s (row_at rows j) 0 ≡ 1 → StartsInside rows j
  enters j loop top = starts_inside loop (behind_loop j 1 loop top)

  pub skips : (j : ℕ) → IsAt rows j ops.Loop → s (row_at rows j) 0 ≡ 0 → Closes rows j (suc j)
  skips j loop top =
      ends_own known (starts_by ops.Loop refl loop) (op_at_next known ops.End loop.within refl (op_from (behind_loop j 0 loop top))) refl

  -- ---- behind an only child

  -- only a join has another child
  second_joins : {j e : ℕ} → Starts rows j → IsAt rows e ops.End → addr (row_at rows (suc e)) ≡ own rows j → Starts rows (suc e)
      → op_in rows j ≡ ops.Join
  second_joins starts here inside second = (first_by (rw second.is at (child_of known starts here inside))).0

  pub after_only : (j a : ℕ) → is_op (op_in rows j) ops.Join ≡ false → is_op (op_in rows j) ops.Loop ≡ false → Starts rows j
      → Closes rows (suc j) a → Closes rows j (suc a) × IsOnlyChild rows j (front (row_at rows a))
  after_only j a no_join no_loop starts child = go (next_of known starts child.ends child.parent)
    where
      go : Next rows j a → Closes rows j (suc a) × IsOnlyChild rows j (front (row_at rows a))
      go (Next.start second) = is_not ops.Join no_join (second_joins starts child.ends child.parent second) refl
      go (Next.end closes) = (closes, only_by no_join no_loop (child_of known starts child.ends child.parent))
      go (Next.turn loop again) = is_not ops.Loop no_loop loop refl

  -- ---- behind a turn of a loop

  pub after_turn : (j q b : ℕ) → IsAt rows j ops.Loop → addr (row_at rows q) ≡ own rows j → Closes rows q b
      → (front (row_at rows b) ≡ front (row_at rows j)) × (Closes rows j (suc b) ⊎ TurnsAgain rows j (suc b))
  after_turn j q b loop inside child = (body_by loop.is (child_of known starts child.ends behind), go (next_of known starts child.ends behind))
    where
      starts : Starts rows j
      starts = starts_by ops.Loop refl loop

      behind : addr (row_at rows (suc b)) ≡ own rows j
      behind = child.parent ∙ inside

      go : Next rows j b → Closes rows j (suc b) ⊎ TurnsAgain rows j (suc b)
      go (Next.start second) = join_no_loop (second_joins starts child.ends behind second) loop.is
      go (Next.end closes) = inl closes
      go (Next.turn same again) = inr again

  -- ---- behind the root

  last_behind : {e : ℕ} → IsAt rows e ops.End → addr (row_at rows (suc e)) ≡ 0 → is_start_op (op_in rows (suc e)) ≡ false
      → BehindEnd (op_in rows (suc e)) → suc (suc e) ≡ length rows
  last_behind here none no_start (BehindEnd.start is) = never (sym is ∙ no_start)
  last_behind {e} here none no_start (BehindEnd.halt is) = (halts_last k rows known.shows (suc e) here.within).0 (ap (λ o. is_op o ops.Halt) is)
  last_behind {e} here none no_start (BehindEnd.end is) =
      let found = known.blocks.block (suc e) (op_at_next known ops.End here.within refl is) in outside known found.1.starts found.1.own_is none
  last_behind {e} here none no_start (BehindEnd.repeat is) =
      let turn = known.children.turn (suc e) (op_at_next known ops.Repeat here.within refl is) in
      outside known (starts_by ops.Loop refl turn.1.is_loop) turn.1.own_is none

  pub after_root : 0 < length rows → (e : ℕ) → Closes rows 0 e → (suc (suc e) ≡ length rows) × (front (row_at rows e) ≡ root)
  after_root some_row e closes =
      let none = closes.parent ∙ (known.shows.first some_row).start.block in
      let named = root_named known closes.ends none in (
        last_behind closes.ends none named.1
            (behind_end (op_in rows (suc e)) (s (row_at rows e) 0) (follows_at known ops.End closes.ends)),
        named.0,
      )
