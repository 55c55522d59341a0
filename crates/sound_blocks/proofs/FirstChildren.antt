-- A join has a second child: what stands before its only first one.
use Rattle.sound_blocks.proofs.Words.{◌≡◌, ℕ, zero, suc, ◌<◌, ◌||◌, true, false, List, refl, sym, ap, ◌∙◌, arith, is_start_op, Op, is_op, addr, s, front, back}
use Rattle.sound_blocks.proofs.Words.{Claim, row_at, op_in, off, Closes, IsAt, Starts, own, FirstChild, IsOnlyChild, StartsSecond}
use Rattle.sound_blocks.proofs.Words.ops
use Rattle.sound_blocks.proofs.Operations.{BeforeStart, before_start}
use Rattle.sound_blocks.proofs.OpenBlocks.{block_at}
use Rattle.sound_blocks.proofs.Names.{Known, NamedBy, Next, child_of, keeps_at, next_of, outside, same_block, starts_by, turned}

pub join_no_loop : {A : Type 0} {op : Op} → op ≡ ops.Join → op ≡ ops.Loop → A
join_no_loop join loop = absurd (let none : ⊥ = cc in none)

-- a block with one child is no join and no loop
pub only_apart : {rows : List (List ℕ)} {j : ℕ} {digest : List ℕ} → IsOnlyChild rows j digest
    → is_op (op_in rows j) ops.Join || is_op (op_in rows j) ops.Loop ≡ false
only_apart (IsOnlyChild.on_one is top digest_is) = rw is refl
only_apart (IsOnlyChild.on_zero is top digest_is) = rw is refl
only_apart (IsOnlyChild.callee is digest_is) = rw is refl
only_apart (IsOnlyChild.kernel is digest_is) = rw is refl
only_apart (IsOnlyChild.target is digest_is) = rw is refl

pub first_by : {rows : List (List ℕ)} {j : ℕ} {digest : List ℕ} → NamedBy rows j digest true
    → (op_in rows j ≡ ops.Join) × (digest ≡ front (row_at rows j))
first_by (NamedBy.first join digest_is) = (join, digest_is)

second_by : {rows : List (List ℕ)} {j : ℕ} {digest : List ℕ} → op_in rows j ≡ ops.Join → NamedBy rows j digest false → digest ≡ back (row_at rows j)
second_by join (NamedBy.second same digest_is) = digest_is
second_by join (NamedBy.only child) = off (sym (only_apart child) ∙ rw join refl)
second_by join (NamedBy.body loop digest_is) = join_no_loop join loop

module _ {k : Claim} {rows : List (List ℕ)} {root : List ℕ} (known : Known k rows root) where
  -- Where the END of a join's first child stood before the join's own one, the one END behind which another child starts would be that of
  -- a block that none of the rows before it lets start.
  module _ {j a : ℕ} (join : IsAt rows j ops.Join) (child : Closes rows (suc j) a) (closes : Closes rows j (suc a)) where
    has : FirstChild rows j
    has = known.children.join j join

    before_first : (w : ℕ) → Closes rows (suc w) has.end → suc w < has.end → BeforeStart (op_in rows w) → ⊥
    before_first w block later (BeforeStart.start is) =
        let starts : Starts rows w = record { within = omega (arith, later, has.is_first.ends.within); is = is } in
        let same = same_block known starts (starts_by ops.Join refl join) (sym block.parent ∙ has.is_first.inside) refl in
        let again = known.blocks.once has.end a has.is_first.ends child.ends
        (sym block.own_is ∙ ap (λ (m : ℕ). own rows (suc m)) same ∙ child.own_is) in
        off (sym (ap is_start_op closes.ends.is) ∙ ap (λ m. is_start_op (op_in rows (suc m))) (sym again) ∙ has.is_first.goes_on)
    before_first w block later (BeforeStart.end is) =
        let here : IsAt rows w ops.End = record { within = omega (arith, later, has.is_first.ends.within); is = is } in
        let same = has.only w (record { ends = here; inside = sym block.parent ∙ has.is_first.inside; goes_on = block.starts.is }) in
        omega (arith, same, later)
    before_first w block later (BeforeStart.repeat is) =
        let again : IsAt rows w ops.Repeat = record { within = omega (arith, later, has.is_first.ends.within); is = is } in
        join_no_loop join.is (turned known (starts_by ops.Join refl join)
        (sym (keeps_at known ops.Repeat refl again) ∙ sym block.parent ∙ has.is_first.inside) again).0

    partner_before : (q : ℕ) → Closes rows q has.end → q < has.end → ⊥
    partner_before zero block later =
        outside known (starts_by ops.Join refl join) (sym has.is_first.inside)
        (block.parent ∙ (known.shows.first (omega (arith, later, has.is_first.ends.within))).start.block)
    partner_before (suc w) block later =
        before_first w block later
        (before_start (op_in rows w) (op_in rows (suc w)) (s (row_at rows w) 0) block.starts.is
        (known.shows.pair_is w (omega (arith, later, has.is_first.ends.within))).pair.follows)

    not_one : ⊥
    not_one = let found = known.blocks.block has.end has.is_first.ends in
        partner_before found.0 found.1 (block_at known.shows known.blocks found.1).later

  -- ---- the children of a join

  pub after_first : (j a : ℕ) → IsAt rows j ops.Join → Closes rows (suc j) a → StartsSecond rows j a
  after_first j a join child = go (next_of known starts child.ends child.parent)
    where
      starts : Starts rows j
      starts = starts_by ops.Join refl join

      go : Next rows j a → StartsSecond rows j a
      go (Next.start second) =
          record { starts = second; digest = (first_by (rw second.is at (child_of known starts child.ends child.parent))).1; inside = child.parent }
      go (Next.end closes) = absurd (not_one join child closes)
      go (Next.turn loop again) = join_no_loop join.is loop

  pub after_second : (j a b : ℕ) → IsAt rows j ops.Join → Closes rows (suc j) a → Closes rows (suc a) b
      → Closes rows j (suc b) × (front (row_at rows b) ≡ back (row_at rows j))
  after_second j a b join first second = go (next_of known starts second.ends inside)
    where
      starts : Starts rows j
      starts = starts_by ops.Join refl join

      inside : addr (row_at rows (suc b)) ≡ own rows j
      inside = second.parent ∙ first.parent

      go : Next rows j b → Closes rows j (suc b) × (front (row_at rows b) ≡ back (row_at rows j))
      go (Next.start third) =
          let has = known.children.join j join in
          let one = has.only a (record { ends = first.ends; inside = first.parent; goes_on = (after_first j a join first).starts.is }) in
          let other = has.only b (record { ends = second.ends; inside = inside; goes_on = third.is }) in
          absurd (omega (arith, one, other, (block_at known.shows known.blocks second).later))
      go (Next.end closes) = (closes, second_by join.is (rw (ap is_start_op closes.ends.is) at (child_of known starts second.ends inside)))
      go (Next.turn loop again) = join_no_loop join.is loop
