-- The turns of a loop that the walk finds, and the whole tree.
use Rattle.sound_evidence.proofs.Words.{◌≡◌, ◌⊎◌, ℕ, suc, ◌+◌, ◌^◌, ◌<◌, Bool, true, false, List, length, refl, sym, ap, ◌∙◌, inl, inr, subst, arith, add-one}
use Rattle.sound_evidence.proofs.Words.{Op, s, subst₂, constants_of, is_op, HasBits, computation_at, front, Public, Trace, row_at, op_in, never, Closes, IsAt}
use Rattle.sound_evidence.proofs.Words.{own, Built, Turns, built_digest, built_good, placed_of, Good, Merged, Mergeable, PlacedTree, placed_digest, AddrTree}
use Rattle.sound_evidence.proofs.Words.{IsFound, IsWalkable, IsWholeTree, Takes, Found}
use Rattle.vm_ops.specs.declared.op.Op.TheVariants as ops
use Rattle.block_tree.proofs.Refinement.{refines-digest, refines-trans}
use Rattle.sound_blocks.specs.Nesting.{StartsInside, TurnsAgain}
use Rattle.tree_merge.specs.Placed as placed
use Rattle.sound_evidence.proofs.BlockFound.{as_found, found_closes}
use Rattle.sound_evidence.proofs.ReadRows.{bits_at, own_small}
use Rattle.sound_evidence.proofs.Takings.{joined, row_rests}
use Rattle.sound_evidence.proofs.Turning.{Turning}

add-two : (n : ℕ) → n + 2 ≡ suc (suc n)
add-two n = omega arith

suc-one : (n : ℕ) → suc n + 1 ≡ n + 2
suc-one n = omega arith

module _ (p : Public) (t : Trace) (readable : IsWalkable p t) where
  pub first_turn : (i : ℕ) → IsAt t.main i ops.Loop → s (row_at t.main i) 0 ≡ 1 → (body : PlacedTree) (digest : List ℕ) → body ≡ placed.Opaque digest
      → digest ≡ front (row_at t.main i) → Turning p t i (i + 1) body
  first_turn i here top body digest body_is digest_is =
      subst (λ x. Turning p t i (i + 1) x) (sym (body_is ∙ ap (λ d. placed.Opaque d) digest_is)) (rw add-one (record {
        starts = inside.starts;
        inside = inside.inside;
        later = omega arith;
        good = Good.opaque;
        digest = refl;
        rest = λ m e refines turns. turns;
      }))
    where
      inside : StartsInside t.main i
      inside = readable.facts.nesting.loop_enters i here top

  module _ (i a : ℕ) (body : PlacedTree) (turn : Found) (here : IsAt t.main i ops.Loop) (turning : Turning p t i a body) (f : IsFound p t a turn) where
    -- the turn has the digest that the loop names, and its END stands before the loop's own or before REPEAT
    behind : (front (row_at t.main turn.end) ≡ front (row_at t.main i)) × (Closes t.main i (suc turn.end) ⊎ TurnsAgain t.main i (suc turn.end))
    behind = readable.facts.nesting.after_turn i a turn.end here turning.inside (found_closes p t readable a turn f)

    turn_digest : placed_digest (constants_of p.params) (placed_of turn.tree) ≡ front (row_at t.main turn.end)
    turn_digest = built_digest (constants_of p.params) t.hasher t.main p.statement.digest readable.facts f.tree

    pub mergeable : Mergeable (constants_of p.params) (computation_at t.hasher) body (placed_of turn.tree)
    mergeable = record {
      first = turning.good;
      second = built_good (constants_of p.params) t.hasher t.main p.statement.digest readable.facts f.tree;
      digest = turning.digest ∙ sym behind.0 ∙ sym turn_digest;
    }

    pub turn_later : a < turn.end
    turn_later = (readable.facts.frames.closed a turn.end (found_closes p t readable a turn f)).later

    next_within : Closes t.main i (suc turn.end) ⊎ TurnsAgain t.main i (suc turn.end) → suc (suc turn.end) < length t.main
    next_within (inl closes) = closes.ends.within
    next_within (inr again) = again.repeats.within

    pub behind_within : suc (suc turn.end) < length t.main
    behind_within = next_within behind.1

    pub read_behind : turn.end + 1 < length t.main
    read_behind = let within = behind_within in omega (arith, within)

    pub bits_behind : HasBits (row_at t.main (turn.end + 1))
    bits_behind = bits_at p t readable (turn.end + 1) read_behind

    next_op : (op : Op) (answer : Bool) → op ≡ op_in t.main (turn.end + 1) → answer ≡ is_op op ops.End
        → is_op (op_in t.main (suc turn.end)) ops.End ≡ answer
    next_op op answer same is =
        ap (λ (m : ℕ). is_op (op_in t.main m) ops.End) (sym (add-one turn.end)) ∙ ap (λ o. is_op o ops.End) (sym same) ∙ sym is

    closes_by : is_op (op_in t.main (suc turn.end)) ops.End ≡ true → Closes t.main i (suc turn.end) ⊎ TurnsAgain t.main i (suc turn.end)
        → Closes t.main i (suc turn.end)
    closes_by ends (inl closes) = closes
    closes_by ends (inr again) = never (sym ends ∙ ap (λ o. is_op o ops.End) again.repeats.is)

    again_by : is_op (op_in t.main (suc turn.end)) ops.End ≡ false → Closes t.main i (suc turn.end) ⊎ TurnsAgain t.main i (suc turn.end)
        → TurnsAgain t.main i (suc turn.end)
    again_by goes_on (inl closes) = never (sym (ap (λ o. is_op o ops.End) closes.ends.is) ∙ goes_on)
    again_by goes_on (inr again) = again

    loop_closes : (op : Op) (answer : Bool) → op ≡ op_in t.main (turn.end + 1) → answer ≡ is_op op ops.End → answer ≡ true
        → Closes t.main i (suc turn.end)
    loop_closes op answer same is yes_end = closes_by (next_op op answer same is ∙ yes_end) behind.1

    pub loop_small : (op : Op) (answer : Bool) → op ≡ op_in t.main (turn.end + 1) → answer ≡ is_op op ops.End → answer ≡ true
        → own t.main i < 2 ^ 32
    loop_small op answer same is yes_end = own_small p t readable i (suc turn.end) (loop_closes op answer same is yes_end)

    pub loop_found : (op : Op) (answer : Bool) → op ≡ op_in t.main (turn.end + 1) → answer ≡ is_op op ops.End → answer ≡ true
        → s (row_at t.main i) 0 ≡ 1 → (m : AddrTree)
        → Merged (constants_of p.params) (computation_at t.hasher) body (placed_of turn.tree) (placed_of m)
        → (found : Found) (at : ℕ) (x : AddrTree) → found.end ≡ turn.end + 1 → placed_of found.tree ≡ placed.Loop at (placed_of x)
        → at ≡ own t.main i → x ≡ m → IsFound p t i found
    loop_found op answer same is yes_end top m merged found at x end_is tree_is at_is x_is =
        let closes = loop_closes op answer same is yes_end in
        as_found p t readable i (suc turn.end) (placed.Loop (own t.main i) (placed_of m)) found (end_is ∙ add-one turn.end)
        (tree_is ∙ ap (λ (n : ℕ). placed.Loop n (placed_of x)) at_is ∙ ap (λ z. placed.Loop (own t.main i) (placed_of z)) x_is)
        (Built.loop_entered here top closes merged.good
        (turning.rest (placed_of m) (suc turn.end) merged.first (Turns.last f.tree merged.second behind.0 closes)))

    pub next_turn : (op : Op) (answer : Bool) → op ≡ op_in t.main (turn.end + 1) → answer ≡ is_op op ops.End → answer ≡ false
        → (m : PlacedTree) → Merged (constants_of p.params) (computation_at t.hasher) body (placed_of turn.tree) m → Turning p t i (turn.end + 2) m
    next_turn op answer same is no_end m merged =
        subst (λ (n : ℕ). Turning p t i n m) (sym (add-two turn.end)) (record {
          starts = again.starts;
          inside = again.inside;
          later = omega (arith, turning.later, turn_later);
          good = merged.good;
          digest = refines-digest (constants_of p.params) merged.first ∙ turning.digest;
          rest = λ n e refines turns. turning.rest n e (refines-trans (constants_of p.params) refines merged.first)
              (Turns.more f.tree (refines-trans (constants_of p.params) refines merged.second) behind.0 again turns);
        })
      where
        again : TurnsAgain t.main i (suc turn.end)
        again = again_by (next_op op answer same is ∙ no_end) behind.1

    -- REPEAT takes nothing from the tape
    pub turn_takes : (op : Op) (answer : Bool) → op ≡ op_in t.main (turn.end + 1) → answer ≡ is_op op ops.End → answer ≡ false
        → (begun taken grown : List ℕ) → Takes t.main (i + 1) a begun taken → Takes t.main a (turn.end + 1) taken grown
        → Takes t.main (i + 1) (turn.end + 2) begun grown
    turn_takes op answer same is no_end begun taken grown so_far now =
        joined t.main (i + 1) a (turn.end + 2) begun taken grown so_far
        (joined t.main a (turn.end + 1) (turn.end + 2) taken grown grown now
        (subst₂ (λ (m n : ℕ). Takes t.main m n grown grown) (sym (add-one turn.end)) (suc-one turn.end)
        (row_rests t.main (suc turn.end) ops.Repeat grown (again_by (next_op op answer same is ∙ no_end) behind.1).repeats refl)))

  pub whole_found : (found : Found) → IsFound p t 0 found → IsWholeTree p t found
  whole_found found f =
      let root = readable.facts.nesting.after_root found.end (found_closes p t readable 0 found f) in
      record {
        tree = f.tree;
        last = root.0;
        digest = built_digest (constants_of p.params) t.hasher t.main p.statement.digest readable.facts f.tree ∙ root.1;
      }
