-- The blocks that the walk finds, kind by kind: where their children start, and the tree.
use Rattle.sound_evidence.proofs.Words.{◌≡◌, ◌≢◌, ℕ, suc, ◌+◌, ◌^◌, ◌<◌, Bool, true, false, ◌||◌, eqb, List, [], length, refl, sym, ap, ◌∙◌, subst, arith}
use Rattle.sound_evidence.proofs.Words.{add-one, subst₂, Op, s, constants_of, is_op, back, called_digest, front, taken_by, Public, Trace, row_at, op_in}
use Rattle.sound_evidence.proofs.Words.{never, Closes, IsAt, Starts, own, Built, HasTree, built_closes, placed_of, PlacedTree, PlacedTargets, AddrTree}
use Rattle.sound_evidence.proofs.Words.{IsFound, IsWalkable, Takes, Found}
use Rattle.vm_ops.specs.declared.op.Op.TheVariants as ops
use Rattle.sound_blocks.specs.Nesting.{IsOnlyChild, StartsInside}
use Rattle.tree_merge.specs.Placed as placed
use Rattle.sound_evidence.proofs.ReadRows.{own_small}
use Rattle.sound_evidence.proofs.Takings.{joined, row_rests}

differ : {A : Type 0} (op one other : Op) → op ≡ one → op ≡ other → is_op one other ≡ false → is_op other other ≡ true → A
differ op one other is_one is_other apart same = never (sym same ∙ ap (λ o. is_op o other) (sym is_other ∙ is_one) ∙ apart)

-- what a test of the cell on top says
pub top_one : (n cell : ℕ) (answer : Bool) → n ≡ cell → answer ≡ eqb n 1 → answer ≡ true → cell ≡ 1
top_one n cell answer same is yes_one = grind arith

pub top_other : (n cell : ℕ) (answer : Bool) → n ≡ cell → answer ≡ eqb n 1 → answer ≡ false → cell ≢ 1
top_other n cell answer same is no_one = grind arith

bit_is : (n : ℕ) → n < 2 → n ≢ 1 → n ≡ 0
bit_is n low other = omega (arith, low, other)

module _ (p : Public) (t : Trace) (readable : IsWalkable p t) where
  abbrev has_tree : ℕ → ℕ → PlacedTree → Type 0
  has_tree i e x = HasTree (constants_of p.params) t.hasher t.main i e x

  pub as_found : (i e : ℕ) (x : PlacedTree) (found : Found) → found.end ≡ e → placed_of found.tree ≡ x → has_tree i e x → IsFound p t i found
  as_found i e x found end_is tree_is tree =
      record { tree = subst₂ (λ (m : ℕ) (y : PlacedTree). HasTree (constants_of p.params) t.hasher t.main i m y) (sym end_is) (sym tree_is) tree }

  pub found_closes : (i : ℕ) (found : Found) → IsFound p t i found → Closes t.main i found.end
  found_closes i found f = built_closes (constants_of p.params) t.hasher t.main i found.end (placed_of found.tree) f.tree

  -- of a child that starts in the next row
  pub child_tree : (i : ℕ) (child : Found) → IsFound p t (i + 1) child → has_tree (suc i) child.end (placed_of child.tree)
  child_tree i child f = subst (λ (m : ℕ). HasTree (constants_of p.params) t.hasher t.main m child.end (placed_of child.tree)) (add-one i) f.tree

  pub child_closes : (i : ℕ) (child : Found) → IsFound p t (i + 1) child → Closes t.main (suc i) child.end
  child_closes i child f = built_closes (constants_of p.params) t.hasher t.main (suc i) child.end (placed_of child.tree) (child_tree i child f)

  pub child_later : (i : ℕ) (child : Found) → IsFound p t (i + 1) child → suc i < child.end
  child_later i child f = (readable.facts.frames.closed (suc i) child.end (child_closes i child f)).later

  pub end_within : (i : ℕ) (found : Found) → IsFound p t i found → suc found.end < length t.main
  end_within i found f = (found_closes i found f).ends.within

  pub next_starts : (i : ℕ) → Starts t.main (suc i) → Starts t.main (i + 1)
  next_starts i starts = rw add-one starts

  pub starts_by : (i : ℕ) (op : Op) → IsAt t.main i op → StartsInside t.main i → Starts t.main (i + 1)
  starts_by i op here inside = next_starts i inside.starts

  -- ---- joins

  pub second_starts : (i : ℕ) → IsAt t.main i ops.Join → (first : Found) → IsFound p t (i + 1) first → Starts t.main (first.end + 1)
  second_starts i here first f =
      next_starts first.end (readable.facts.nesting.after_first i first.end here (child_closes i first f)).starts

  join_closes : (i : ℕ) → IsAt t.main i ops.Join → (first second : Found) → IsFound p t (i + 1) first → IsFound p t (first.end + 1) second
      → Closes t.main i (suc second.end) × (front (row_at t.main second.end) ≡ back (row_at t.main i))
  join_closes i here first second f g =
      readable.facts.nesting.after_second i first.end second.end here (child_closes i first f) (child_closes first.end second g)

  pub join_small : (i : ℕ) → IsAt t.main i ops.Join → (first second : Found) → IsFound p t (i + 1) first → IsFound p t (first.end + 1) second
      → own t.main i < 2 ^ 32
  join_small i here first second f g = own_small p t readable i (suc second.end) (join_closes i here first second f g).0

  pub join_found : (i : ℕ) → IsAt t.main i ops.Join → (first second : Found) → IsFound p t (i + 1) first → IsFound p t (first.end + 1) second
      → (found : Found) (at : ℕ) (x y : AddrTree) → found.end ≡ second.end + 1
      → placed_of found.tree ≡ placed.Join at (placed_of x) (placed_of y) → at ≡ own t.main i → x ≡ first.tree → y ≡ second.tree
      → IsFound p t i found
  join_found i here first second f g found at x y end_is tree_is at_is x_is y_is =
      as_found i (suc second.end) (placed.Join (own t.main i) (placed_of first.tree) (placed_of second.tree)) found (end_is ∙ add-one second.end)
      (tree_is ∙ ap (λ (n : ℕ). placed.Join n (placed_of x) (placed_of y)) at_is
      ∙ ap (λ z. placed.Join (own t.main i) (placed_of z) (placed_of y)) x_is
      ∙ ap (λ z. placed.Join (own t.main i) (placed_of first.tree) (placed_of z)) y_is)
      (Built.join here (join_closes i here first second f g).0 (child_tree i first f) (child_tree first.end second g)
      (readable.facts.nesting.after_first i first.end here (child_closes i first f)).digest (join_closes i here first second f g).1)

  -- ---- blocks with an only child

  only : (i : ℕ) (op : Op) → is_op op ops.Join ≡ false → is_op op ops.Loop ≡ false → IsAt t.main i op → (child : Found) → IsFound p t (i + 1) child
      → Starts t.main i → Closes t.main i (suc child.end) × IsOnlyChild t.main i (front (row_at t.main child.end))
  only i op no_join no_loop here child f starts =
      readable.facts.nesting.after_only i child.end (ap (λ o. is_op o ops.Join) here.is ∙ no_join)
      (ap (λ o. is_op o ops.Loop) here.is ∙ no_loop) starts (child_closes i child f)

  split_starts : (i : ℕ) → IsAt t.main i ops.Split → Starts t.main i
  split_starts i here = record { within = here.within; is = rw here.is refl }

  split_only : (i : ℕ) → IsAt t.main i ops.Split → (child : Found) → IsFound p t (i + 1) child
      → Closes t.main i (suc child.end) × IsOnlyChild t.main i (front (row_at t.main child.end))
  split_only i here child f = only i ops.Split refl refl here child f (split_starts i here)

  pub split_small : (i : ℕ) → IsAt t.main i ops.Split → (child : Found) → IsFound p t (i + 1) child → own t.main i < 2 ^ 32
  split_small i here child f = own_small p t readable i (suc child.end) (split_only i here child f).0

  one_child : (i : ℕ) (digest : List ℕ) → op_in t.main i ≡ ops.Split → s (row_at t.main i) 0 ≡ 1 → IsOnlyChild t.main i digest
      → digest ≡ front (row_at t.main i)
  one_child i digest split top (IsOnlyChild.on_one is one digest_is) = digest_is
  one_child i digest split top (IsOnlyChild.on_zero is zero_is digest_is) = absurd (omega (arith, top, zero_is))
  one_child i digest split top (IsOnlyChild.callee is digest_is) = differ (op_in t.main i) ops.Split ops.Call split is refl refl
  one_child i digest split top (IsOnlyChild.kernel is digest_is) = differ (op_in t.main i) ops.Split ops.Syscall split is refl refl
  one_child i digest split top (IsOnlyChild.target is digest_is) = differ (op_in t.main i) ops.Split ops.Dyn split is refl refl

  zero_child : (i : ℕ) (digest : List ℕ) → op_in t.main i ≡ ops.Split → s (row_at t.main i) 0 ≢ 1 → IsOnlyChild t.main i digest
      → (s (row_at t.main i) 0 ≡ 0) × (digest ≡ back (row_at t.main i))
  zero_child i digest split top (IsOnlyChild.on_one is one digest_is) = absurd (top one)
  zero_child i digest split top (IsOnlyChild.on_zero is zero_is digest_is) = (zero_is, digest_is)
  zero_child i digest split top (IsOnlyChild.callee is digest_is) = differ (op_in t.main i) ops.Split ops.Call split is refl refl
  zero_child i digest split top (IsOnlyChild.kernel is digest_is) = differ (op_in t.main i) ops.Split ops.Syscall split is refl refl
  zero_child i digest split top (IsOnlyChild.target is digest_is) = differ (op_in t.main i) ops.Split ops.Dyn split is refl refl

  pub split_one_found : (i : ℕ) → IsAt t.main i ops.Split → s (row_at t.main i) 0 ≡ 1 → (child : Found) → IsFound p t (i + 1) child
      → (found : Found) (at : ℕ) (x : AddrTree) (other : List ℕ) → found.end ≡ child.end + 1
      → placed_of found.tree ≡ placed.Split at (placed_of x) (placed.Opaque other) → at ≡ own t.main i → x ≡ child.tree
      → other ≡ back (row_at t.main i) → IsFound p t i found
  split_one_found i here top child f found at x other end_is tree_is at_is x_is other_is =
      as_found i (suc child.end) (placed.Split (own t.main i) (placed_of child.tree) (placed.Opaque (back (row_at t.main i)))) found
      (end_is ∙ add-one child.end)
      (tree_is ∙ ap (λ (n : ℕ). placed.Split n (placed_of x) (placed.Opaque other)) at_is
      ∙ ap (λ z. placed.Split (own t.main i) (placed_of z) (placed.Opaque other)) x_is
      ∙ ap (λ z. placed.Split (own t.main i) (placed_of child.tree) (placed.Opaque z)) other_is)
      (Built.split_one here top (split_only i here child f).0 (child_tree i child f)
      (one_child i (front (row_at t.main child.end)) here.is top (split_only i here child f).1))

  pub split_zero_found : (i : ℕ) → IsAt t.main i ops.Split → s (row_at t.main i) 0 ≢ 1 → (child : Found) → IsFound p t (i + 1) child
      → (found : Found) (at : ℕ) (x : AddrTree) (other : List ℕ) → found.end ≡ child.end + 1
      → placed_of found.tree ≡ placed.Split at (placed.Opaque other) (placed_of x) → at ≡ own t.main i → x ≡ child.tree
      → other ≡ front (row_at t.main i) → IsFound p t i found
  split_zero_found i here top child f found at x other end_is tree_is at_is x_is other_is =
      let known = zero_child i (front (row_at t.main child.end)) here.is top (split_only i here child f).1 in
      as_found i (suc child.end) (placed.Split (own t.main i) (placed.Opaque (front (row_at t.main i))) (placed_of child.tree)) found
      (end_is ∙ add-one child.end)
      (tree_is ∙ ap (λ (n : ℕ). placed.Split n (placed.Opaque other) (placed_of x)) at_is
      ∙ ap (λ z. placed.Split (own t.main i) (placed.Opaque other) (placed_of z)) x_is
      ∙ ap (λ z. placed.Split (own t.main i) (placed.Opaque z) (placed_of child.tree)) other_is)
      (Built.split_zero here known.0 (split_only i here child f).0 (child_tree i child f) known.1)

  -- ---- calls

  call_only : (i : ℕ) → IsAt t.main i ops.Call → (child : Found) → IsFound p t (i + 1) child
      → Closes t.main i (suc child.end) × IsOnlyChild t.main i (front (row_at t.main child.end))
  call_only i here child f = only i ops.Call refl refl here child f (record { within = here.within; is = rw here.is refl })

  called : (i : ℕ) (digest : List ℕ) (op : Op) → is_op op ops.Split ≡ false → is_op op ops.Dyn ≡ false → op_in t.main i ≡ op
      → IsOnlyChild t.main i digest
      → digest ≡ front (row_at t.main i)
  called i digest op apart known here (IsOnlyChild.on_one is one digest_is) = differ (op_in t.main i) op ops.Split here is apart refl
  called i digest op apart known here (IsOnlyChild.on_zero is zero_is digest_is) = differ (op_in t.main i) op ops.Split here is apart refl
  called i digest op apart known here (IsOnlyChild.callee is digest_is) = digest_is
  called i digest op apart known here (IsOnlyChild.kernel is digest_is) = digest_is
  called i digest op apart known here (IsOnlyChild.target is digest_is) = differ (op_in t.main i) op ops.Dyn here is known refl

  pub call_small : (i : ℕ) → IsAt t.main i ops.Call → (child : Found) → IsFound p t (i + 1) child → own t.main i < 2 ^ 32
  call_small i here child f = own_small p t readable i (suc child.end) (call_only i here child f).0

  pub call_found : (i : ℕ) → IsAt t.main i ops.Call → (child : Found) → IsFound p t (i + 1) child → (found : Found) (at : ℕ) (x : AddrTree)
      → found.end ≡ child.end + 1 → placed_of found.tree ≡ placed.Call at (placed_of x) → at ≡ own t.main i → x ≡ child.tree → IsFound p t i found
  call_found i here child f found at x end_is tree_is at_is x_is =
      as_found i (suc child.end) (placed.Call (own t.main i) (placed_of child.tree)) found (end_is ∙ add-one child.end)
      (tree_is ∙ ap (λ (n : ℕ). placed.Call n (placed_of x)) at_is ∙ ap (λ z. placed.Call (own t.main i) (placed_of z)) x_is)
      (Built.call here (call_only i here child f).0 (child_tree i child f)
      (called i (front (row_at t.main child.end)) ops.Call refl refl here.is (call_only i here child f).1))

  syscall_only : (i : ℕ) → IsAt t.main i ops.Syscall → (child : Found) → IsFound p t (i + 1) child
      → Closes t.main i (suc child.end) × IsOnlyChild t.main i (front (row_at t.main child.end))
  syscall_only i here child f = only i ops.Syscall refl refl here child f (record { within = here.within; is = rw here.is refl })

  pub syscall_small : (i : ℕ) → IsAt t.main i ops.Syscall → (child : Found) → IsFound p t (i + 1) child → own t.main i < 2 ^ 32
  syscall_small i here child f = own_small p t readable i (suc child.end) (syscall_only i here child f).0

  pub syscall_found : (i : ℕ) → IsAt t.main i ops.Syscall → (child : Found) → IsFound p t (i + 1) child → (found : Found) (at : ℕ) (x : AddrTree)
      → found.end ≡ child.end + 1 → placed_of found.tree ≡ placed.Syscall at (placed_of x) → at ≡ own t.main i → x ≡ child.tree
      → IsFound p t i found
  syscall_found i here child f found at x end_is tree_is at_is x_is =
      as_found i (suc child.end) (placed.Syscall (own t.main i) (placed_of child.tree)) found (end_is ∙ add-one child.end)
      (tree_is ∙ ap (λ (n : ℕ). placed.Syscall n (placed_of x)) at_is ∙ ap (λ z. placed.Syscall (own t.main i) (placed_of z)) x_is)
      (Built.syscall here (syscall_only i here child f).0 (child_tree i child f)
      (called i (front (row_at t.main child.end)) ops.Syscall refl refl here.is (syscall_only i here child f).1))

  -- ---- dynamic blocks

  dyn_only : (i : ℕ) → IsAt t.main i ops.Dyn → (child : Found) → IsFound p t (i + 1) child
      → Closes t.main i (suc child.end) × IsOnlyChild t.main i (front (row_at t.main child.end))
  dyn_only i here child f = only i ops.Dyn refl refl here child f (record { within = here.within; is = rw here.is refl })

  target_child : (i : ℕ) (digest : List ℕ) → op_in t.main i ≡ ops.Dyn → IsOnlyChild t.main i digest → digest ≡ called_digest (row_at t.main i)
  target_child i digest here (IsOnlyChild.on_one is one digest_is) = differ (op_in t.main i) ops.Dyn ops.Split here is refl refl
  target_child i digest here (IsOnlyChild.on_zero is zero_is digest_is) = differ (op_in t.main i) ops.Dyn ops.Split here is refl refl
  target_child i digest here (IsOnlyChild.callee is digest_is) = differ (op_in t.main i) ops.Dyn ops.Call here is refl refl
  target_child i digest here (IsOnlyChild.kernel is digest_is) = differ (op_in t.main i) ops.Dyn ops.Syscall here is refl refl
  target_child i digest here (IsOnlyChild.target is digest_is) = digest_is

  pub dyn_small : (i : ℕ) → IsAt t.main i ops.Dyn → (child : Found) → IsFound p t (i + 1) child → own t.main i < 2 ^ 32
  dyn_small i here child f = own_small p t readable i (suc child.end) (dyn_only i here child f).0

  pub dyn_found : (i : ℕ) → IsAt t.main i ops.Dyn → (child : Found) → IsFound p t (i + 1) child → (found : Found) (at : ℕ) (digest : List ℕ)
      (targets : PlacedTargets) → found.end ≡ child.end + 1 → placed_of found.tree ≡ placed.Dyn at targets
      → targets ≡ placed.placed digest (placed_of child.tree) placed.no_placed → at ≡ own t.main i
      → digest ≡ called_digest (row_at t.main i) → IsFound p t i found
  dyn_found i here child f found at digest targets end_is tree_is targets_are at_is digest_is =
      as_found i (suc child.end) (placed.Dyn (own t.main i) (placed.placed (called_digest (row_at t.main i)) (placed_of child.tree) placed.no_placed))
      found (end_is ∙ add-one child.end)
      (tree_is ∙ ap (λ (n : ℕ). placed.Dyn n targets) at_is ∙ ap (placed.Dyn (own t.main i)) targets_are
      ∙ ap (λ w. placed.Dyn (own t.main i) (placed.placed w (placed_of child.tree) placed.no_placed)) digest_is)
      (Built.dyn here (dyn_only i here child f).0 (child_tree i child f)
      (target_child i (front (row_at t.main child.end)) here.is (dyn_only i here child f).1))

  -- ---- loops that are skipped

  pub loop_bit : (i : ℕ) → IsAt t.main i ops.Loop → s (row_at t.main i) 0 ≢ 1 → s (row_at t.main i) 0 ≡ 0
  loop_bit i here other =
      bit_is (s (row_at t.main i) 0)
      ((readable.facts.shows.row_is i (omega (arith, here.within))).row.block.condition
      (ap (λ o. is_op o ops.Split || is_op o ops.Loop) here.is)) other

  pub skipped_small : (i : ℕ) → IsAt t.main i ops.Loop → s (row_at t.main i) 0 ≢ 1 → own t.main i < 2 ^ 32
  skipped_small i here other = own_small p t readable i (suc i) (readable.facts.nesting.loop_skips i here (loop_bit i here other))

  pub skipped_found : (i : ℕ) → IsAt t.main i ops.Loop → s (row_at t.main i) 0 ≢ 1 → (found : Found) (at : ℕ) (digest : List ℕ)
      → found.end ≡ i + 1 → placed_of found.tree ≡ placed.Loop at (placed.Opaque digest) → at ≡ own t.main i
      → digest ≡ front (row_at t.main i) → IsFound p t i found
  skipped_found i here other found at digest end_is tree_is at_is digest_is =
      as_found i (suc i) (placed.Loop (own t.main i) (placed.Opaque (front (row_at t.main i)))) found (end_is ∙ add-one i)
      (tree_is ∙ ap (λ (n : ℕ). placed.Loop n (placed.Opaque digest)) at_is ∙ ap (λ z. placed.Loop (own t.main i) (placed.Opaque z)) digest_is)
      (Built.loop_skipped here (loop_bit i here other) (readable.facts.nesting.loop_skips i here (loop_bit i here other)))

  -- ---- what is taken from the tape

  -- neither the row that starts a block nor its END takes anything
  pub wraps : (i : ℕ) (op : Op) → IsAt t.main i op → taken_by op (row_at t.main (suc i)) ≡ [] → (found : Found) → IsFound p t i found
      → (before behind : List ℕ) → Takes t.main (i + 1) found.end before behind → Takes t.main i (found.end + 1) before behind
  wraps i op here none found f before behind inside =
      joined t.main i (i + 1) (found.end + 1) before before behind (row_rests t.main i op before here none)
      (joined t.main (i + 1) found.end (found.end + 1) before behind behind inside
      (row_rests t.main found.end ops.End behind (found_closes i found f).ends refl))
