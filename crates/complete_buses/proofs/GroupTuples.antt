-- The tuples of groups that a row gives and asks.
use Rattle.complete_rows.proofs.Words
use Words.{◌≡◌, ℕ, suc, ◌+◌, ◌-◌, ◌<◌, ◌==◌, true, false, ◌&&◌, List, [], ◌∷◌, length, drop, take, slice_index, refl, sym, ap, ◌∙◌, arith}
use Words.{length-drop, length-take, get_or-drop, get_or-take, counted, counted-none, is_ordinary_op, Op, gc, h, ha, s, sp, groups_asked, groups_given}
use Words.{is_batch_op, opens_group, positions, rest_flag}
use Words.ops
use Words.flags
use Rattle.air_kit.specs.MainTuples.{groups_from}
use Rattle.complete_buses.proofs.Hits.{hit, one_count}

-- the positions that are left of the batch of this address
unfoldable pub positions_given : ℕ → List ℕ → List ℕ → ℕ
positions_given address [] u = 0
positions_given address (position ∷ later) u = hit (address ∷ suc (length later) ∷ position ∷ []) u + positions_given address later u

-- ---- what a batch gives

from_place : (x y : List ℕ) (q : ℕ) (places : List ℕ) (u : List ℕ) → ((j : ℕ) → j < length places → h x (q + j) ≡ slice_index places j)
    → counted (groups_from x y q (length places)) u ≡ positions_given (ha y) places u
unfolding groups_from positions_given counted hit
from_place x y q [] u shown = refl
from_place x y q (position ∷ later) u shown =
    let here : h x q ≡ position = ap (h x) (omega arith) ∙ shown 0 (omega arith) in
    let tuple = ap (λ e. hit (ha y ∷ suc (length later) ∷ e ∷ []) u) here in
    let behind = from_place x y (suc q) later u (λ j low. ap (h x) (omega arith) ∙ shown (suc j) (omega (arith, low))) in
    omega (arith, tuple, behind)

-- the positions of a batch behind the first
places_shown : (batch x : List ℕ) (n : ℕ) → length batch ≡ 8 → ((j : ℕ) → j < 8 → h x j ≡ slice_index batch j)
    → (j : ℕ) → j < length (drop 1 (take n batch)) → h x (1 + j) ≡ slice_index (drop 1 (take n batch)) j
places_shown batch x n size hash j low =
    hash (1 + j) (omega (arith, low, size, length-drop 1 (take n batch), length-take n batch))
    ∙ sym (get_or-take n batch (1 + j) 0 (omega (arith, low, length-drop 1 (take n batch), length-take n batch)))
    ∙ sym (get_or-drop 1 (take n batch) j 0)

-- ---- what a row asks

module _ (x y u : List ℕ) where
  pub none_given : {op : Op} → flags.op_of x ≡ op → is_batch_op op ≡ false → counted (groups_given x y) u ≡ 0
  unfolding groups_given
  none_given is apart = rw (is, apart) (counted-none u)

  pub push_asks : {op : Op} {address left element : ℕ} → flags.op_of x ≡ op → flags.is_op op ops.Push ≡ true → ha x ≡ address
      → gc x ≡ left → s y 0 ≡ element → counted (groups_asked x y) u ≡ hit (address ∷ left ∷ element ∷ []) u
  unfolding groups_asked
  push_asks {address = address} {left = left} {element = element} is push at many element_is =
      rw (is, push, at, many, element_is) (one_count (address ∷ left ∷ element ∷ []) u)

  pub group_asks : {op : Op} {address left element : ℕ} → flags.op_of x ≡ op → flags.is_op op ops.Push ≡ false
      → opens_group x y ≡ true → ha x ≡ address → gc x ≡ left → h y 0 ≡ element
      → counted (groups_asked x y) u ≡ hit (address ∷ left ∷ element ∷ []) u
  unfolding groups_asked
  group_asks {address = address} {left = left} {element = element} is apart opens at many element_is =
      rw (opens, is, apart, at, many, element_is) (one_count (address ∷ left ∷ element ∷ []) u)

  pub none_asked : {op : Op} → flags.op_of x ≡ op → flags.is_op op ops.Push ≡ false → opens_group x y ≡ false → counted (groups_asked x y) u ≡ 0
  unfolding groups_asked
  none_asked is apart opens = rw (opens, is, apart) (counted-none u)

  -- outside of spans nothing is asked
  pub none_outside : {op : Op} → flags.op_of x ≡ op → is_ordinary_op op ≡ false → flags.is_op op ops.Push ≡ false → counted (groups_asked x y) u ≡ 0
  none_outside is none apart = none_asked is apart (ap (λ b. b && (rest_flag x == 0) && (sp y == 1)) (ap (λ o. is_ordinary_op o) is ∙ none))

  -- a batch gives its positions behind the first
  pub batch_gives : {op : Op} {address : ℕ} (batch : List ℕ) (n : ℕ) → flags.op_of x ≡ op → is_batch_op op ≡ true → is_ordinary_op op ≡ false
      → flags.is_op op ops.Push ≡ false → ha y ≡ address → positions x - 1 ≡ length (drop 1 (take n batch)) → length batch ≡ 8
      → ((j : ℕ) → j < 8 → h x j ≡ slice_index batch j)
      → counted (groups_given x y) u ≡ counted (groups_asked x y) u + positions_given address (drop 1 (take n batch)) u
  unfolding groups_given
  batch_gives {address = address} batch n is begins outside apart at many size hash =
      let given : counted (groups_given x y) u ≡ positions_given address (drop 1 (take n batch)) u
      = rw (is, begins, many) (from_place x y 1 (drop 1 (take n batch)) u (places_shown batch x n size hash)
      ∙ ap (λ k. positions_given k (drop 1 (take n batch)) u) at) in
      omega (arith, given, none_outside is outside apart)
