-- What joining blocks needs of lists.
use Rattle.masm_flat.proofs.Words.{◌≡◌, ◌≢◌, ℕ, zero, suc, ◌<◌, ◌≤◌, List, [], ◌∷◌, ◌++◌, length, refl, arith, Item, Noop, plain_item}
use Rattle.masm_flat.specs.Blocks.{span_before, paired, joined, all_joined}

module _ {A : Type 0} (span : List Item → A) (join : A → A → A) where
  pub before-some : (items : List Item) (blocks : List A) → items ≢ [] → span_before span join items blocks ≡ span items ∷ blocks
  before-some [] blocks h = absurd (h refl)
  before-some (item ∷ items) blocks h = refl

  pub before-append : (items : List Item) (blocks : List A) → span_before span join items blocks ≡ span_before span join items [] ++ blocks
  before-append [] blocks = refl
  before-append (item ∷ items) blocks = refl

  pub length-paired : (blocks : List A) → length (paired span join blocks) ≤ length blocks
  length-paired [] = omega arith
  length-paired (a ∷ []) = omega arith
  length-paired (a ∷ b ∷ blocks) = omega (arith, length-paired blocks)

  pub paired-shorter : (blocks : List A) → 1 < length blocks → length (paired span join blocks) < length blocks
  paired-shorter [] h = omega arith
  paired-shorter (a ∷ []) h = omega arith
  paired-shorter (a ∷ b ∷ blocks) h = omega (arith, length-paired blocks)

  -- more levels than are needed change nothing
  enough : (n m : ℕ) (blocks : List A) → length blocks ≤ suc n → length blocks ≤ suc m → joined span join n blocks ≡ joined span join m blocks
  enough n m [] h k = refl
  enough n m (a ∷ []) h k = refl
  enough zero m (a ∷ b ∷ blocks) h k = absurd (omega arith)
  enough (suc n) zero (a ∷ b ∷ blocks) h k = absurd (omega arith)
  enough (suc n) (suc m) (a ∷ b ∷ blocks) h k =
      enough n m (paired span join (a ∷ b ∷ blocks)) (omega (arith, length-paired blocks)) (omega (arith, length-paired blocks))

  pub joined-none : all_joined span join [] ≡ span (plain_item Noop ∷ [])
  unfolding all_joined
  joined-none = refl

  pub joined-one : (a : A) → all_joined span join (a ∷ []) ≡ a
  unfolding all_joined
  joined-one a = refl

  pub joined-next : (blocks : List A) → 1 < length blocks → all_joined span join blocks ≡ all_joined span join (paired span join blocks)
  unfolding all_joined
  joined-next [] h = absurd (omega arith)
  joined-next (a ∷ []) h = absurd (omega arith)
  joined-next (a ∷ b ∷ blocks) h =
      enough (length (b ∷ blocks)) (length (paired span join (a ∷ b ∷ blocks))) (paired span join (a ∷ b ∷ blocks))
      (omega (arith, length-paired blocks)) (omega arith)

pub ruleset spans = (before-some, before-append)

pub ruleset levels = (paired-shorter, joined-none, joined-one, joined-next)
