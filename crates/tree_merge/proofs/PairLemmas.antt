-- Hashes of different inputs that have one digest.
use Rattle.std.proofs.Common.{◌≡◌, ℕ, ◌<◌, ◌≤◌, min, max, List, Option, None, Some, ◌⊎◌, inl, inr, sym, ap, subst, ◌∙◌, arith}
use Rattle.std.proofs.lemmas.Bool.{cases_lt}
use Rattle.vm_field.specs.Sponge.{HashInput}
use Rattle.tree_merge.specs.Pairs.{Differs, IsPair}

abbrev input_in : HashInput → Option HashInput → HashInput
input_in other (Some input) = input
input_in other None = other

pub some-input : (a b : HashInput) → Some a ≡ Some b → a ≡ b
some-input a b e = ap (input_in a) e

min-lt : (a b : ℕ) → a < b → min a b ≡ a
min-lt a b l = omega arith

max-lt : (a b : ℕ) → a < b → max a b ≡ b
max-lt a b l = omega arith

min-gt : (a b : ℕ) → b < a → min a b ≡ b
min-gt a b l = omega arith

max-gt : (a b : ℕ) → b < a → max a b ≡ a
max-gt a b l = omega arith

below : (a b : ℕ) → b ≤ a → (a ≡ b → ⊥) → b < a
below a b l ne = omega arith

module _ (constants : List ℕ) (comp : ℕ → Option HashInput) where
  pub differs-turned : (p q : ℕ) → Differs constants comp p q → Differs constants comp q p
  differs-turned p q d = record {
    one = d.other;
    other = d.one;
    one_is = d.other_is;
    other_is = d.one_is;
    differ = λ e. d.differ (sym e);
    digest = sym d.digest;
  }

  pub differs-apart : (p q : ℕ) → Differs constants comp p q → p ≡ q → ⊥
  differs-apart p q d e = d.differ (some-input d.one d.other (sym d.one_is ∙ ap comp e ∙ d.other_is))

  in-order : (p q a b : ℕ) → a ≡ p → b ≡ q → p < q → Differs constants comp p q → IsPair constants comp a b
  in-order p q a b e f l d =
      subst (λ x. IsPair constants comp x b) (sym e) (subst (λ y. IsPair constants comp p y) (sym f) (record { ordered = l; differs = d }))

  pub differs-pair : (p q : ℕ) → Differs constants comp p q → IsPair constants comp (min p q) (max p q)
  differs-pair p q d = from (cases_lt p q)
    where
      from : (p < q) ⊎ (q ≤ p) → IsPair constants comp (min p q) (max p q)
      from (inl l) = in-order p q _ _ (min-lt p q l) (max-lt p q l) l d
      from (inr l) =
          let m : q < p = below p q l (differs-apart p q d) in
          in-order q p _ _ (min-gt p q m) (max-gt p q m) m (differs-turned p q d)
