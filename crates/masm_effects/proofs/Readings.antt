-- The instructions that read the state, the advice, and those that hash.
use Rattle.std.proofs.Common.{◌≡◌, ℕ, ◌+◌, ◌-◌, ◌%◌, ◌≤◌, max, Bool, true, false, not, List, [], ◌++◌, length, drop, take, reverse, None, is_some, refl, ◌∙◌, ap, subst, arith}
use Rattle.vm_field.specs.Limits.{number_of_constants}
use Rattle.vm_field.specs.Field.{prime}
use Rattle.vm_ops.specs.declared.cause.Cause.TheVariants as causes
use Rattle.vm_ops.specs.Values.{or_else, unless}
use Rattle.masm_effects.specs.Effects.{listed}
use Rattle.std.proofs.Common.{add-zero, append-nil}
use Rattle.std.proofs.lemmas.List.{length-reverse}
use Rattle.vm_field.specs.Permutation.{permuted}
use Rattle.vm_field.proofs.PermutationLemmas.{length-permuted}
use Rattle.masm_effects.proofs.Alikes.{listed-all}

-- the window's depth is the stack's
pub depth-is : (depth : ℕ) → 16 ≤ depth → max 16 (24 + depth - 24) % prime ≡ depth % prime
depth-is depth deep = let same : max 16 (24 + depth - 24) ≡ depth = omega arith in ap (λ n. n % prime) same

pub clock-is : (clock : ℕ) → (clock + 0) % prime ≡ clock % prime
clock-is clock = ap (λ n. n % prime) (add-zero clock)

-- a short tape traps
pub short-alone : (short : Bool) → is_some (or_else (or_else (unless (not short) causes.AdviceEmpty) None) None) ≡ short
short-alone true = refl
short-alone false = refl

module _ (constants : List ℕ) (count : length constants ≡ number_of_constants) (xs : List ℕ) (rest : List ℕ) (twelve : length xs ≡ 12) where
  -- twelve cells, permuted
  abbrev pub permuted_cells : List ℕ
  permuted_cells = permuted constants (reverse xs)

  twelve-left : length permuted_cells ≡ 12
  twelve-left = length-permuted constants (reverse xs) count (length-reverse xs ∙ twelve)

  pub all-left : listed 12 0 (reverse permuted_cells ++ []) ++ rest ≡ reverse permuted_cells ++ rest
  all-left =
      ap (λ (ys : List ℕ). ys ++ rest) (ap (listed 12 0) (append-nil (reverse permuted_cells))
      ∙ listed-all 12 (reverse permuted_cells) (length-reverse permuted_cells ∙ twelve-left))

  -- the digest among them
  pub digest-left : listed 4 4 (reverse permuted_cells ++ []) ++ rest ≡ reverse (listed 4 0 (take 4 (drop 4 permuted_cells))) ++ rest
  digest-left =
      let P : List ℕ → Type 0 = λ ys. listed 4 4 (reverse ys ++ []) ++ rest ≡ reverse (listed 4 0 (take 4 (drop 4 ys))) ++ rest in
      subst P (listed-all 12 permuted_cells twelve-left) refl
