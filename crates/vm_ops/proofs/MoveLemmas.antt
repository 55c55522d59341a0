-- The table's numbers are small.
use Rattle.std.proofs.Common.{◌≡◌, ℕ, ◌+◌, ◌<◌, ◌≤◌, ◌&&◌, Bool, true, false, nat_lt, List, [], ◌∷◌, length, get_or, zero, suc, refl, arith, lit≤}
use Rattle.std.proofs.lemmas.Bool.{ltb-true}
use Rattle.std.specs.List.{All, list_all}
use Rattle.vm_ops.specs.declared.op.Op.{Op}
use Rattle.vm_ops.specs.declared.op.Op.TheVariants.{Noop}
use Rattle.vm_ops.specs.declared.op.Shift.{Shift}
use Rattle.vm_ops.specs.declared.op.Shift.TheVariants.{Left, Stay, Right}
use Rattle.vm_ops.specs.Moves.{takes_of, leaves_of, shift_of, sources_of}
use Rattle.vm_ops.specs.Values.{advice_of}

pub takes_of-below : (op : Op) → takes_of op ≤ 16
takes_of-below Noop = lit≤ tt
takes_of-below _ = lit≤ tt

pub leaves_of-below : (op : Op) → leaves_of op ≤ 16
leaves_of-below Noop = lit≤ tt
leaves_of-below _ = lit≤ tt

pub length-sources_of : (op : Op) → length (sources_of op) ≤ 16
length-sources_of Noop = lit≤ tt
length-sources_of _ = lit≤ tt

pub advice_of-below : (op : Op) → advice_of op ≤ 4
advice_of-below Noop = lit≤ tt
advice_of-below _ = lit≤ tt

all_by : (first rest : Bool) (x : ℕ) (xs : List ℕ) → nat_lt x 16 ≡ first → first && rest ≡ true → (rest ≡ true → All (λ i. i < 16) xs)
    → All (λ i. i < 16) (x ∷ xs)
all_by true rest x xs e both later = λ k d l. at k d l
  where
    at : (k d : ℕ) → k < length (x ∷ xs) → get_or (x ∷ xs) k d < 16
    at zero d l = ltb-true x 16 e
    at (suc k) d l = later both k d (omega arith)
all_by false rest x xs e both later = cc

all_visible : (xs : List ℕ) → list_all (λ i. nat_lt i 16) xs ≡ true → All (λ i. i < 16) xs
all_visible [] e = λ k d l. absurd (omega arith)
all_visible (x ∷ xs) e = all_by (nat_lt x 16) (list_all (λ i. nat_lt i 16) xs) x xs refl e (all_visible xs)

sources_of-tested : (op : Op) → list_all (λ i. nat_lt i 16) (sources_of op) ≡ true
sources_of-tested Noop = refl
sources_of-tested _ = refl

pub sources_of-visible : (op : Op) → All (λ i. i < 16) (sources_of op)
sources_of-visible op = all_visible (sources_of op) (sources_of-tested op)

-- what a shift says of the cells taken and left
abbrev pub ByOne : Shift → ℕ → ℕ → Type 0
ByOne Left taken left = taken ≡ left + 1
ByOne Stay taken left = taken ≡ left
ByOne Right taken left = left ≡ taken + 1

pub shift_of-by_one : (op : Op) → ByOne (shift_of op) (takes_of op) (leaves_of op)
shift_of-by_one Noop = refl
shift_of-by_one _ = refl

pub ruleset move_bounds = (takes_of-below, leaves_of-below, length-sources_of, advice_of-below, sources_of-visible)
