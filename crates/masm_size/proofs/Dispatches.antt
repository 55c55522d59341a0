-- The extent of a dynexec's block, by those of its targets.
use Rattle.std.proofs.Common.{◌≡◌, ℕ, ◌+◌, ◌≤◌, sum, List, [], ◌∷◌, map, Some, refl, sym, ap₂, ◌∙◌, arith}
use Rattle.std.proofs.lemmas.List.Sums.{sum_by-cons}
use Rattle.std.specs.List.{AllZip}
use Rattle.masm_flat.specs.Blocks.{greatest}
use Rattle.masm_flat.specs.declared.extent.Extent.{Extent}
use Rattle.masm_size.specs.declared.shape.Size as code
use Rattle.masm_size.specs.KnownSizes.{size_at}
use Rattle.masm_size.specs.Sizes.{as_extent, extent_of}
use Rattle.masm_size.proofs.SizeLaws.{Agree}

pub sum-cons : (n : ℕ) (ns : List ℕ) → sum (n ∷ ns) ≡ n + sum ns
sum-cons n ns = sum_by-cons (λ m. m) n ns

abbrev pub target_extents : List code.Size → List ℕ → List Extent
target_extents sizes targets = map (λ place. extent_of (size_at sizes (Some place))) targets

abbrev pub sizes_sum : List code.Size → List ℕ → ℕ
sizes_sum sizes targets = sum (map (λ (e : Extent). e.operations) (target_extents sizes targets))

abbrev pub heights_most : List code.Size → List ℕ → ℕ
heights_most sizes targets = greatest (map (λ (e : Extent). e.height) (target_extents sizes targets))

-- extents that agree, one by one
agree-sum : (es fs : List Extent) → AllZip Agree es fs → sum (map (λ (e : Extent). e.operations) es) ≡ sum (map (λ (e : Extent). e.operations) fs)
agree-sum [] [] same = refl
agree-sum [] (f ∷ fs) same = absurd same
agree-sum (e ∷ es) [] same = absurd same
agree-sum (e ∷ es) (f ∷ fs) same =
    sum-cons e.operations (map (λ (x : Extent). x.operations) es)
    ∙ (ap₂ (λ m n. m + n) same.0.operations (agree-sum es fs same.1)
    ∙ sym (sum-cons f.operations (map (λ (x : Extent). x.operations) fs)))

agree-height : (es fs : List Extent) → AllZip Agree es fs → sum (map (λ (e : Extent). e.operations) es) ≤ 524288
    → greatest (map (λ (e : Extent). e.height) es) ≡ greatest (map (λ (e : Extent). e.height) fs)
agree-height [] [] same few = refl
agree-height [] (f ∷ fs) same few = absurd same
agree-height (e ∷ es) [] same few = absurd same
agree-height (e ∷ es) (f ∷ fs) same few =
    let all = sum-cons e.operations (map (λ (x : Extent). x.operations) es) in
    let first = same.0.height (omega arith) in
    let rest = agree-height es fs same.1 (omega arith) in omega arith

pub agree-dyn : (es fs : List Extent) → AllZip Agree es fs → Agree (as_extent.dyn es) (as_extent.dyn fs)
agree-dyn es fs same =
    let operations = agree-sum es fs same in record {
      operations = omega arith;
      height = λ few. let height = agree-height es fs same (omega arith) in omega arith;
    }
