-- What the first and the last row of a permutation give, by the row's flags.
use Rattle.std.proofs.Common.{◌≡◌, ◌≢◌, ℕ, suc, ◌%◌, ◌==◌, true, false, List, [], ◌∷◌, refl, sym, ap, ◌∙◌}
use Rattle.std.proofs.lemmas.Bool.{eqb-true}
use Rattle.air_kit.specs.ChipTuples.{absorbed_part, digest_part, hasher_given, permutation_begins, permutation_ends, whole_part}
use Rattle.buses.specs.Counts.{once}
use Rattle.chip_columns.specs.HasherColumns as hasher

pub begins_permutation : (address : ℕ) (row t : List ℕ) (m0 : ℕ)
    → true ≡ (m0 == 1) → m0 ≡ hasher.mode row
    → t ≡ 4 ∷ address ∷ whole_part row → once t ∷ [] ≡ permutation_begins address row
unfolding permutation_begins
begins_permutation address row t m0 yes0 is0 tuple =
    let test0 : (hasher.mode row == 1) ≡ true = ap (λ k. k == 1) (sym is0) ∙ sym yes0 in
    rw (test0) (ap (λ k. once k ∷ []) tuple)

pub begins_again : (address : ℕ) (row t : List ℕ) (m0 : ℕ) (m1 : ℕ)
    → false ≡ (m0 == 1) → m0 ≡ hasher.mode row
    → true ≡ (m1 == 1) → m1 ≡ hasher.cont row
    → t ≡ 2 ∷ address ∷ absorbed_part row → once t ∷ [] ≡ permutation_begins address row
unfolding permutation_begins
begins_again address row t m0 m1 yes0 is0 yes1 is1 tuple =
    let test0 : (hasher.mode row == 1) ≡ false = ap (λ k. k == 1) (sym is0) ∙ sym yes0 in
    let test1 : (hasher.cont row == 1) ≡ true = ap (λ k. k == 1) (sym is1) ∙ sym yes1 in
    rw (test0, test1) (ap (λ k. once k ∷ []) tuple)

pub begins_hash : (address : ℕ) (row t : List ℕ) (m0 : ℕ) (m1 : ℕ)
    → false ≡ (m0 == 1) → m0 ≡ hasher.mode row
    → false ≡ (m1 == 1) → m1 ≡ hasher.cont row
    → t ≡ 1 ∷ address ∷ hasher.x row 1 ∷ absorbed_part row → once t ∷ [] ≡ permutation_begins address row
unfolding permutation_begins
begins_hash address row t m0 m1 yes0 is0 yes1 is1 tuple =
    let test0 : (hasher.mode row == 1) ≡ false = ap (λ k. k == 1) (sym is0) ∙ sym yes0 in
    let test1 : (hasher.cont row == 1) ≡ false = ap (λ k. k == 1) (sym is1) ∙ sym yes1 in
    rw (test0, test1) (ap (λ k. once k ∷ []) tuple)

pub ends_permutation : (address : ℕ) (row t : List ℕ) (m0 : ℕ)
    → true ≡ (m0 == 1) → m0 ≡ hasher.mode row
    → t ≡ 5 ∷ address ∷ whole_part row → once t ∷ [] ≡ permutation_ends address row
unfolding permutation_ends
ends_permutation address row t m0 yes0 is0 tuple =
    let test0 : (hasher.mode row == 1) ≡ true = ap (λ k. k == 1) (sym is0) ∙ sym yes0 in
    rw (test0) (ap (λ k. once k ∷ []) tuple)

pub ends_hash : (address : ℕ) (row t : List ℕ) (m0 : ℕ) (m1 : ℕ)
    → false ≡ (m0 == 1) → m0 ≡ hasher.mode row
    → true ≡ (m1 == 0) → m1 ≡ hasher.more row
    → t ≡ 3 ∷ address ∷ digest_part row → once t ∷ [] ≡ permutation_ends address row
unfolding permutation_ends
ends_hash address row t m0 m1 yes0 is0 yes1 is1 tuple =
    let test0 : (hasher.mode row == 1) ≡ false = ap (λ k. k == 1) (sym is0) ∙ sym yes0 in
    let test1 : (hasher.more row == 0) ≡ true = ap (λ k. k == 0) (sym is1) ∙ sym yes1 in
    rw (test0, test1) (ap (λ k. once k ∷ []) tuple)

pub ends_nothing : (address : ℕ) (row : List ℕ) (m0 : ℕ) (m1 : ℕ)
    → false ≡ (m0 == 1) → m0 ≡ hasher.mode row
    → false ≡ (m1 == 0) → m1 ≡ hasher.more row → [] ≡ permutation_ends address row
unfolding permutation_ends
ends_nothing address row m0 m1 yes0 is0 yes1 is1 =
    let test0 : (hasher.mode row == 1) ≡ false = ap (λ k. k == 1) (sym is0) ∙ sym yes0 in
    let test1 : (hasher.more row == 0) ≡ false = ap (λ k. k == 0) (sym is1) ∙ sym yes1 in
    rw (test0, test1) refl

test_false : (a b : ℕ) → (a ≢ b) → (a == b) ≡ false
test_false a b apart = elim (a == b) as (λ t. (a == b) ≡ t → t ≡ false) [ true ↦ λ e. absurd (apart (eqb-true a b e)) | false ↦ λ _. refl ] refl

-- a row that is neither the first nor the last of its permutation
pub gives_nothing : (i : ℕ) (row : List ℕ) → (i % 8 ≢ 0) → (i % 8 ≢ 7) → [] ≡ hasher_given i row
unfolding hasher_given
gives_nothing i row first last = rw (test_false (i % 8) 0 first, test_false (i % 8) 7 last) refl

pub gives_begin : (i address : ℕ) (row : List ℕ) → i % 8 ≡ 0 → address ≡ suc i → permutation_begins address row ≡ hasher_given i row
unfolding hasher_given
gives_begin i address row first is = rw (first, is) refl

pub gives_end : (i address : ℕ) (row : List ℕ) → i % 8 ≡ 7 → address ≡ suc i → permutation_ends address row ≡ hasher_given i row
unfolding hasher_given
gives_end i address row last is = rw (last, is) refl
