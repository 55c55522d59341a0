-- The limbs of memory's rows: 16 bits each, and what the range table is asked for them.
use Rattle.fill_chips.proofs.Words.{◌≡◌, ℕ, suc, ◌+◌, ◌*◌, ◌<◌, List, [], ◌∷◌, ◌++◌, length, map, All, refl, sym, ap, ap₂, ◌∙◌, arith, append_assoc}
use Rattle.fill_chips.proofs.Words.{map-append, All-cons, All-nil, counted, once, over_rows, counted-none, counted-append, memory_ranges, HasLimbs, HaveLimbs}
use Rattle.fill_chips.proofs.Words.{limbs_in, limbs_of_access}
use Rattle.chip_columns.specs.MemoryColumns.{d0, d1, a0, a1}
use Rattle.fill_chips.proofs.GivenLemmas.{over-cons, over-none}

pub limbs-push : (rows : List (List ℕ)) (row : List ℕ) → limbs_in (rows ++ row ∷ []) ≡ limbs_in rows ++ limbs_of_access row
unfolding limbs_in
limbs-push [] row = refl
limbs-push (x ∷ rows) row = ap (λ limbs. limbs_of_access x ++ limbs) (limbs-push rows row) ∙ sym (append_assoc (limbs_of_access x) (limbs_in rows) (limbs_of_access row))

pub limbs-count : (rows : List (List ℕ)) → length (limbs_in rows) ≡ 4 * length rows
unfolding limbs_in
limbs-count [] = refl
limbs-count (row ∷ rows) = let later = limbs-count rows in omega (arith, later)

pub limbs-small : (rows : List (List ℕ)) → HaveLimbs rows → All (λ v. v < 65536) (limbs_in rows)
unfolding limbs_in
limbs-small [] have = All-nil (λ v. v < 65536)
limbs-small (row ∷ rows) have =
    let here : HasLimbs row = have 0 (omega arith) in
    let later = limbs-small rows (λ i within. have (suc i) (omega (arith, within))) in
    All-cons (λ v. v < 65536) (d0 row) (d1 row ∷ a0 row ∷ a1 row ∷ limbs_in rows) here.d0_small
    (All-cons (λ v. v < 65536) (d1 row) (a0 row ∷ a1 row ∷ limbs_in rows) here.d1_small
    (All-cons (λ v. v < 65536) (a0 row) (a1 row ∷ limbs_in rows) here.a0_small
    (All-cons (λ v. v < 65536) (a1 row) (limbs_in rows) here.a1_small later)))

row-asks : (row : List ℕ) (u : List ℕ) → counted (map (λ v. once (v ∷ [])) (limbs_of_access row)) u ≡ counted (memory_ranges row) u
unfolding memory_ranges
row-asks row u = refl

-- two lists of values ask what each of them asks
pub asked-both : (xs ys u : List ℕ)
    → counted (map (λ v. once (v ∷ [])) (xs ++ ys)) u ≡ counted (map (λ v. once (v ∷ [])) xs) u + counted (map (λ v. once (v ∷ [])) ys) u
asked-both xs ys u =
    ap (λ tuples. counted tuples u) (map-append (λ (v : ℕ). once (v ∷ [])) xs ys)
    ∙ counted-append (map (λ (v : ℕ). once (v ∷ [])) xs) (map (λ (v : ℕ). once (v ∷ [])) ys) u

pub limbs-asked : (rows : List (List ℕ)) (u : List ℕ)
    → counted (map (λ v. once (v ∷ [])) (limbs_in rows)) u ≡ over_rows (λ i x next. memory_ranges x) rows u
unfolding limbs_in
limbs-asked [] u = counted-none u ∙ sym (over-none (λ i x next. memory_ranges x) u)
limbs-asked (row ∷ rows) u =
    asked-both (limbs_of_access row) (limbs_in rows) u ∙ ap₂ (λ m n. m + n) (row-asks row u) (limbs-asked rows u)
    ∙ sym (over-cons memory_ranges row rows u)
