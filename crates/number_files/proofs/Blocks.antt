-- Blocks of eight, absorbed one after another.
use Rattle.std.proofs.Common.{◌≡◌, ℕ, zero, suc, ◌+◌, ◌-◌, ◌*◌, ◌<◌, ◌≤◌, List, take, drop, refl, sym, ap, ◌∙◌, arith}
use Rattle.std.specs.Prelude.{fold}
use Rattle.std.proofs.lemmas.List.{drop-drop}
use Rattle.number_files.specs.Hashing.{blocks_of}

-- the state so far goes on through the blocks that are left to what all blocks give
abbrev pub Absorbs : (List ℕ → List ℕ → List ℕ) → List ℕ → ℕ → List ℕ → ℕ → List ℕ → Type 0
Absorbs f begun m elements k state = fold f state (blocks_of (m - k) (drop (8 * k) elements)) ≡ fold f begun (blocks_of m elements)

pub begins : (f : List ℕ → List ℕ → List ℕ) (begun : List ℕ) (m : ℕ) (elements : List ℕ) → Absorbs f begun m elements 0 begun
begins f begun m elements = ap (λ j. fold f begun (blocks_of j elements)) (same m)
  where
    same : (m : ℕ) → m - 0 ≡ m
    same m = omega arith

step : (f : List ℕ → List ℕ → List ℕ) (state : List ℕ) (j i : ℕ) (es : List ℕ) → j ≡ i + 1
    → fold f state (blocks_of j es) ≡ fold f (f state (take 8 es)) (blocks_of i (drop 8 es))
unfolding blocks_of
step f state zero i es one = absurd (omega arith)
step f state (suc j) i es one = ap (λ n. fold f (f state (take 8 es)) (blocks_of n (drop 8 es))) same
  where
    same : j ≡ i
    same = omega arith

pub goes_on : (f : List ℕ → List ℕ → List ℕ) (begun : List ℕ) (m : ℕ) (elements : List ℕ) (k : ℕ) (state : List ℕ) → k < m
    → Absorbs f begun m elements k state → Absorbs f begun m elements (k + 1) (f state (take 8 (drop (8 * k) elements)))
goes_on f begun m elements k state within goes =
    sym (step f state (m - k) (m - (k + 1)) (drop (8 * k) elements) (omega arith)
    ∙ ap (λ es. fold f next (blocks_of (m - (k + 1)) es)) (drop-drop 8 (8 * k) elements)
    ∙ ap (λ n. fold f next (blocks_of (m - (k + 1)) (drop n elements))) further)
    ∙ goes
  where
    next : List ℕ
    next = f state (take 8 (drop (8 * k) elements))

    further : 8 * k + 8 ≡ 8 * (k + 1)
    further = omega arith

none_left : (f : List ℕ → List ℕ → List ℕ) (state : List ℕ) (j : ℕ) (es : List ℕ) → j ≡ 0 → fold f state (blocks_of j es) ≡ state
unfolding blocks_of
none_left f state zero es none = refl
none_left f state (suc j) es none = absurd (omega arith)

pub ends : (f : List ℕ → List ℕ → List ℕ) (begun : List ℕ) (m : ℕ) (elements : List ℕ) (k : ℕ) (state : List ℕ) → m ≤ k
    → Absorbs f begun m elements k state → state ≡ fold f begun (blocks_of m elements)
ends f begun m elements k state past goes = sym (none_left f state (m - k) (drop (8 * k) elements) (omega arith)) ∙ goes
