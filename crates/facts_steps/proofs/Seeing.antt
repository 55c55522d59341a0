-- What an operation sees of the state of a row.
use Rattle.facts_steps.proofs.Words
use Words.{◌≡◌, ℕ, zero, suc, ◌+◌, ◌<◌, ◌≤◌, List, [], ◌∷◌, ◌++◌, take, drop, length, slice_index, refl, ap, sym, ◌∙◌, arith, length-append, length-take-le}
use Words.{get_or_append_left, number_of_constants, word_at, IsWord, IsSeenBy, ShowTheSame, seen_at, Seen, advice_of, Item, s, depth, Elsewhere, state_of}
use Words.{cells, seen_of, function_digest}

abbrev pub seen_by : List ℕ → Item → List ℕ → Elsewhere → Seen
seen_by constants item x e = seen_at constants item (state_of x e)

-- ---- the cells of a row

-- what is so of each number below another one
abbrev pub EachBelow : ℕ → (ℕ → Type 0) → Type 0
EachBelow zero P = Unit {0}
EachBelow (suc n) P = P 0 × EachBelow n (λ j. P (suc j))

pub below_by : (n : ℕ) (P : ℕ → Type 0) → EachBelow n P → (j : ℕ) → j < n → P j
below_by zero P each j few = absurd (omega (arith, few))
below_by (suc n) P each zero few = each.0
below_by (suc n) P each (suc j) few = below_by n (λ k. P (suc k)) each.1 j (omega (arith, few))

pub cells_index : (x : List ℕ) (j : ℕ) → j < 16 → slice_index (cells x) j ≡ s x j
unfolding cells
cells_index x =
    below_by 16 (λ j. slice_index (cells x) j ≡ s x j)
    (refl, (refl, (refl, (refl, (refl, (refl, (refl, (refl, (refl, (refl, (refl, (refl, (refl, (refl, (refl, (refl, tt))))))))))))))))

pub length_cells : (x : List ℕ) → length (cells x) ≡ 16
unfolding cells
length_cells x = refl

pub take_cells : (x below : List ℕ) → take 16 (cells x ++ below) ≡ cells x
unfolding cells
take_cells x below = refl

pub drop_cells : (x below : List ℕ) → drop 16 (cells x ++ below) ≡ below
unfolding cells
drop_cells x below = refl

pub drop_most : (x below : List ℕ) → drop 15 (cells x ++ below) ≡ s x 15 ∷ below
unfolding cells
drop_most x below = refl

pub drop_more_cells : (x below : List ℕ) → drop 17 (cells x ++ below) ≡ drop 1 below
unfolding cells
drop_more_cells x [] = refl
drop_more_cells x (c ∷ below) = refl

pub top_index : (x below : List ℕ) (j : ℕ) → j < 16 → slice_index (cells x ++ below) j ≡ s x j
top_index x below j few = let count = length_cells x in get_or_append_left (cells x) below 0 j (omega (arith, few, count)) ∙ cells_index x j few

pub below_index : (x below : List ℕ) → slice_index (cells x ++ below) 16 ≡ slice_index below 0
unfolding cells
below_index x below = refl

-- ---- what is seen

pub shows_same : (constants : List ℕ) (item : Item) (x : List ℕ) (e : Elsewhere) → depth x ≡ 16 + length e.below
    → ShowTheSame (seen_by constants item x e) (seen_of x)
unfolding seen_of
shows_same constants item x e deep = record {
  clock = refl;
  fmp = refl;
  in_syscall = refl;
  digest = refl;
  depth = length-append (cells x) e.below ∙ ap (λ n. n + length e.below) (length_cells x) ∙ sym deep;
  cells = take_cells x e.below;
}

length_digest : (x : List ℕ) → length (function_digest x) ≡ 4
unfolding function_digest
length_digest x = refl

pub sized : (constants : List ℕ) (item : Item) (x : List ℕ) (e : Elsewhere) → length constants ≡ number_of_constants
    → ((context place : ℕ) → IsWord (word_at e.memory context place)) → advice_of item.op ≤ length e.tape
    → IsSeenBy item.op (seen_by constants item x e)
sized constants item x e count words enough = record {
  constants = count;
  cells = ap length (take_cells x e.below) ∙ length_cells x;
  word = (words (state_of x e).core.context (slice_index (state_of x e).core.stack 0)).size;
  digest = length_digest x;
  advice = length-take-le (advice_of item.op) e.tape enough;
}
