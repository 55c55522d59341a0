-- Lists of elements, and what is made of them.
use Rattle.std.proofs.Common.{◌≡◌, ℕ, zero, suc, ◌-◌, ◌<◌, ◌≤◌, max, ◌⊎◌, inl, inr, Bool, true, false, cond, List, [], ◌∷◌, ◌++◌, length, map, take, drop, reverse, replicate, slice_index, refl, arith, lit<}
use Rattle.std.proofs.lemmas.List.{get_or-reverse, get_or_past, length-append, length-replicate, length-reverse}
use Rattle.std.proofs.lemmas.List.Elements.{All-append, All-cons, All-drop, All-nil, All-replicate, All-take}
use Rattle.vm_field.specs.Field.{prime, AreElements}
use Rattle.vm_field.specs.Machine.{IsWord, filled_up, zero_word}

-- past the end there is 0
pub elements-index : (xs : List ℕ) (i : ℕ) → AreElements xs → slice_index xs i < prime
elements-index xs i below = go within
  where
    within : (i < length xs) ⊎ (length xs ≤ i)
    within = grind arith

    go : (i < length xs) ⊎ (length xs ≤ i) → slice_index xs i < prime
    go (inl h) = below i 0 h
    go (inr h) = rw (get_or_past xs i 0 h) (lit< tt)

pub elements-cons : (e : ℕ) (es : List ℕ) → e < prime → AreElements es → AreElements (e ∷ es)
elements-cons e es low below = All-cons (λ e. e < prime) e es low below

pub elements-none : AreElements []
elements-none = All-nil (λ e. e < prime)

pub elements-one : (a : ℕ) → a < prime → AreElements (a ∷ [])
elements-one a low = elements-cons a [] low elements-none

pub elements-two : (a b : ℕ) → a < prime → b < prime → AreElements (a ∷ b ∷ [])
elements-two a b low below = elements-cons a (b ∷ []) low (elements-one b below)

pub elements-append : (xs ys : List ℕ) → AreElements xs → AreElements ys → AreElements (xs ++ ys)
elements-append xs ys = All-append (λ e. e < prime) xs ys

pub elements-take : (n : ℕ) (xs : List ℕ) → AreElements xs → AreElements (take n xs)
elements-take n xs = All-take (λ e. e < prime) n xs

pub elements-drop : (n : ℕ) (xs : List ℕ) → AreElements xs → AreElements (drop n xs)
elements-drop n xs = All-drop (λ e. e < prime) n xs

pub elements-reverse : (xs : List ℕ) → AreElements xs → AreElements (reverse xs)
elements-reverse xs below k d h =
    let within : k < length xs = omega (arith, length-reverse {A = ℕ}) in
    rw (get_or-reverse xs k d within) (below (length xs - 1 - k) d (omega arith))

pub elements-cond : (test : Bool) (xs ys : List ℕ) → AreElements xs → AreElements ys → AreElements (cond test xs ys)
elements-cond true xs ys below other = below
elements-cond false xs ys below other = other

pub elements-replicate : (n : ℕ) → AreElements (replicate n 0)
elements-replicate n = All-replicate (λ e. e < prime) n 0 (lit< tt)

pub elements-filled_up : (cells : List ℕ) → AreElements cells → AreElements (filled_up cells)
elements-filled_up cells below =
    elements-append cells (replicate (16 - length cells) 0) below (elements-replicate (16 - length cells))

-- the elements at places that are picked
pub elements-picked : (xs places : List ℕ) → AreElements xs → AreElements (map (slice_index xs) places)
elements-picked xs [] below = elements-none
elements-picked xs (i ∷ places) below =
    elements-cons (slice_index xs i) (map (slice_index xs) places) (elements-index xs i below) (elements-picked xs places below)

-- zeros are 0 at each place, and past their end
pub index-zeros : (n k : ℕ) → slice_index (replicate n 0) k ≡ 0
index-zeros zero k = refl
index-zeros (suc n) zero = refl
index-zeros (suc n) (suc k) = index-zeros n k

pub word-of : (a b c d : ℕ) → a < prime → b < prime → c < prime → d < prime → IsWord (a ∷ b ∷ c ∷ d ∷ [])
word-of a b c d l m n o = record {
  size = refl;
  below = elements-cons a (b ∷ c ∷ d ∷ []) l (elements-cons b (c ∷ d ∷ []) m (elements-two c d n o));
}

-- four elements make a word again
pub word-is : (w : List ℕ) (a b c d : ℕ) → length w ≡ 4 → a ≡ slice_index w 0 → b ≡ slice_index w 1 → c ≡ slice_index w 2 → d ≡ slice_index w 3
    → a ∷ b ∷ c ∷ d ∷ [] ≡ w
word-is (i ∷ j ∷ k ∷ l ∷ []) a b c d size ea eb ec ed = cc
word-is (i ∷ j ∷ k ∷ l ∷ m ∷ w) a b c d size ea eb ec ed = absurd (omega (arith, size))
word-is _ a b c d size ea eb ec ed = absurd (omega (arith, size))

pub word-again : (w : List ℕ) → length w ≡ 4 → slice_index w 0 ∷ slice_index w 1 ∷ slice_index w 2 ∷ slice_index w 3 ∷ [] ≡ w
word-again w size = word-is w (slice_index w 0) (slice_index w 1) (slice_index w 2) (slice_index w 3) size refl refl refl refl

pub word-zero : IsWord zero_word
word-zero = record { size = refl; below = elements-replicate 4 }

pub length-filled_up : (cells : List ℕ) → length (filled_up cells) ≡ max 16 (length cells)
length-filled_up cells = rw (length-append, length-replicate) (omega arith)
