-- Lists that have the same element at each index, where 0 stands past the end: lists that are equal but for zeros at their
-- ends.
use Rattle.std.proofs.Common.{◌≡◌, ℕ, zero, suc, ◌+◌, ◌≤◌, List, [], ◌∷◌, ◌++◌, length, take, drop, slice_index, refl, sym, ◌∙◌, ap, arith, add-one, add-zero, add-suc, suc-add, zero-add, take_all}
use Rattle.std.proofs.lemmas.List.{drop-append-le, drop_more, ext_get_or, get_or_append_left, get_or-drop, get_or-take, length-take-le}
use Rattle.vm_field.specs.Machine.{filled_up}
use Rattle.vm_ops.proofs.FrameLemmas.{index-filled_up}
use Rattle.masm_effects.specs.Effects.{listed}

pub record Alike (xs ys : List ℕ) : Type 0 where
  pub at : (k : ℕ) → slice_index xs k ≡ slice_index ys k

pub alike-along : (xs ys zs : List ℕ) → Alike xs ys → Alike ys zs → Alike xs zs
alike-along xs ys zs a b = record { at = λ k. a.at k ∙ b.at k }

pub alike-back : (xs ys : List ℕ) → Alike xs ys → Alike ys xs
alike-back xs ys a = record { at = λ k. sym (a.at k) }

pub alike-filled_up : (xs : List ℕ) → Alike (filled_up xs) xs
alike-filled_up xs = record { at = index-filled_up xs }

index-front : (front xs ys : List ℕ) → Alike xs ys → (k : ℕ) → slice_index (front ++ xs) k ≡ slice_index (front ++ ys) k
index-front [] xs ys a k = a.at k
index-front (f ∷ front) xs ys a zero = refl
index-front (f ∷ front) xs ys a (suc k) = index-front front xs ys a k

pub alike-front : (front xs ys : List ℕ) → Alike xs ys → Alike (front ++ xs) (front ++ ys)
alike-front front xs ys a = record { at = index-front front xs ys a }

pub alike-drop : (n : ℕ) (xs ys : List ℕ) → Alike xs ys → Alike (drop n xs) (drop n ys)
alike-drop n xs ys a = record { at = λ k. get_or-drop n xs k 0 ∙ (a.at (n + k) ∙ sym (get_or-drop n ys k 0)) }

-- as long as each other, they are equal
pub alike-equal : (xs ys : List ℕ) → length xs ≡ length ys → Alike xs ys → xs ≡ ys
alike-equal xs ys same a = ext_get_or 0 xs ys same (λ k h. a.at k)

-- what an operation does to a stack, it does to a list alike
pub alike-stack : (left lefted stack cells rest : List ℕ) (n : ℕ) → lefted ≡ left → n ≤ length cells → Alike stack (cells ++ rest)
    → Alike (filled_up (left ++ drop n stack)) ((lefted ++ drop n cells) ++ rest)
alike-stack left lefted stack cells rest n same enough a =
    let below : Alike (drop n stack) (drop n cells ++ rest) =
    record { at = λ k. (alike-drop n stack (cells ++ rest) a).at k ∙ ap (λ (xs : List ℕ). slice_index xs k) (drop-append-le n cells rest enough) } in
    let whole : Alike (filled_up (left ++ drop n stack)) (left ++ (drop n cells ++ rest)) =
    alike-along _ _ _ (alike-filled_up (left ++ drop n stack)) (alike-front left _ _ below) in
    rw same (record { at = λ k. whole.at k ∙ ap (λ (xs : List ℕ). slice_index xs k) (regroup left (drop n cells) rest) })
  where
    regroup : (xs ys zs : List ℕ) → xs ++ (ys ++ zs) ≡ (xs ++ ys) ++ zs
    regroup [] ys zs = refl
    regroup (x ∷ xs) ys zs = ap (λ (more : List ℕ). x ∷ more) (regroup xs ys zs)

-- the cells that an operation sees
pub alike-top : (stack cells rest : List ℕ) → 16 ≤ length stack → 16 ≤ length cells → Alike stack (cells ++ rest)
    → take 16 stack ≡ take 16 cells
alike-top stack cells rest deep enough a =
    let first : length (take 16 stack) ≡ 16 = length-take-le 16 stack deep in
    let second : length (take 16 cells) ≡ 16 = length-take-le 16 cells enough in
    ext_get_or 0 (take 16 stack) (take 16 cells) (omega arith)
    (λ k h. get_or-take 16 stack k 0 (omega arith)
    ∙ (a.at k
    ∙ (get_or_append_left cells rest 0 k (omega arith)
    ∙ sym (get_or-take 16 cells k 0 (omega arith)))))

pub length-listed : (n k : ℕ) (xs : List ℕ) → length (listed n k xs) ≡ n
length-listed zero k xs = refl
length-listed (suc n) k xs = ap suc (length-listed n (suc k) xs)

listed-take : (n k : ℕ) (xs : List ℕ) → k + n ≤ length xs → listed n k xs ≡ take n (drop k xs)
listed-take zero k xs h = refl
listed-take (suc n) k xs h =
    let more : drop k xs ≡ slice_index xs k ∷ drop (k + 1) xs = drop_more xs k 0 (omega arith) in
    let later : listed n (suc k) xs ≡ take n (drop (suc k) xs) = listed-take n (suc k) xs (omega arith) in
    rw more (ap (λ (rest : List ℕ). slice_index xs k ∷ rest) (rw add-one later))

-- as many elements as there are at least
pub listed-front : (n : ℕ) (xs : List ℕ) → n ≤ length xs → listed n 0 xs ≡ take n xs
listed-front n xs h = listed-take n 0 xs (omega arith)

-- all elements
pub listed-all : (n : ℕ) (xs : List ℕ) → length xs ≡ n → listed n 0 xs ≡ xs
listed-all n xs h = listed-front n xs (omega arith) ∙ take_all n xs (omega arith)

index-listed : (n k : ℕ) (xs : List ℕ) (i : ℕ) → slice_index (listed n k xs ++ drop (k + n) xs) i ≡ slice_index xs (k + i)
index-listed zero k xs i = rw add-zero (get_or-drop k xs i 0)
index-listed (suc n) k xs zero = rw add-zero refl
index-listed (suc n) k xs (suc i) = rw (add-suc, add-suc, ← suc-add, ← suc-add) (index-listed n (suc k) xs i)

-- the known cells and the rest are the stack
pub alike-listed : (n : ℕ) (xs : List ℕ) → Alike (listed n 0 xs ++ drop n xs) xs
alike-listed n xs = record { at = λ i. go i }
  where
    go : (i : ℕ) → slice_index (listed n 0 xs ++ drop n xs) i ≡ slice_index xs i
    go i = rw (zero-add, zero-add) at (index-listed n 0 xs i)
