-- Loops that add to a list what each item of another one gives.
use Rattle.std.proofs.Common.{All, ◌≡◌, ℕ, ◌+◌, ◌<◌, ◌≤◌, List, [], ◌∷◌, ◌++◌, length, get_or, drop, sym, subst, ap, ap₂, ◌∙◌, append_assoc, add-one, drop-cons}
use Rattle.std.proofs.lemmas.List.{append-nil, drop_all}
use Rattle.std.proofs.lemmas.List.Elements.{All-cons, All-head, All-nil, All-tail}

-- the item at a place, and what is behind it
pub suffix : {X : Type 0} (xs : List X) (i : ℕ) (x : X) → i < length xs → x ≡ get_or xs i x → drop i xs ≡ x ∷ drop (i + 1) xs
suffix xs i x within is = drop-cons xs i x within ∙ ap₂ (λ y (n : ℕ). y ∷ drop n xs) (sym is) (sym (add-one i))

pub step : {X Y : Type 0} (f : List X → List Y) (g : X → List X → List Y) → ((x : X) (later : List X) → f (x ∷ later) ≡ g x later ++ f later)
    → (xs : List X) (i : ℕ) (x : X) (done more : List Y) → i < length xs → x ≡ get_or xs i x → more ≡ done ++ g x (drop (i + 1) xs)
    → more ++ f (drop (i + 1) xs) ≡ done ++ f (drop i xs)
step f g gives xs i x done more within is added =
    let later = drop (i + 1) xs in
    ap (λ ys. ys ++ f later) added ∙ append_assoc done (g x later) (f later)
    ∙ ap (λ ys. done ++ ys) (sym (gives x later) ∙ ap f (sym (suffix xs i x within is)))

pub ended : {X Y : Type 0} (f : List X → List Y) → f [] ≡ [] → (xs : List X) (i : ℕ) (done : List Y) → length xs ≤ i
    → done ++ f (drop i xs) ≡ done
ended f none xs i done past = ap (λ ys. done ++ f ys) (drop_all i xs past) ∙ ap (λ ys. done ++ ys) none ∙ append-nil done

-- what holds of each item of two lists holds of each item of the first, and of the second
first-all : {Y : Type 0} (P : Y → Type 0) (xs ys : List Y) → All P (xs ++ ys) → All P xs
first-all P [] ys h = All-nil P
first-all P (x ∷ xs) ys h = All-cons P x xs (All-head P x (xs ++ ys) h) (first-all P xs ys (All-tail P x (xs ++ ys) h))

second-all : {Y : Type 0} (P : Y → Type 0) (xs ys : List Y) → All P (xs ++ ys) → All P ys
second-all P [] ys h = h
second-all P (x ∷ xs) ys h = second-all P xs ys (All-tail P x (xs ++ ys) h)

-- what holds of all that such a loop adds holds of what one item gives
pub step-all : {X Y : Type 0} (P : Y → Type 0) (f : List X → List Y) (g : X → List X → List Y)
    → ((x : X) (later : List X) → f (x ∷ later) ≡ g x later ++ f later)
    → (xs : List X) (i : ℕ) (x : X) (done all : List Y) → i < length xs → x ≡ get_or xs i x → done ++ f (drop i xs) ≡ all → All P all
    → All P (g x (drop (i + 1) xs))
step-all P f g gives xs i x done all within is whole holds =
    let later = drop (i + 1) xs in
    first-all P (g x later) (f later)
    (subst (All P) (ap f (suffix xs i x within is) ∙ gives x later) (second-all P done (f (drop i xs)) (subst (All P) (sym whole) holds)))
