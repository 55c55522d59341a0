-- States filled one after another, pieces put together, and rounds one behind the other.
use Rattle.fill_chips.proofs.Words.{◌≡◌, ℕ, ◌+◌, ◌-◌, ◌*◌, ◌/◌, ◌<◌, ◌≤◌, min, List, ◌++◌, length, get_or, take, drop, sym, ap, ap₂, ◌∙◌}
use Rattle.fill_chips.proofs.Words.{arith, inl, inr, length-take, length-drop, cases_lt, map-append, drop-drop, get_or-map, take-add, take_all, cut_at}
use Rattle.fill_chips.proofs.Words.{cut_grows, cut_starts, cut_ends, round_states, Perm, states_of}
use Rattle.fill_chips.specs.Rounds.{between}

between_joined : {A : Type 0} (i m j : ℕ) (xs : List A) → i ≤ m → m ≤ j → between i m xs ++ between m j xs ≡ between i j xs
unfolding between
between_joined i m j xs low high =
    let size : j - i ≡ (m - i) + (j - m) = omega (arith, low, high) in
    let at : i + (m - i) ≡ m = omega (arith, low) in
    sym (ap (λ n. take n (drop i xs)) size ∙ take-add (m - i) (j - m) (drop i xs)
    ∙ ap (λ ys. take (m - i) (drop i xs) ++ take (j - m) ys) (drop-drop (m - i) i xs ∙ ap (λ n. drop n xs) at))

between_all : {A : Type 0} (xs : List A) → between 0 (length xs) xs ≡ xs
unfolding between
between_all xs = take_all (length xs - 0) (drop 0 xs) (omega (arith, length-drop 0 xs))

-- both halves are filled
pub halves_filled : (constants : List ℕ) (i m j : ℕ) (perms : List Perm) (lower upper : List (List (List ℕ))) → i ≤ m → m ≤ j
    → lower ≡ states_of constants (between i m perms) → upper ≡ states_of constants (between m j perms)
    → lower ++ upper ≡ states_of constants (between i j perms)
halves_filled constants i m j perms lower upper low high first second =
    ap₂ ◌++◌ first second ∙ sym (map-append (λ p. round_states constants p.start) (between i m perms) (between m j perms))
    ∙ ap (states_of constants) (between_joined i m j perms low high)

pub le_from : {a b x y : ℕ} → a ≡ x → b ≡ y → x ≤ y → a ≤ b
le_from e f h = omega (arith, e, f, h)

low_middle : (low high : ℕ) → low < high → low ≤ low + (high - low) / 2
low_middle low high h = omega arith

middle_high : (low high : ℕ) → low < high → low + (high - low) / 2 ≤ high
middle_high low high h = omega (arith, h)

-- the cuts of a part's two halves stand in order
pub cuts_grow : (low high n k : ℕ) → low < high → high ≤ k
    → (cut_at low n k ≤ cut_at (low + (high - low) / 2) n k) × (cut_at (low + (high - low) / 2) n k ≤ cut_at high n k)
cuts_grow low high n k some within =
    let few : 0 < k = omega (arith, some, within) in
    (cut_grows low (low + (high - low) / 2) n k (low_middle low high some) few, cut_grows (low + (high - low) / 2) high n k (middle_high low high some) few)

-- how long the halves are
pub part_fits : {a b c from to n : ℕ} → from ≡ a → to ≡ b → a ≤ b → b ≤ c → a + n ≡ c → to - from ≤ n
part_fits e f h k room = omega (arith, e, f, h, k, room)

pub first_length : {a b from to m : ℕ} → from ≡ a → to ≡ b → a ≤ b → m ≡ to - from → a + m ≡ b
first_length e f h is = omega (arith, e, f, h, is)

pub second_length : {a b c from to n : ℕ} (m : ℕ) → from ≡ a → to ≡ b → a ≤ b → b ≤ c → a + n ≡ c → m + (to - from) ≡ n → b + m ≡ c
second_length m e f h k room is = omega (arith, e, f, h, k, room, is)

-- a piece of the list, where the bounds are known
pub piece_filled : (constants : List ℕ) (from to a b : ℕ) (perms : List Perm) (states : List (List (List ℕ))) → from ≡ a → to ≡ b
    → states ≡ states_of constants (take (to - from) (drop from perms)) → states ≡ states_of constants (between a b perms)
unfolding between
piece_filled constants from to a b perms states e f is = is ∙ ap₂ (λ x y. states_of constants (take (y - x) (drop x perms))) e f

-- all pieces are the round
pub whole_round : (constants : List ℕ) (k : ℕ) (perms : List Perm) (filled : List (List (List ℕ))) → 0 < k
    → filled ≡ states_of constants (between (cut_at 0 (length perms) k) (cut_at k (length perms) k) perms) → filled ≡ states_of constants perms
whole_round constants k perms filled some is =
    is ∙ ap₂ (λ i j. states_of constants (between i j perms)) (cut_starts (length perms) k some) (cut_ends (length perms) k some)
    ∙ ap (states_of constants) (between_all perms)

-- all pieces have the room of the round
pub round_room : (k m : ℕ) (room : List (List (List ℕ))) → 0 < k → m ≤ length room → cut_at 0 m k + length (take m room) ≡ cut_at k m k
round_room k m room some enough =
    let start = cut_starts m k some in
    let end = cut_ends m k some in
    omega (arith, start, end, length-take m room, enough)

-- the rounds so far, and one more
pub round_more : {A : Type 0} (k to : ℕ) (xs : List A) → k * 1024 < length xs → to ≡ min (k * 1024 + 1024) (length xs)
    → take ((k + 1) * 1024) xs ≡ take (k * 1024) xs ++ take (to - k * 1024) (drop (k * 1024) xs)
round_more k to xs inside end =
    let more : (k + 1) * 1024 ≡ k * 1024 + 1024 = omega arith in
    let part : take 1024 (drop (k * 1024) xs) ≡ take (to - k * 1024) (drop (k * 1024) xs) = elim (cases_lt (k * 1024 + 1024) (length xs)) [
      | inl low ↦ let e : 1024 ≡ to - k * 1024 = omega (arith, low, end) in ap (λ n. take n (drop (k * 1024) xs)) e
      | inr high ↦
          take_all 1024 (drop (k * 1024) xs) (omega (arith, high, length-drop (k * 1024) xs))
          ∙ sym (take_all (to - k * 1024) (drop (k * 1024) xs) (omega (arith, high, end, length-drop (k * 1024) xs)))
    ] in
    ap (λ n. take n xs) more ∙ take-add (k * 1024) 1024 xs ∙ ap (λ p. take (k * 1024) xs ++ p) part

-- the state that stands for a permutation
pub state_of_index : (constants : List ℕ) (perms : List Perm) (states : List (List (List ℕ))) (i : ℕ) (state : List (List ℕ)) (perm : Perm)
    → i < length perms → states ≡ states_of constants perms → state ≡ get_or states i state → perm ≡ get_or perms i perm
    → state ≡ round_states constants perm.start
state_of_index constants perms states i state perm inside are at place =
    at ∙ ap (λ s. get_or s i state) are ∙ get_or-map (λ p. round_states constants p.start) perms i perm state inside
    ∙ ap (λ (p : Perm). round_states constants p.start) (sym place)
