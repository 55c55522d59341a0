-- What the values of a list say together where all are 0.
use Rattle.facts_main.proofs.Words.{◌≡◌, ℕ, zero, suc, ◌<◌, List, [], ◌∷◌, ◌++◌, slice_index, refl, family, AllZero}
use Rattle.facts_main.proofs.Zeros.{zero_back, zero_both, zero_family, zero_front, zero_of_family}
use Rattle.facts_main.proofs.Says.{Says}

infixr 20 ◌▸◌ ◌⧺◌ ◌&◌
-- the values are all 0 exactly where P holds
pub record Means (values : List ℕ) (P : Type 0) : Type 0 where
  pub shown : AllZero values → P
  pub zeros : P → AllZero values

-- in other words
pub means_as : {values : List ℕ} {P Q : Type 0} → Means values P → (P → Q) → (Q → P) → Means values Q
means_as m there back = record { shown = λ z. there (m.shown z); zeros = λ q. m.zeros (back q) }

-- a fact that follows from the zeros, and from what they mean, may be used in the proof of what they mean
pub given : {values : List ℕ} {A P : Type 0} → (AllZero values → A) → (P → A) → (A → Means values P) → Means values P
given from_zeros from_facts m = record { shown = λ z. (m (from_zeros z)).shown z; zeros = λ p. (m (from_facts p)).zeros p }

pub whole : (values : List ℕ) → Means values (AllZero values)
whole values = record { shown = λ z. z; zeros = λ z. z }

pub nothing : Means [] (Unit {0})
nothing = record { shown = λ z. tt; zeros = λ h k. refl }

-- a value and those behind it, of which something may be known from the first
pub first_then : {v : ℕ} {vs : List ℕ} {P Q : Type 0} → Says v P → (P → Means vs Q) → Means (v ∷ vs) (P × Q)
first_then {v = v} {vs = vs} {P = P} {Q = Q} s m =
    record { shown = λ z. (let p = s.shown (z 0) in (p, (m p).shown (λ k. z (suc k)))); zeros = all }
  where
    all : P × Q → (k : ℕ) → slice_index (v ∷ vs) k ≡ 0
    all h zero = s.zero_where h.0
    all h (suc k) = (m h.0).zeros h.1 k

pub ◌▸◌ : {v : ℕ} {vs : List ℕ} {P Q : Type 0} → Says v P → Means vs Q → Means (v ∷ vs) (P × Q)
s ▸ m = first_then s (λ _. m)

-- two lists
pub part_then : {xs ys : List ℕ} {P Q : Type 0} → Means xs P → (P → Means ys Q) → Means (xs ++ ys) (P × Q)
part_then {xs = xs} {ys = ys} m n = record {
  shown = λ z. (let p = m.shown (zero_front xs ys z) in (p, (n p).shown (zero_back xs ys z)));
  zeros = λ h. zero_both xs ys (m.zeros h.0) ((n h.0).zeros h.1);
}

pub ◌⧺◌ : {xs ys : List ℕ} {P Q : Type 0} → Means xs P → Means ys Q → Means (xs ++ ys) (P × Q)
m ⧺ n = part_then m (λ _. n)

-- a family
pub each : {value : ℕ → ℕ} {P : ℕ → Type 0} (n : ℕ) → ((j : ℕ) → j < n → Says (value j) (P j)) → Means (family n value) ((j : ℕ) → j < n → P j)
each {value = value} n s = record {
  shown = λ z j few. (s j few).shown (zero_family n value z j few);
  zeros = λ h. zero_of_family n value (λ j few. (s j few).zero_where (h j few));
}

-- a pair, and pairs of pairs from left to right
abbrev pub ◌&◌ : {P Q : Type 0} → P → Q → P × Q
p & q = (p, q)
