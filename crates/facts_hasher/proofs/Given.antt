-- Which permutation gives a tuple.
use Rattle.std.proofs.Common.{Bool, List, [], ap, arith, cond, drop, false, if◌then◌else◌, length, nat_eq, refl, slice_index, suc, sym, take, true, zero, ℕ, ◌*◌, ◌++◌, ◌+◌, ◌<◌, ◌∙◌, ◌∷◌, ◌≡◌, ◌≤◌}
use Rattle.std.proofs.Common.{inl, inr, ◌⊎◌}
use lib.Pointwise.{pointwise}
use Rattle.vm_field.specs.Permutation.{permuted}
use Rattle.buses.specs.Counts.{Counted, counted, once}
use Rattle.buses.proofs.Counting.{counted-none, counted-append}
use Rattle.air_kit.specs.declared.requests.Perm.{Perm}
use Rattle.air_kit.specs.Requests.{perm_begins, perm_ends, perms_given}
use Rattle.facts_hasher.proofs.Totals.{once_own, once_same}

-- the number behind a tuple's tag
abbrev pub address_of : List ℕ → ℕ
address_of u = slice_index u 1

-- ---- what a permutation gives first and last, by its flags

abbrev pub begins_by : Bool → Bool → ℕ → List ℕ → List Counted
begins_by m c a s =
    if m then once (4 ∷ a ∷ s) ∷ [] else if c then once (2 ∷ a ∷ drop 4 s) ∷ [] else once (1 ∷ a ∷ slice_index s 1 ∷ drop 4 s) ∷ []

abbrev pub ends_by : Bool → Bool → ℕ → List ℕ → List Counted
ends_by m going a s = if m then once (5 ∷ a ∷ s) ∷ [] else if going then [] else once (3 ∷ a ∷ take 4 (drop 4 s)) ∷ []

-- the tuple of its first row, and that of its last row, if it has one
abbrev pub begin_tuple : Bool → Bool → ℕ → List ℕ → List ℕ
begin_tuple m c a s = (if m then 4 else if c then 2 else 1) ∷ a ∷ (if m then s else if c then drop 4 s else slice_index s 1 ∷ drop 4 s)

abbrev pub end_tuple : Bool → ℕ → List ℕ → List ℕ
end_tuple m a s = (if m then 5 else 3) ∷ a ∷ (if m then s else take 4 (drop 4 s))

begins_once : (m c : Bool) (a : ℕ) (s : List ℕ) → begins_by m c a s ≡ once (begin_tuple m c a s) ∷ []
begins_once true c a s = refl
begins_once false true a s = refl
begins_once false false a s = refl

ends_from : (m going : Bool) (a : ℕ) (s u : List ℕ) → 0 < counted (ends_by m going a s) u → (m ≡ false → going ≡ false) × (u ≡ end_tuple m a s)
ends_from true going a s u h = (λ e. absurd (cc), once_same _ u h)
ends_from false true a s u h = absurd (omega (arith, counted-none u, h))
ends_from false false a s u h = (λ e. refl, once_same _ u h)

ends_count : (m going : Bool) (a : ℕ) (s u : List ℕ) → (m ≡ false → going ≡ false) → u ≡ end_tuple m a s → 0 < counted (ends_by m going a s) u
ends_count true going a s u last e = once_own _ u e
ends_count false true a s u last e = absurd (let clash = last refl in cc)
ends_count false false a s u last e = once_own _ u e

once_few : (t u : List ℕ) → counted (once t ∷ []) u ≤ 1
unfolding counted
once_few t u = elim (pointwise nat_eq t u) as (λ b. cond b 1 0 + 0 ≤ 1) [ true ↦ omega arith | false ↦ omega arith ]

ends_few : (m going : Bool) (a : ℕ) (s u : List ℕ) → counted (ends_by m going a s) u ≤ 1
ends_few true going a s u = once_few _ u
ends_few false true a s u = omega (arith, counted-none u)
ends_few false false a s u = once_few _ u

-- ---- tuples by their tags

pub enters : (m c : Bool) (a b : ℕ) (s xs : List ℕ) → 4 ∷ b ∷ xs ≡ begin_tuple m c a s → xs ≡ s
enters true c a b s xs e = ap (drop 2) e
enters false true a b s xs e = absurd (cc)
enters false false a b s xs e = absurd (cc)

pub goes_on : (m c : Bool) (a b : ℕ) (s xs : List ℕ) → 2 ∷ b ∷ xs ≡ begin_tuple m c a s → (c ≡ true) × (xs ≡ drop 4 s)
goes_on true c a b s xs e = absurd (cc)
goes_on false true a b s xs e = (refl, ap (drop 2) e)
goes_on false false a b s xs e = absurd (cc)

pub opens : (m c : Bool) (a b : ℕ) (s xs : List ℕ) → 1 ∷ b ∷ xs ≡ begin_tuple m c a s
    → (m ≡ false) × (c ≡ false) × (xs ≡ slice_index s 1 ∷ drop 4 s)
opens true c a b s xs e = absurd (cc)
opens false true a b s xs e = absurd (cc)
opens false false a b s xs e = (refl, refl, ap (drop 2) e)

pub leaves : (m : Bool) (a b : ℕ) (s xs : List ℕ) → 5 ∷ b ∷ xs ≡ end_tuple m a s → xs ≡ s
leaves true a b s xs e = ap (drop 2) e
leaves false a b s xs e = absurd (cc)

pub closes : (m : Bool) (a b : ℕ) (s xs : List ℕ) → 3 ∷ b ∷ xs ≡ end_tuple m a s → (m ≡ false) × (xs ≡ take 4 (drop 4 s))
closes true a b s xs e = absurd (cc)
closes false a b s xs e = (refl, ap (drop 2) e)

-- a last row's tuple has one of two tags
pub end_tag : (m : Bool) (t a b : ℕ) (s xs : List ℕ) → t ∷ b ∷ xs ≡ end_tuple m a s → (t ≡ 5) ⊎ (t ≡ 3)
end_tag true t a b s xs e = inl (cc)
end_tag false t a b s xs e = inr (cc)

-- ---- the permutation that gives a tuple

-- one of these permutations, of which the first has this address
pub data IsGivenBy (constants u : List ℕ) : ℕ → List Perm → Type 0 where
  begins : {a : ℕ} {p : Perm} {perms : List Perm} → u ≡ begin_tuple p.mode p.cont a p.start → IsGivenBy constants u a (p ∷ perms)
  ends : {a : ℕ} {p : Perm} {perms : List Perm} → (p.mode ≡ false → p.more ≡ false) → u ≡ end_tuple p.mode (a + 7) (permuted constants p.start)
      → IsGivenBy constants u a (p ∷ perms)
  later : {a : ℕ} {p : Perm} {perms : List Perm} → IsGivenBy constants u (a + 8) perms → IsGivenBy constants u a (p ∷ perms)

-- the counts of the first permutation and of those behind it
pub head_is : (constants : List ℕ) (a : ℕ) (p : Perm) (perms : List Perm) (u : List ℕ)
    → counted (perms_given constants a (p ∷ perms)) u
    ≡ counted (perm_begins a p) u + (counted (perm_ends constants (a + 7) p) u + counted (perms_given constants (a + 8) perms) u)
unfolding perms_given
head_is constants a p perms u =
    counted-append (perm_begins a p) (perm_ends constants (a + 7) p ++ perms_given constants (a + 8) perms) u
    ∙ ap (λ t. counted (perm_begins a p) u + t) (counted-append (perm_ends constants (a + 7) p) (perms_given constants (a + 8) perms) u)

one_of_three : (k l m : ℕ) → 0 < k + (l + m) → (0 < k) ⊎ ((0 < l) ⊎ (0 < m))
one_of_three zero zero m h = inr (inr (omega (arith, h)))
one_of_three zero (suc l) m h = inr (inl (omega arith))
one_of_three (suc k) l m h = inl (omega arith)

begun : (a : ℕ) (p : Perm) (u : List ℕ) → 0 < counted (perm_begins a p) u → u ≡ begin_tuple p.mode p.cont a p.start
begun a p u h = once_same _ u (rw begins_once at h)

module _ (constants : List ℕ) where
  -- how often they give it
  abbrev pub given : ℕ → List Perm → List ℕ → ℕ
  given a perms u = counted (perms_given constants a perms) u

  pub from_count : (a : ℕ) (perms : List Perm) (u : List ℕ) → 0 < given a perms u → IsGivenBy constants u a perms
  unfolding perms_given
  from_count a [] u h = absurd (omega (arith, counted-none u, h))
  from_count a (p ∷ perms) u h =
      elim (one_of_three (counted (perm_begins a p) u) (counted (perm_ends constants (a + 7) p) u) (given (a + 8) perms u)
      (let e = head_is constants a p perms u in omega (arith, e, h))) [
        | inl k ↦ begins (begun a p u k)
        | inr (inl k) ↦ let e = ends_from p.mode p.more (a + 7) (permuted constants p.start) u k in ends e.0 e.1
        | inr (inr k) ↦ later (from_count (a + 8) perms u k)
      ]

  pub to_count : {u : List ℕ} {a : ℕ} {perms : List Perm} → IsGivenBy constants u a perms → 0 < given a perms u
  to_count {u} {a} (begins {p = p} {perms = perms} e) =
      let k : 0 < counted (perm_begins a p) u = rw begins_once (once_own _ u e) in let all = head_is constants a p perms u in omega (arith, all, k)
  to_count {u} {a} (ends {p = p} {perms = perms} last e) =
      let k = ends_count p.mode p.more (a + 7) (permuted constants p.start) u last e in
      let all = head_is constants a p perms u in omega (arith, all, k)
  to_count {u} {a} (later {p = p} {perms = perms} g) =
      let k = to_count g in let all = head_is constants a p perms u in omega (arith, all, k)

-- ---- addresses

pub given-address : {constants u : List ℕ} {a : ℕ} {perms : List Perm} → IsGivenBy constants u a perms
    → (a ≤ address_of u) × (address_of u < a + 8 * length perms)
given-address {u = u} {a = a} (begins e) = let k : address_of u ≡ a = ap address_of e in (omega (arith, k), omega (arith, k))
given-address {u = u} {a = a} (ends last e) = let k : address_of u ≡ a + 7 = ap address_of e in (omega (arith, k), omega (arith, k))
given-address (later g) = let k = given-address g in (let l = k.0 in omega (arith, l), let l = k.1 in omega (arith, l))

module _ {constants u : List ℕ} {a : ℕ} {p : Perm} {perms : List Perm} where
  -- the address says by which row of the first permutation, or behind it, a tuple is given
  pub at_begin : address_of u ≡ a → IsGivenBy constants u a (p ∷ perms) → u ≡ begin_tuple p.mode p.cont a p.start
  at_begin h (begins e) = e
  at_begin h (ends last e) = absurd (let k : address_of u ≡ a + 7 = ap address_of e in omega (arith, h, k))
  at_begin h (later g) = absurd (let k = (given-address g).0 in omega (arith, h, k))

  pub at_end : address_of u ≡ a + 7 → IsGivenBy constants u a (p ∷ perms)
      → (p.mode ≡ false → p.more ≡ false) × (u ≡ end_tuple p.mode (a + 7) (permuted constants p.start))
  at_end h (begins e) = absurd (let k : address_of u ≡ a = ap address_of e in omega (arith, h, k))
  at_end h (ends last e) = (last, e)
  at_end h (later g) = absurd (let k = (given-address g).0 in omega (arith, h, k))

  pub at_later : a + 8 ≤ address_of u → IsGivenBy constants u a (p ∷ perms) → IsGivenBy constants u (a + 8) perms
  at_later h (begins e) = absurd (let k : address_of u ≡ a = ap address_of e in omega (arith, h, k))
  at_later h (ends last e) = absurd (let k : address_of u ≡ a + 7 = ap address_of e in omega (arith, h, k))
  at_later h (later g) = g

-- one tuple at an address
pub given-same : {constants u v : List ℕ} {a : ℕ} {perms : List Perm} → address_of u ≡ address_of v → IsGivenBy constants u a perms
    → IsGivenBy constants v a perms → u ≡ v
given-same same (begins e) h = e ∙ sym (at_begin (sym same ∙ ap address_of e) h)
given-same same (ends last e) h = e ∙ sym (at_end (sym same ∙ ap address_of e) h).1
given-same same (later g) h = given-same same g (at_later (let k = (given-address g).0 in omega (arith, same, k)) h)

-- at most one of three counts is not 0
at_most : (k l m : ℕ) → k ≤ 1 → l ≤ 1 → m ≤ 1 → (0 < k → 0 < l → ⊥) → (0 < k → 0 < m → ⊥) → (0 < l → 0 < m → ⊥) → k + (l + m) ≤ 1
at_most zero zero m hk hl hm kl km lm = omega arith
at_most zero (suc l) zero hk hl hm kl km lm = omega arith
at_most zero (suc l) (suc m) hk hl hm kl km lm = absurd (lm (omega arith) (omega arith))
at_most (suc k) zero zero hk hl hm kl km lm = omega arith
at_most (suc k) zero (suc m) hk hl hm kl km lm = absurd (km (omega arith) (omega arith))
at_most (suc k) (suc l) m hk hl hm kl km lm = absurd (kl (omega arith) (omega arith))

-- and that once
pub given-once : (constants : List ℕ) (a : ℕ) (perms : List Perm) (u : List ℕ) → given constants a perms u ≤ 1
unfolding perms_given
given-once constants a [] u = omega (arith, counted-none u)
given-once constants a (p ∷ perms) u =
    let whole = at_most (counted (perm_begins a p) u) (counted (perm_ends constants (a + 7) p) u) (given constants (a + 8) perms u)
    (rw begins_once (once_few _ u)) (ends_few p.mode p.more (a + 7) (permuted constants p.start) u) (given-once constants (a + 8) perms u)
    (λ k l. let e = first k in let f = last l in omega (arith, e, f))
    (λ k m. let e = first k in let f = behind m in omega (arith, e, f))
    (λ l m. let e = last l in let f = behind m in omega (arith, e, f)) in
    let e = head_is constants a p perms u in omega (arith, e, whole)
  where
    first : 0 < counted (perm_begins a p) u → address_of u ≡ a
    first k = ap address_of (begun a p u k)

    last : 0 < counted (perm_ends constants (a + 7) p) u → address_of u ≡ a + 7
    last k = ap address_of (ends_from p.mode p.more (a + 7) (permuted constants p.start) u k).1

    behind : 0 < given constants (a + 8) perms u → a + 8 ≤ address_of u
    behind k = (given-address (from_count constants (a + 8) perms u k)).0
