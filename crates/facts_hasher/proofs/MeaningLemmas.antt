-- Permutations and hashes by the tuples that are given.
use Rattle.std.proofs.Common.{Bool, List, [], ap, ap₂, arith, drop, false, if◌then◌else◌, length, refl, slice_index, subst, suc, sym, take, zero, ℕ, ◌++◌, ◌+◌, ◌<◌, ◌∙◌, ◌∷◌, ◌≡◌, ◌≤◌}
use Rattle.vm_field.specs.Permutation.{permuted}
use Rattle.vm_field.specs.Sponge.{HashInput, sponge_after, squeezed, hashed}
use Rattle.air_kit.specs.declared.requests.Perm.{Perm}
use Rattle.air_kit.specs.Requests.{FollowsOn}
use Rattle.facts_hasher.specs.HashMeaning.{GivesOn}
use Rattle.facts_hasher.proofs.Given.{IsGivenBy, address_of, at_begin, at_end, at_later, begins, closes, end_tag, ends, enters, from_count, given, given-address, goes_on, later, leaves, opens, to_count}
use Rattle.facts_hasher.proofs.RowLemmas.{OfStates, first_state, later_states}

-- ---- permutations

pub permutes_by : {constants : List ℕ} {b : ℕ} {before behind : List ℕ} {a : ℕ} {perms : List Perm} → IsGivenBy constants (4 ∷ b ∷ before) a perms
    → IsGivenBy constants (5 ∷ (b + 7) ∷ behind) a perms → behind ≡ permuted constants before
permutes_by {constants} {b = b} {before = before} {behind = behind} (begins {a = a} {p = p} e) h =
    let place : b ≡ a = ap address_of e in
    leaves p.mode (a + 7) (b + 7) (permuted constants p.start) behind (at_end (ap (λ n. n + 7) place) h).1
    ∙ ap (permuted constants) (sym (enters p.mode p.cont a b p.start before e))
permutes_by {constants} {b = b} {before = before} (ends {a = a} {p = p} last e) h =
    absurd (omega (arith, end_tag p.mode 4 (a + 7) b (permuted constants p.start) before e))
permutes_by (later g) h = permutes_by g (at_later (let k = (given-address g).0 in omega (arith, k)) h)

-- ---- hashes

-- the blocks of the hash that the first permutation belongs to, from its own on
unfoldable pub blocks_in : List Perm → List (List ℕ)
blocks_in [] = []
blocks_in (p ∷ perms) = drop 4 p.start ∷ (if p.more then blocks_in perms else [])

abbrev pub input_of : Perm → List Perm → HashInput
input_of p rest = record { domain = slice_index p.start 1; blocks = blocks_in (p ∷ rest) }

-- what goes on where one gives goes on where another gives no less from an address on
pub gives_on : (f g : List ℕ → ℕ) (a : ℕ) → ((u : List ℕ) → a ≤ address_of u → 0 < f u → 0 < g u) → (b : ℕ) (blocks : List (List ℕ)) (digest : List ℕ)
    → a ≤ b → GivesOn f b blocks digest → GivesOn g b blocks digest
unfolding GivesOn
gives_on f g a more b [] digest h on = more (3 ∷ (b + 7) ∷ digest) (omega arith) on
gives_on f g a more b (block ∷ blocks) digest h on =
    (more (2 ∷ (b + 8) ∷ block) (omega arith) on.0, gives_on f g a more (b + 8) blocks digest (omega arith) on.1)

pub joined : (n : ℕ) (xs : List ℕ) → take n xs ++ drop n xs ≡ xs
joined zero xs = refl
joined (suc n) [] = refl
joined (suc n) (x ∷ xs) = ap (λ (ys : List ℕ). x ∷ ys) (joined n xs)

pub start_is : (s : List ℕ) → length s ≡ 12 → slice_index s 0 ≡ 0 → slice_index s 2 ≡ 0 → slice_index s 3 ≡ 0
    → 0 ∷ slice_index s 1 ∷ 0 ∷ 0 ∷ drop 4 s ≡ s
start_is (a ∷ b ∷ c ∷ d ∷ s) len e0 e2 e3 = cc
start_is _ len e0 e2 e3 = absurd (omega arith)

-- a hash begins at this address among permutations, of which the first has that one, and it hashes this
pub data ComputesAt : ℕ → List Perm → ℕ → HashInput → Type 0 where
  here : {a : ℕ} {p : Perm} {rest : List Perm} → p.mode ≡ false → p.cont ≡ false → ComputesAt a (p ∷ rest) a (input_of p rest)
  further : {a : ℕ} {p : Perm} {rest : List Perm} {b : ℕ} {input : HashInput} → ComputesAt (a + 8) rest b input → ComputesAt a (p ∷ rest) b input

module _ (constants : List ℕ) where
  later_on : (a : ℕ) (p : Perm) (perms : List Perm) (b : ℕ) (blocks : List (List ℕ)) (digest : List ℕ) → a + 8 ≤ b
      → GivesOn (given constants a (p ∷ perms)) b blocks digest → GivesOn (given constants (a + 8) perms) b blocks digest
  later_on a p perms =
      gives_on (given constants a (p ∷ perms)) (given constants (a + 8) perms) (a + 8)
      (λ u h k. to_count constants (at_later h (from_count constants a (p ∷ perms) u k)))

  -- the hash from its first permutation, or from one that goes on with it
  chain : (a : ℕ) (p : Perm) (perms : List Perm) (blocks : List (List ℕ)) (digest : List ℕ)
      → FollowsOn constants p.more (permuted constants p.start) perms → GivesOn (given constants a (p ∷ perms)) a blocks digest
      → (blocks_in (p ∷ perms) ≡ drop 4 p.start ∷ blocks) × (digest ≡ squeezed (sponge_after constants (permuted constants p.start) blocks))
  unfolding GivesOn blocks_in
  chain a p perms [] digest f on =
      let g = at_end refl (from_count constants a (p ∷ perms) (3 ∷ (a + 7) ∷ digest) on) in
      let c = closes p.mode (a + 7) (a + 7) (permuted constants p.start) digest g.1 in
      (ap (λ b. drop 4 p.start ∷ (if b then blocks_in perms else [])) (g.0 c.0), c.1)
  chain a p [] (block ∷ blocks) digest f on =
      let k = (given-address (from_count constants a (p ∷ []) (2 ∷ (a + 8) ∷ block) on.0)).1 in absurd (omega (arith, k))
  chain a p (q ∷ rest) (block ∷ blocks) digest f on =
      let g = at_later (omega arith) (from_count constants a (p ∷ q ∷ rest) (2 ∷ (a + 8) ∷ block) on.0) in
      let c = goes_on q.mode q.cont (a + 8) (a + 8) q.start block (at_begin refl g) in
      let h = chain (a + 8) q rest blocks digest f.4 (later_on a p (q ∷ rest) (a + 8) blocks digest (omega arith) on.1) in
      let same : take 4 (permuted constants p.start) ++ block ≡ q.start =
      ap₂ (λ (xs ys : List ℕ). xs ++ ys) (sym (f.2 c.0)) c.1 ∙ joined 4 q.start in (
        ap (λ b. drop 4 p.start ∷ (if b then blocks_in (q ∷ rest) else [])) (sym f.0 ∙ c.0)
            ∙ ap (λ (bs : List (List ℕ)). drop 4 p.start ∷ bs) (h.0 ∙ ap (λ (b : List ℕ). b ∷ blocks) (sym c.1)),
        h.1 ∙ ap (λ s. squeezed (sponge_after constants (permuted constants s) blocks)) (sym same),
      )

  -- a hash whose first block and domain, further blocks and digest are given
  pub hash_by : {b domain : ℕ} {block : List ℕ} {a : ℕ} {perms : List Perm} (going : Bool) (last : List ℕ) (blocks : List (List ℕ)) (digest : List ℕ)
      → OfStates perms → FollowsOn constants going last perms → IsGivenBy constants (1 ∷ b ∷ domain ∷ block) a perms
      → GivesOn (given constants a perms) b blocks digest
      → ComputesAt a perms b (record { domain = domain; blocks = block ∷ blocks }) × (digest ≡ hashed constants domain (block ∷ blocks))
  unfolding hashed
  hash_by {b = b} {domain = domain} {block = block} going last blocks digest s f (begins {a = a} {p = p} {perms = perms} e) on =
      let o = opens p.mode p.cont a b p.start (domain ∷ block) e in
      let place : b ≡ a = ap address_of e in
      let d : domain ≡ slice_index p.start 1 = ap (λ xs. slice_index xs 0) o.2 in
      let t : block ≡ drop 4 p.start = ap (drop 1) o.2 in
      let h = chain a p perms blocks digest f.4 (subst (λ n. GivesOn (given constants a (p ∷ perms)) n blocks digest) place on) in
      let z = f.3 o.0 o.1 in
      let same : 0 ∷ domain ∷ 0 ∷ 0 ∷ block ≡ p.start =
      ap₂ (λ (n : ℕ) (xs : List ℕ). 0 ∷ n ∷ 0 ∷ 0 ∷ xs) d t ∙ start_is p.start (first_state p perms s).size z.0 z.1 z.2 in (
        subst (λ n. ComputesAt a (p ∷ perms) n (record { domain = domain; blocks = block ∷ blocks })) (sym place)
            (subst (ComputesAt a (p ∷ perms) a) (ap₂ (λ (n : ℕ) (bs : List (List ℕ)). record { domain = n; blocks = bs }) (sym d)
            (h.0 ∙ ap (λ (b : List ℕ). b ∷ blocks) (sym t))) (here o.0 o.1)),
        h.1 ∙ ap (λ xs. squeezed (sponge_after constants (permuted constants xs) blocks)) (sym same),
      )
  hash_by {b = b} {domain = domain} {block = block} going last blocks digest s f (ends {a = a} {p = p} final e) on =
      absurd (omega (arith, end_tag p.mode 1 (a + 7) b (permuted constants p.start) (domain ∷ block) e))
  hash_by {b = b} going last blocks digest s f (later {a = a} {p = p} {perms = perms} g) on =
      let h = hash_by p.more (permuted constants p.start) blocks digest (later_states p perms s) f.4 g
      (later_on a p perms b blocks digest (given-address g).0 on) in
      (further h.0, h.1)
