-- What the permutations of a hash give: its first block, its other blocks, and its digest.
use Rattle.complete_rows.proofs.Words
use Words.{◌≡◌, ℕ, Bool, All, cond, suc, ◌+◌, ◌*◌, false, true, List, [], ◌∷◌, ◌++◌, length, take, drop, refl, ap, arith, length-append, length-take, All-head}
use Words.{All-nil, All-tail, number_of_constants, absorbed, begun, hashed, length-permuted, IsBatch, counted, once, counted-none, counted-append, perms_given}
use Words.{Perm, chain, hash_perms}
use Rattle.vm_field.specs.Sponge.{sponge_after, squeezed}
use Rattle.air_kit.specs.Requests.{perm_begins, perm_ends}
use Rattle.complete_rows.specs.RunRequests.{is_empty}

-- how often a tuple counts that counts once
abbrev pub hit : List ℕ → List ℕ → ℕ
hit tuple v = counted (once tuple ∷ []) v

-- what a hash still asks: its further blocks from an address on, and its digest
abbrev pub batches_owed : ℕ → List (List ℕ) → List ℕ → List ℕ → ℕ
batches_owed address [] digest v = hit (3 ∷ (address + 7) ∷ digest) v
batches_owed address (batch ∷ later) digest v = hit (2 ∷ (address + 8) ∷ batch) v + batches_owed (address + 8) later digest v

pub perms_append : (constants : List ℕ) (address : ℕ) (first others : List Perm) (v : List ℕ)
    → counted (perms_given constants address (first ++ others)) v
    ≡ counted (perms_given constants address first) v + counted (perms_given constants (address + 8 * length first) others) v
unfolding perms_given
perms_append constants address [] others v =
    let none = counted-none v in
    let place : counted (perms_given constants address others) v ≡ counted (perms_given constants (address + 8 * length {A = Perm} []) others) v
    = ap (λ a. counted (perms_given constants a others) v) (omega arith) in
    omega (arith, none, place)
perms_append constants address (p ∷ first) others v =
    let later = perms_append constants (address + 8) first others v in
    let place : counted (perms_given constants (address + 8 + 8 * length first) others) v
    ≡ counted (perms_given constants (address + 8 * suc (length first)) others) v
    = ap (λ a. counted (perms_given constants a others) v) (omega arith) in
    let a = counted-append (perm_begins address p) (perm_ends constants (address + 7) p ++ perms_given constants (address + 8) (first ++ others)) v in
    let b = counted-append (perm_ends constants (address + 7) p) (perms_given constants (address + 8) (first ++ others)) v in
    let c = counted-append (perm_begins address p) (perm_ends constants (address + 7) p ++ perms_given constants (address + 8) first) v in
    let d = counted-append (perm_ends constants (address + 7) p) (perms_given constants (address + 8) first) v in
    omega (arith, later, place, a, b, c, d)

pub length_chain : (constants state : List ℕ) (going : Bool) (blocks : List (List ℕ)) → length (chain constants state going blocks) ≡ length blocks
unfolding chain
length_chain constants state going [] = refl
length_chain constants state going (block ∷ blocks) = ap suc (length_chain constants (absorbed constants state block) true blocks)

-- what stands behind four elements of a state
drop_taken : (state block : List ℕ) → length state ≡ 12 → drop 4 (take 4 state ++ block) ≡ block
drop_taken (a ∷ b ∷ c ∷ d ∷ state) block size = refl
drop_taken state block size = absurd (omega (arith, size))

module _ (constants : List ℕ) (len : length constants ≡ number_of_constants) where
  pub absorbed_twelve : (state block : List ℕ) → length state ≡ 12 → IsBatch block → length (absorbed constants state block) ≡ 12
  absorbed_twelve state block size h =
      length-permuted constants (take 4 state ++ block) len (omega (arith, size, h.size, length-append (take 4 state) block, length-take 4 state))

  -- a permutation of a hash, and those that go on with it
  ends_owed : (address : ℕ) (state block : List ℕ) (going : Bool) (blocks : List (List ℕ)) (v : List ℕ) → length state ≡ 12 → IsBatch block
      → All IsBatch blocks
      → counted (perm_ends constants (address + 7) (record {
        mode = false;
        cont = going;
        more = cond (is_empty blocks) false true;
        start = take 4 state ++ block;
      })) v + counted (perms_given constants (address + 8) (chain constants (absorbed constants state block) true blocks)) v
      ≡ batches_owed address blocks (squeezed (sponge_after constants (absorbed constants state block) blocks)) v
  unfolding perms_given chain
  ends_owed address state block going [] v size h all =
      let none = counted-none v in
      let digest : counted (perm_ends constants (address + 7) (record { mode = false; cont = going; more = false; start = take 4 state ++ block })) v
      ≡ hit (3 ∷ (address + 7) ∷ squeezed (absorbed constants state block)) v
      = refl in
      omega (arith, none, digest)
  ends_owed address state block going (next ∷ blocks) v size h all =
      let behind : List ℕ = absorbed constants state block in
      let twelve : length (absorbed constants state block) ≡ 12 = absorbed_twelve state block size h in
      let p : Perm = record {
        mode = false;
        cont = true;
        more = cond (is_empty blocks) false true;
        start = take 4 (absorbed constants state block) ++ next;
      } in
      let rest : List Perm = chain constants (absorbed constants (absorbed constants state block) next) true blocks in
      let later = ends_owed (address + 8) (absorbed constants state block) next true blocks v twelve (All-head IsBatch next blocks all)
      (All-tail IsBatch next blocks all) in
      let begins : hit (2 ∷ (address + 8) ∷ drop 4 (take 4 (absorbed constants state block) ++ next)) v ≡ hit (2 ∷ (address + 8) ∷ next) v
      = ap (λ l. hit (2 ∷ (address + 8) ∷ l) v) (drop_taken (absorbed constants state block) next twelve) in
      let a = counted-append (perm_begins (address + 8) p)
      (perm_ends constants (address + 8 + 7) p ++ perms_given constants (address + 8 + 8) rest) v in
      let b = counted-append (perm_ends constants (address + 8 + 7) p) (perms_given constants (address + 8 + 8) rest) v in
      let none = counted-none v in
      omega (arith, later, begins, a, b, none)

  -- a hash: its first block, and what it still asks
  pub hash_given : (address domain : ℕ) (block : List ℕ) (blocks : List (List ℕ)) (v : List ℕ) → IsBatch block → All IsBatch blocks
      → counted (perms_given constants address (hash_perms constants domain (block ∷ blocks))) v
      ≡ hit (1 ∷ address ∷ domain ∷ block) v + batches_owed address blocks (hashed constants domain (block ∷ blocks)) v
  unfolding perms_given chain hashed
  hash_given address domain block blocks v h all =
      let p : Perm = record {
        mode = false;
        cont = false;
        more = cond (is_empty blocks) false true;
        start = take 4 (begun domain) ++ block;
      } in
      let rest : List Perm = chain constants (absorbed constants (begun domain) block) true blocks in
      let later = ends_owed address (begun domain) block false blocks v refl h all in
      let a = counted-append (perm_begins address p) (perm_ends constants (address + 7) p ++ perms_given constants (address + 8) rest) v in
      let b = counted-append (perm_ends constants (address + 7) p) (perms_given constants (address + 8) rest) v in
      omega (arith, later, a, b)

  -- the hash of one block, and further permutations
  pub one_given : (address domain : ℕ) (block : List ℕ) (others : List Perm) (v : List ℕ) → IsBatch block
      → counted (perms_given constants address (hash_perms constants domain (block ∷ []) ++ others)) v
      ≡ hit (1 ∷ address ∷ domain ∷ block) v
      + (hit (3 ∷ (address + 7) ∷ hashed constants domain (block ∷ [])) v + counted (perms_given constants (address + 8) others) v)
  one_given address domain block others v h =
      let first = hash_given address domain block [] v h (All-nil IsBatch) in
      let both = perms_append constants address (hash_perms constants domain (block ∷ [])) others v in
      let size = length_chain constants (begun domain) false (block ∷ []) in
      let place : counted (perms_given constants (address + 8 * length (hash_perms constants domain (block ∷ []))) others) v
      ≡ counted (perms_given constants (address + 8) others) v
      = ap (λ a. counted (perms_given constants a others) v) (omega (arith, size)) in
      omega (arith, first, both, place)
