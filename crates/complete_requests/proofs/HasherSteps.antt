-- On the hasher's bus a cycle asks what its requests give, and what the hashes of open blocks still owe.
use Rattle.complete_rows.proofs.Words
use Words.{◌≡◌, ℕ, ◌+◌, ◌*◌, ◌<◌, if◌then◌else◌, true, false, List, [], ◌∷◌, ◌++◌, length, take, drop, slice_index, refl, ap, ◌∙◌, arith, number_of_constants}
use Words.{prime, ◌⊞◌, hashed, is_ordinary_op, is_start_op, Op, addr, h, ha, w, IsBatch, Mark, hash_of, op_of_mark, Task, Block, Within, Turned, Closing}
use Words.{Returning, Leaving, Loop, tree_digest, Counted, counted, once, is_op, eight, front, hasher_asked, twelve, perms_given, Perm, Event, AreOutside}
use Words.{Decoder, Open, address_of, next_after, hash_perms, perms_by_op, perms_of}
use Words.ops
use Words.flags
use Rattle.air_kit.specs.MainTuples.{domain_of, hash_end}
use Rattle.complete_requests.proofs.Chains.{batches_owed, hit, one_given}

-- what the hashes of open blocks still ask: their digests
abbrev pub deep : List ℕ → List Task → List Open → List ℕ → ℕ
deep constants [] blocks v = 0
deep constants (Block tree ∷ todo) blocks v = deep constants todo blocks v
deep constants (Within items later digest ∷ todo) blocks v = deep constants todo (drop 1 blocks) v
deep constants (Turned body ∷ todo) blocks v =
    hit (3 ∷ (address_of blocks ⊞ 7) ∷ tree_digest constants (Loop body)) v + deep constants todo (drop 1 blocks) v
deep constants (Closing digest ∷ todo) blocks v = hit (3 ∷ (address_of blocks ⊞ 7) ∷ digest) v + deep constants todo (drop 1 blocks) v
deep constants (Returning digest frame ∷ todo) blocks v = hit (3 ∷ (address_of blocks ⊞ 7) ∷ digest) v + deep constants todo (drop 1 blocks) v
deep constants (Leaving digest frame ∷ todo) blocks v = hit (3 ∷ (address_of blocks ⊞ 7) ∷ digest) v + deep constants todo (drop 1 blocks) v

-- a span that is open has further batches, and then its digest
abbrev pub first : ℕ → List Task → List ℕ → ℕ
first ha [] v = 0
first ha (Within items later digest ∷ todo) v = batches_owed ha later digest v
first ha (task ∷ todo) v = 0

pub first_none : (ha : ℕ) (todo : List Task) (v : List ℕ) → AreOutside todo → first ha todo v ≡ 0
first_none ha [] v out = refl
first_none ha (Within items later digest ∷ todo) v out = absurd out.0
first_none ha (task ∷ todo) v out = refl

-- what is still to be asked
abbrev pub owed_hashes : List ℕ → List ℕ → List Task → Decoder → List Event → ℕ
owed_hashes constants v todo d events =
    counted (perms_given constants d.next (perms_of constants events)) v + (first d.ha todo v + deep constants todo d.blocks v)

-- what a row and the row behind it show of hashes
pub record Cells (mark : Mark) (d after : Decoder) (x y : List ℕ) : Type 0 where
  pub op : flags.op_of x ≡ op_of_mark mark
  pub eight : is_ordinary_op (op_of_mark mark) ≡ false → eight x ≡ hash_of mark
  pub address : addr x ≡ address_of d.blocks
  pub behind : addr y ≡ address_of after.blocks
  pub batch : ha x ≡ d.ha

-- an operation asks what its requests give
pub record OperationAsks (constants : List ℕ) (mark : Mark) (next : ℕ) (e : Event) (x y : List ℕ) (v : List ℕ) : Type 0 where
  pub given : is_ordinary_op (op_of_mark mark) ≡ true → counted (perms_given constants next (perms_by_op e.op e.before)) v ≡ counted (hasher_asked x y) v
  pub moves : is_ordinary_op (op_of_mark mark) ≡ true → next_after e.op next ≡ next + 8 * length (perms_by_op e.op e.before)

abbrev pub asked_by : Op → List ℕ → List ℕ → List Counted
asked_by op x y =
    if is_start_op op then once (1 ∷ addr y ∷ domain_of op ∷ eight x) ∷ []
    else if is_op op ops.Respan then once (2 ∷ (ha x ⊞ 8) ∷ eight x) ∷ []
    else if is_op op ops.End then once (3 ∷ hash_end x ∷ front x) ∷ []
    else if is_op op ops.HPerm then once (4 ∷ w x 0 ∷ twelve x) ∷ once (5 ∷ (w x 0 ⊞ 7) ∷ twelve y) ∷ []
    else []

pub asks : (op : Op) (x y v : List ℕ) → flags.op_of x ≡ op → counted (hasher_asked x y) v ≡ counted (asked_by op x y) v
unfolding hasher_asked
asks op x y v is = ap (λ o. counted (asked_by o x y) v) is

-- the digest of a block that ends
pub ended : (digest : List ℕ) (i j k l : ℕ) (x : List ℕ) → length digest ≡ 4 → eight x ≡ digest ++ i ∷ j ∷ k ∷ l ∷ []
    → (front x ≡ digest) × (h x 5 ≡ j)
ended (a ∷ b ∷ c ∷ d ∷ []) i j k l x size e = (ap (take 4) e, ap (λ l. slice_index l 5) e)
ended digest i j k l x size e = absurd (omega (arith, size))

module _ (constants : List ℕ) (len : length constants ≡ number_of_constants) (x y v : List ℕ) where
  -- the start of a block of one permutation; n is owed beside it
  pub start_step : {op : Op} → is_start_op op ≡ true → flags.op_of x ≡ op
      → {address : ℕ} {block : List ℕ} → IsBatch block → addr y ≡ address → eight x ≡ block → address + 16 < prime
      → (others : List Perm) (n : ℕ)
      → counted (perms_given constants address (hash_perms constants (domain_of op) (block ∷ []) ++ others)) v + (0 + n)
      ≡ counted (hasher_asked x y) v + (counted (perms_given constants (address + 8) others) v
      + (0 + (hit (3 ∷ (address ⊞ 7) ∷ hashed constants (domain_of op) (block ∷ [])) v + n)))
  start_step {op = op} starts is {address = address} {block = block} whole behind cells low others n =
      let asked : counted (hasher_asked x y) v ≡ hit (1 ∷ address ∷ domain_of op ∷ block) v
      = asks op x y v is ∙ rw (starts, behind, cells) refl in
      let given = one_given constants len address (domain_of op) block others v whole in
      let place : address + 7 ≡ address ⊞ 7 = omega (arith, low) in
      let closes = ap (λ a. hit (3 ∷ a ∷ hashed constants (domain_of op) (block ∷ [])) v) place in
      omega (arith, asked, given, closes)

  -- the end of a block that is no span
  pub end_step : flags.op_of x ≡ ops.End → (digest : List ℕ) (i k l : ℕ) {address : ℕ} → length digest ≡ 4 → eight x ≡ digest ++ i ∷ 0 ∷ k ∷ l ∷ []
      → addr x ≡ address → counted (hasher_asked x y) v ≡ hit (3 ∷ (address ⊞ 7) ∷ digest) v
  end_step is digest i k l size cells at =
      let shown = ended digest i 0 k l x size cells in asks ops.End x y v is ∙ rw (shown.1, at, shown.0) refl

  pub span_step : flags.op_of x ≡ ops.End → (digest : List ℕ) (i k l : ℕ) {address : ℕ} → length digest ≡ 4 → eight x ≡ digest ++ i ∷ 1 ∷ k ∷ l ∷ []
      → ha x ≡ address → address + 16 < prime → counted (hasher_asked x y) v ≡ hit (3 ∷ (address + 7) ∷ digest) v
  span_step is digest i k l {address = address} size cells at low =
      let shown = ended digest i 1 k l x size cells in
      let place : address ⊞ 7 ≡ address + 7 = omega (arith, low) in
      asks ops.End x y v is ∙ rw (shown.1, at, shown.0) (ap (λ a. hit (3 ∷ a ∷ digest) v) place)
