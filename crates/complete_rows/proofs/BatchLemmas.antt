-- A row that begins a batch shows how many positions are in use, and that no more are than need be.
use Rattle.complete_rows.proofs.Words
use Words.{◌≡◌, ◌≢◌, ℕ, zero, suc, ◌+◌, ◌-◌, ◌/◌, ◌<◌, ◌≤◌, Bool, true, false, ◌&&◌, ◌==◌, eqb, cond, List, [], ◌∷◌, length, take, drop, slice_index, refl, sym}
use Words.{ap, ◌∙◌, subst, arith, lit<, eqb-true, get_or-drop, bit_of, prime, felt_inv, ◌⊞◌, ◌⊠◌, elements-index, felt_mul-felt_inv, c, h, w, IsBatch}
use Words.{positions_in_use, positions, off, Line, laid_out}
use Rattle.std.proofs.lemmas.Bool.{and_parts, eqb-false}
use Rattle.op_pack.specs.Reading.{are_zero}
use Rattle.facts_main.specs.Batches.{ShowsBatch}
use Rattle.complete_rows.specs.Witnesses.{batch_witnesses, first_inverse}
use Rattle.complete_rows.proofs.ColumnLemmas.{below_by, col_c0, col_c1, col_c2, col_h, col_w}

-- how many positions are in use
pub data InUse (batch : List ℕ) : ℕ → Type 0 where
  one : are_zero (drop 1 batch) ≡ true → InUse batch 1
  two : are_zero (drop 1 batch) ≡ false → are_zero (drop 2 batch) ≡ true → InUse batch 2
  four : are_zero (drop 2 batch) ≡ false → are_zero (drop 4 batch) ≡ true → InUse batch 4
  eight : are_zero (drop 4 batch) ≡ false → InUse batch 8

pub in_use : (batch : List ℕ) → InUse batch (positions_in_use batch)
in_use batch = go (are_zero (drop 1 batch)) (are_zero (drop 2 batch)) (are_zero (drop 4 batch)) refl refl refl
  where
    go : (a b c : Bool) → are_zero (drop 1 batch) ≡ a → are_zero (drop 2 batch) ≡ b → are_zero (drop 4 batch) ≡ c
        → InUse batch (cond a 1 (cond b 2 (cond c 4 8)))
    go true b c i j k = one i
    go false true c i j k = two i j
    go false false true i j k = four j k
    go false false false i j k = eight k

zero_at : (xs : List ℕ) (j : ℕ) → are_zero xs ≡ true → slice_index xs j ≡ 0
zero_at [] j h = refl
zero_at (x ∷ xs) zero h = eqb-true x 0 (and_parts (eqb x 0) (are_zero xs) h).0
zero_at (x ∷ xs) (suc j) h = zero_at xs j (and_parts (eqb x 0) (are_zero xs) h).1

zero_from : (batch : List ℕ) (n q : ℕ) → are_zero (drop n batch) ≡ true → n ≤ q → slice_index batch q ≡ 0
zero_from batch n q h low =
    let e : n + (q - n) ≡ q = omega (arith, low) in
    ap (slice_index batch) (sym e) ∙ sym (get_or-drop n batch (q - n) 0) ∙ zero_at (drop n batch) (q - n) h

pub unused_zero : (batch : List ℕ) (n q : ℕ) → InUse batch n → n ≤ q → q < 8 → length batch ≡ 8 → slice_index batch q ≡ 0
unused_zero batch n q (one h) low few size = zero_from batch 1 q h low
unused_zero batch n q (two some h) low few size = zero_from batch 2 q h low
unused_zero batch n q (four some h) low few size = zero_from batch 4 q h low
unused_zero batch n q (eight some) low few size = absurd (omega (arith, low, few))

-- the flags of a row tell how many
flags_count : {batch : List ℕ} {n : ℕ} → InUse batch n → (1 ⊞ 7 ⊠ bit_of (n == 8) ⊞ 3 ⊠ bit_of (n == 4) ⊞ bit_of (n == 2) ≡ n)
    × (bit_of (n == 8) + bit_of (n == 4) + bit_of (n == 2) ≤ 1) × (1 ≤ n) × (n ≤ 8)
flags_count (one h) = (refl, omega arith, omega arith, omega arith)
flags_count (two some h) = (refl, omega arith, omega arith, omega arith)
flags_count (four some h) = (refl, omega arith, omega arith, omega arith)
flags_count (eight some) = (refl, omega arith, omega arith, omega arith)

pub count_few : {batch : List ℕ} {n : ℕ} → InUse batch n → (1 ≤ n) × (n ≤ 8)
count_few u = ((flags_count u).2, (flags_count u).3)

-- ---- the first inverse

zero_mul : (a : ℕ) → a ⊠ 0 ≡ 0
zero_mul a = omega arith

inverse_mul : (a : ℕ) → a < prime → eqb a 0 ≡ false → a ⊠ felt_inv a ≡ 1
inverse_mul a low some =
    felt_mul-felt_inv a (let apart : a ≢ 0 = λ e. eqb-false a 0 some e in omega (arith, apart)) low

-- the sum of the products of two, and of four numbers with the inverse of the first that is not 0
two_sum : (a b : ℕ) → a < prime → b < prime → are_zero (a ∷ b ∷ []) ≡ false
    → a ⊠ slice_index (first_inverse (a ∷ b ∷ [])) 0 ⊞ b ⊠ slice_index (first_inverse (a ∷ b ∷ [])) 1 ≡ 1
two_sum a b la lb some = go (eqb a 0) (eqb b 0) refl refl
  where
    go : (x y : Bool) → eqb a 0 ≡ x → eqb b 0 ≡ y
        → a ⊠ slice_index (first_inverse (a ∷ b ∷ [])) 0 ⊞ b ⊠ slice_index (first_inverse (a ∷ b ∷ [])) 1 ≡ 1
    go false y i j = rw i (rw (inverse_mul a la i, zero_mul b) refl)
    go true false i j = rw (i, j) (rw (inverse_mul b lb j, zero_mul a) refl)
    go true true i j = let none : are_zero (a ∷ b ∷ []) ≡ true = rw (i, j) refl in off (sym some ∙ none)

four_sum : (a b c d : ℕ) → a < prime → b < prime → c < prime → d < prime → are_zero (a ∷ b ∷ c ∷ d ∷ []) ≡ false
    → a ⊠ slice_index (first_inverse (a ∷ b ∷ c ∷ d ∷ [])) 0 ⊞ b ⊠ slice_index (first_inverse (a ∷ b ∷ c ∷ d ∷ [])) 1
    ⊞ c ⊠ slice_index (first_inverse (a ∷ b ∷ c ∷ d ∷ [])) 2 ⊞ d ⊠ slice_index (first_inverse (a ∷ b ∷ c ∷ d ∷ [])) 3
    ≡ 1
four_sum a b c d la lb lc ld some = go (eqb a 0) (eqb b 0) (eqb c 0) (eqb d 0) refl refl refl refl
  where
    go : (x y z v : Bool) → eqb a 0 ≡ x → eqb b 0 ≡ y → eqb c 0 ≡ z → eqb d 0 ≡ v
        → a ⊠ slice_index (first_inverse (a ∷ b ∷ c ∷ d ∷ [])) 0 ⊞ b ⊠ slice_index (first_inverse (a ∷ b ∷ c ∷ d ∷ [])) 1
        ⊞ c ⊠ slice_index (first_inverse (a ∷ b ∷ c ∷ d ∷ [])) 2 ⊞ d ⊠ slice_index (first_inverse (a ∷ b ∷ c ∷ d ∷ [])) 3
        ≡ 1
    go false y z v i j k l = rw i (rw (inverse_mul a la i, zero_mul b, zero_mul c, zero_mul d) refl)
    go true false z v i j k l = rw (i, j) (rw (inverse_mul b lb j, zero_mul a, zero_mul c, zero_mul d) refl)
    go true true false v i j k l = rw (i, j, k) (rw (inverse_mul c lc k, zero_mul a, zero_mul b, zero_mul d) refl)
    go true true true false i j k l = rw (i, j, k, l) (rw (inverse_mul d ld l, zero_mul a, zero_mul b, zero_mul c) refl)
    go true true true true i j k l = let none : are_zero (a ∷ b ∷ c ∷ d ∷ []) ≡ true = rw (i, j, k, l) refl in off (sym some ∙ none)

-- ---- the row

-- a row's elements of hashing, its flags of a batch and its witnesses
pub record Cells (elements : List ℕ) (count : ℕ) (witnesses x : List ℕ) : Type 0 where
  pub hash : (j : ℕ) → j < 8 → h x j ≡ slice_index elements j
  pub eight : c x 0 ≡ bit_of (count == 8)
  pub four : c x 1 ≡ bit_of (count == 4)
  pub two : c x 2 ≡ bit_of (count == 2)
  pub witness : (j : ℕ) → j < 4 → w x j ≡ slice_index witnesses j

abbrev pub BatchCells : List ℕ → List ℕ → Type 0
BatchCells batch x = Cells batch (positions_in_use batch) (batch_witnesses batch) x

abbrev pub IsLaid : Line → List ℕ → Type 0
IsLaid l x = Cells l.hash l.in_use l.witnesses x

pub laid : (l : Line) → IsLaid l (laid_out l)
laid l = record { hash = col_h l; eight = col_c0 l; four = col_c1 l; two = col_c2 l; witness = col_w l }

bit_most : (b : Bool) → bit_of b < 2
bit_most true = omega arith
bit_most false = omega arith

pub positions_are : (batch x : List ℕ) → BatchCells batch x → positions x ≡ positions_in_use batch
unfolding positions
positions_are batch x cells = rw (cells.eight, cells.four, cells.two) (flags_count (in_use batch)).0

-- what the witnesses show, by how many positions are in use
record HasWitnesses (n : ℕ) (batch : List ℕ) (ws : List ℕ) : Type 0 where
  eight : n ≡ 8 → slice_index batch 4 ⊠ slice_index ws 0 ⊞ slice_index batch 5 ⊠ slice_index ws 1 ⊞ slice_index batch 6 ⊠ slice_index ws 2
      ⊞ slice_index batch 7 ⊠ slice_index ws 3 ≡ 1
  four : n ≡ 4 → slice_index batch 2 ⊠ slice_index ws 0 ⊞ slice_index batch 3 ⊠ slice_index ws 1 ≡ 1
  two : n ≡ 2 → slice_index batch 1 ⊠ slice_index ws 0 ≡ 1

other : {A : Type 0} (m n : ℕ) → m ≡ n → eqb m n ≡ false → A
other m n e apart = absurd (eqb-false m n apart e)

-- a list of eight elements
eight_of : (P : List ℕ → Type 0) → ((a0 a1 a2 a3 a4 a5 a6 a7 : ℕ) → P (a0 ∷ a1 ∷ a2 ∷ a3 ∷ a4 ∷ a5 ∷ a6 ∷ a7 ∷ []))
    → (batch : List ℕ) → length batch ≡ 8 → P batch
eight_of P f (a0 ∷ a1 ∷ a2 ∷ a3 ∷ a4 ∷ a5 ∷ a6 ∷ a7 ∷ []) size = f a0 a1 a2 a3 a4 a5 a6 a7
eight_of P f batch size = absurd (omega (arith, size))

front_some : (x y z : Bool) → x && (y && z) ≡ false → z ≡ true → x && (y && true) ≡ false
front_some x y z some rest = subst (λ b. x && (y && b) ≡ false) rest some

first_some : (x z : Bool) → x && z ≡ false → z ≡ true → x ≡ false
first_some x true some rest = some_is x some
  where
    some_is : (b : Bool) → b && true ≡ false → b ≡ false
    some_is true e = e
    some_is false e = refl
first_some x false some rest = off rest

one_sum : (a : ℕ) → a < prime → eqb a 0 ≡ false → a ⊠ slice_index (first_inverse (a ∷ [])) 0 ≡ 1
one_sum a low some = rw some (inverse_mul a low some)

-- eight elements
module _ (a0 a1 a2 a3 a4 a5 a6 a7 : ℕ) where
  abbrev elements : List ℕ
  elements = a0 ∷ a1 ∷ a2 ∷ a3 ∷ a4 ∷ a5 ∷ a6 ∷ a7 ∷ []

  witnesses_of : (n : ℕ) → InUse elements n → IsBatch elements → HasWitnesses n elements (first_inverse (take (n / 2) (drop (n / 2) elements)))
  witnesses_of n (one none) b = record { eight = λ e. other 1 8 e refl; four = λ e. other 1 4 e refl; two = λ e. other 1 2 e refl }
  witnesses_of n (two some none) b = record {
    eight = λ e. other 2 8 e refl;
    four = λ e. other 2 4 e refl;
    two = λ e. one_sum a1 (elements-index elements 1 b.below)
        (first_some (eqb a1 0) (are_zero (a2 ∷ a3 ∷ a4 ∷ a5 ∷ a6 ∷ a7 ∷ [])) some none);
  }
  witnesses_of n (four some none) b = record {
    eight = λ e. other 4 8 e refl;
    four = λ e. two_sum a2 a3 (elements-index elements 2 b.below) (elements-index elements 3 b.below)
        (front_some (eqb a2 0) (eqb a3 0) (are_zero (a4 ∷ a5 ∷ a6 ∷ a7 ∷ [])) some none);
    two = λ e. other 4 2 e refl;
  }
  witnesses_of n (eight some) b = record {
    eight = λ e. four_sum a4 a5 a6 a7 (elements-index elements 4 b.below) (elements-index elements 5 b.below)
        (elements-index elements 6 b.below) (elements-index elements 7 b.below) some;
    four = λ e. other 8 4 e refl;
    two = λ e. other 8 2 e refl;
  }

has_witnesses : (batch : List ℕ) → IsBatch batch → HasWitnesses (positions_in_use batch) batch (batch_witnesses batch)
has_witnesses batch b =
    let P : List ℕ → Type 0 = λ xs. IsBatch xs → (n : ℕ) → InUse xs n → HasWitnesses n xs (first_inverse (take (n / 2) (drop (n / 2) xs))) in
    eight_of P (λ a0 a1 a2 a3 a4 a5 a6 a7 w n u. witnesses_of a0 a1 a2 a3 a4 a5 a6 a7 n u w) batch b.size b (positions_in_use batch) (in_use batch)

count_is : (n k : ℕ) → bit_of (n == k) ≡ 1 → n ≡ k
count_is n k e = go (eqb n k) refl
  where
    go : (b : Bool) → eqb n k ≡ b → n ≡ k
    go true i = eqb-true n k i
    go false i = let zero_is : bit_of (eqb n k) ≡ 0 = rw i refl in absurd (omega (arith, e, zero_is))

pub batch_row : (batch x : List ℕ) → IsBatch batch → BatchCells batch x → ShowsBatch x
batch_row batch x b cells =
    let n : ℕ = positions_in_use batch in
    let u : InUse batch (positions_in_use batch) = in_use batch in
    let count : positions x ≡ positions_in_use batch = positions_are batch x cells in
    let ws : HasWitnesses (positions_in_use batch) batch (batch_witnesses batch) = has_witnesses batch b in
    record {
      is_batch = record {
        bits = below_by 3 (λ j. c x j < 2) (
          rw cells.eight (bit_most (positions_in_use batch == 8)),
          (rw cells.four (bit_most (positions_in_use batch == 4)), (rw cells.two (bit_most (positions_in_use batch == 2)), tt)),
        );
        most = rw (cells.eight, cells.four, cells.two) (flags_count u).1;
        room = rw count (flags_count u).3;
      };
      unused = λ q low few. cells.hash q few ∙ unused_zero batch (positions_in_use batch) q u (subst (λ k. k ≤ q) count low) few b.size;
      needed = record {
        eight = λ e. rw (
          cells.hash 4 (lit< tt),
          cells.hash 5 (lit< tt),
          cells.hash 6 (lit< tt),
          cells.hash 7 (lit< tt),
          cells.witness 0 (lit< tt),
          cells.witness 1 (lit< tt),
          cells.witness 2 (lit< tt),
          cells.witness 3 (lit< tt),
        )
            (ws.eight (count_is (positions_in_use batch) 8 (sym cells.eight ∙ e)));
        four = λ e. rw (cells.hash 2 (lit< tt), cells.hash 3 (lit< tt), cells.witness 0 (lit< tt), cells.witness 1 (lit< tt))
            (ws.four (count_is (positions_in_use batch) 4 (sym cells.four ∙ e)));
        two = λ e. rw (cells.hash 1 (lit< tt), cells.witness 0 (lit< tt)) (ws.two (count_is (positions_in_use batch) 2 (sym cells.two ∙ e)));
      };
    }
