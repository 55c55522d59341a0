-- What the entries of a batch's row say where they are 0, and back.
use Rattle.facts_main.proofs.Words.{◌≡◌, ℕ, zero, suc, ◌+◌, ◌<◌, ◌≤◌, true, false, ◌&&◌, ◌||◌, cond, eqb, nat_lt, nat_le, List, slice_index, refl}
use Rattle.facts_main.proofs.Words.{subst, arith, lit<, lit≤, ◌≢◌, ◌⊎◌, inl, inr, ⊎_elim, nat_tests, prime, felt_add, felt_sub, felt_mul, Op, h, c}
use Rattle.facts_main.proofs.Words.{HasOp, HasOps, op_of, Claim, Spot, on_row, family, is_batch_op, positions, main_values, AllZero, IsBatchRow}
use Rattle.facts_main.proofs.Words.{OpensBatch, ShowsBatch, UsesHalf}
use Rattle.vm_field.proofs.Algebra.{felt_mul-zero_first}
use Rattle.vm_ops.specs.declared.op.Op.TheVariants as ops
use Rattle.air_kit.specs.BlockValues.{batches}
use Rattle.air_kit.specs.SpanValues.{span_values, batch_values, size_flags, unused, entry_92, entry_95, entry_96, entry_103, entry_104, entry_105, entry_106}
use Rattle.facts_main.proofs.Zeros.{zero_back, zero_family, zero_front}
use Rattle.facts_main.proofs.Says.{Says, says_as, rest_low, rest_says, zero_says, sub_says, gate, gate_bit, gate_if, gate_product_if, one_bit, both, both_say, either_or}
use Rattle.facts_main.proofs.Hot.{hot, row_says}
use Rattle.facts_main.proofs.Means.{Means, ◌▸◌, ◌⧺◌, ◌&◌, each, given, means_as, nothing}
use Rattle.facts_main.proofs.SpotSays.{Behind, row_at, pair_at}
use Rattle.facts_main.proofs.OpcodeFacts.{main_parts, row_has_op}

-- the flags of batches
pub batches_is : (op : Op) → batches (hot op) ≡ cond (is_batch_op op) 1 0
unfolding batches
batches_is ops.Span = refl
batches_is op = refl

size_low : (x : List ℕ) → size_flags x < prime
unfolding size_flags
size_low x = rest_low _

-- ---- the positions in use, by three bits of which at most one is set

abbrev positions_by : ℕ → ℕ → ℕ → ℕ
positions_by i j k = felt_add (felt_add (felt_add 1 (felt_mul 7 i)) (felt_mul 3 j)) k

few : (i j k : ℕ) → i < 2 → j < 2 → k < 2 → felt_add (felt_add i j) k < 2 → i + j + k ≤ 1
few i j k hi hj hk h = omega arith

size_by : (i j k : ℕ) → i + j + k ≤ 1 → felt_add (felt_add i j) k < 2
size_by i j k most = omega arith

room_by : (i j k : ℕ) → i + j + k ≤ 1 → positions_by i j k ≤ 8
room_by i j k most = omega arith

some_by : (i j k : ℕ) → i + j + k ≤ 1 → 1 ≤ positions_by i j k
some_by i j k most = omega arith

size_of : (x : List ℕ) → IsBatchRow x → size_flags x < 2
unfolding size_flags
size_of x batch = size_by (c x 0) (c x 1) (c x 2) batch.most

batch_row_from : (x : List ℕ) → ((j : ℕ) → j < 3 → c x j < 2) → size_flags x < 2 → IsBatchRow x
unfolding size_flags positions
batch_row_from x bits size =
    let most : c x 0 + c x 1 + c x 2 ≤ 1 = few (c x 0) (c x 1) (c x 2) (bits 0 (lit< tt)) (bits 1 (lit< tt)) (bits 2 (lit< tt)) size in
    record { bits = bits; most = most; room = room_by (c x 0) (c x 1) (c x 2) most }

batch_row_at : (p : Spot) (op : Op) → HasOp p.cur op → ((k : ℕ) → slice_index p.cur k < prime) → AllZero (batch_values p) → is_batch_op op ≡ true
    → IsBatchRow p.cur
unfolding batch_values entry_92 entry_95
batch_row_at p op has low zeros is =
    batch_row_from p.cur
    (λ j few. (row_says (entry_92 j) has (gate_bit (batches_is op) (low (27 + j)))).shown (zero_family 3 _ (zero_front _ _ zeros) j few) is)
    ((row_says entry_95 has (gate_bit (batches_is op) (size_low p.cur))).shown (zero_back (family 3 (λ j. on_row (entry_92 j) p)) _ zeros 0) is)

pub batch_row : (k : Claim) (p : Spot) → ((i : ℕ) → slice_index p.cur i < prime) → AllZero (main_values k p) → is_batch_op (op_of p.cur) ≡ true
    → IsBatchRow p.cur
unfolding span_values
batch_row k p low zeros is =
    let parts = main_parts k p zeros in
    batch_row_at p (op_of p.cur) (row_has_op p low parts.opcode) low (zero_front (batch_values p) _ parts.span) is

-- what holds at each of the four numbers of positions
module _ (P : ℕ → ℕ → ℕ → Type 0) (none : P 0 0 0) (first : P 1 0 0) (second : P 0 1 0) (third : P 0 0 1) where
  at_bits : (i j k : ℕ) → i + j + k ≤ 1 → P i j k
  at_bits zero zero zero most = none
  at_bits (suc zero) zero zero most = first
  at_bits zero (suc zero) zero most = second
  at_bits zero zero (suc zero) most = third
  at_bits i j k most = absurd (omega arith)

abbrev unused_by : ℕ → ℕ → ℕ → ℕ → ℕ
unused_by q i j k = cond (eqb q 1) (felt_sub (felt_sub (felt_sub 1 i) j) k) (cond (nat_lt q 4) (felt_sub (felt_sub 1 i) j) (felt_sub 1 i))

-- 1 where the position is not in use
unused_at : (q i j k : ℕ) → i + j + k ≤ 1 → q < 7 → unused_by (q + 1) i j k ≡ cond (nat_le (positions_by i j k) (q + 1)) 1 0
unused_at (suc (suc (suc (suc (suc (suc (suc q))))))) i j k most h = absurd (omega arith)
unused_at q i j k most h =
    at_bits (λ i j k. unused_by (q + 1) i j k ≡ cond (nat_le (positions_by i j k) (q + 1)) 1 0) refl refl refl refl i j k most

unused_is : (x : List ℕ) (q : ℕ) → IsBatchRow x → q < 7 → unused (q + 1) x ≡ cond (nat_le (positions x) (q + 1)) 1 0
unfolding unused positions
unused_is x q batch h = unused_at q (c x 0) (c x 1) (c x 2) batch.most h

unused_from : (x : List ℕ) → IsBatchRow x → ((j : ℕ) → j < 7 → positions x ≤ j + 1 → h x (j + 1) ≡ 0) → (q : ℕ) → positions x ≤ q → q < 8 → h x q ≡ 0
unfolding positions
unused_from x batch each zero le few = absurd (let some = some_by (c x 0) (c x 1) (c x 2) batch.most in omega (arith, some, le))
unused_from x batch each (suc j) le few = let e : j + 1 ≡ suc j = omega arith in subst (λ n. h x n ≡ 0) e (each j (omega arith) (omega (arith, le)))

reaches : (n q : ℕ) → n ≤ q → nat_le n q ≡ true
reaches n q h = grind (arith, nat_tests)

reached : (n q : ℕ) → nat_le n q ≡ true → n ≤ q
reached n q e = grind (arith, nat_tests)

unused_says : (x : List ℕ) (j : ℕ) → IsBatchRow x → j < 7 → h x (j + 1) < prime
    → Says (felt_mul (unused (j + 1) x) (h x (j + 1))) (positions x ≤ j + 1 → h x (j + 1) ≡ 0)
unused_says x j batch few low =
    says_as (gate (unused_is x j batch few) (zero_says low)) (λ f le. f (reaches (positions x) (j + 1) le))
    (λ f e. f (reached (positions x) (j + 1) e))

two_apart : (i j k : ℕ) → i + j + k ≤ 1 → eqb i 1 && eqb j 1 ≡ false
two_apart i j k most = grind (arith, nat_tests)

three_apart : (i j k : ℕ) → i + j + k ≤ 1 → (eqb i 1 || eqb j 1) && eqb k 1 ≡ false
three_apart i j k most = grind (arith, nat_tests)

left_by : (v i j k : ℕ) → v < prime → i + j + k ≤ 1
    → Says (felt_sub (felt_sub (felt_sub v (felt_mul 7 i)) (felt_mul 3 j)) k) (v + 1 ≡ positions_by i j k)
left_by v i j k low most = rest_says _ (λ z. omega arith) (λ e. omega arith)

-- ---- the entries

pub batch_means : (op : Op) (p : Spot) → HasOps op p
    → Means (batch_values p) ((is_batch_op op ≡ true → ShowsBatch p.cur) × Behind p (λ y. is_batch_op op ≡ true → OpensBatch p.cur y))
unfolding batch_values positions entry_92 entry_95 entry_96 entry_103 entry_104 entry_105 entry_106
batch_means op p r =
    given {A = is_batch_op op ≡ true → IsBatchRow p.cur} (λ z is. batch_row_at p op r.here.has low z is) (λ h is. (h.0 is).is_batch) (λ batch. means_as
    (each 3 (λ j few. row_at (entry_92 j) r (gate_bit flag (low (27 + j)))) ⧺ row_at entry_95 r (gate_bit flag (size_low p.cur))
    ▸ each 7 (λ j few. row_at (entry_96 j) r (gate_product_if _ _ flag (λ is. unused_says p.cur j (batch is) few (low (16 + (j + 1))))))
    ⧺ row_at entry_103 r (gate_if flag (rest_low _) (λ is. let b = batch is in
    says_as (both_say (both (one_bit (b.bits 0 (lit< tt)) (sub_says (rest_low _) (lit< tt))) (one_bit (b.bits 1 (lit< tt)) (sub_says (rest_low _) (lit< tt)))
    (two_apart _ _ _ b.most)) (one_bit (b.bits 2 (lit< tt)) (sub_says (rest_low _) (lit< tt))) (three_apart _ _ _ b.most))
    (λ h. record { eight = h.0.0; four = h.0.1; two = h.1 }) (λ n. ((n.eight, n.four), n.two))))
    ▸ pair_at entry_104 r (λ y n. gate flag (sub_says (n.low 16) (low 16)))
    ▸ pair_at entry_105 r (λ y n. gate_if flag (rest_low _) (λ is. left_by _ _ _ _ (n.low 25) (batch is).most))
    ▸ pair_at entry_106 r (λ y n. gate flag (zero_says (n.low 26))) ▸ nothing)
    (λ (bits, (size, (unused, (needed, (group, (left, (place, done))))))). (
      λ is. record { is_batch = batch is; unused = unused_from p.cur (batch is) (λ j few. unused j few is); needed = needed is },
      λ y e is. record { group = group y e is; left = left y e is; place = place y e is },
    ))
    (λ (row, opens). (λ j few is. (batch is).bits j few) & (λ is. size_of p.cur (batch is))
    & (λ j few is le. (row is).unused (j + 1) le (omega (arith, few))) & (λ is. (row is).needed) & (λ y e is. (opens y e is).group)
    & (λ y e is. (opens y e is).left) & (λ y e is. (opens y e is).place) & tt))
  where
    low : (j : ℕ) → slice_index p.cur j < prime
    low = r.here.low

    flag : batches (hot op) ≡ cond (is_batch_op op) 1 0
    flag = batches_is op

-- ---- what the witnesses of a batch show

-- a sum of products that is 1 has a factor that is not 0
some_factor : (i u : ℕ) → felt_mul i u ≡ 1 → i ≢ 0
some_factor i u one e = let z = felt_mul-zero_first i u e in omega arith

some_of : {n : ℕ} (i u : ℕ) → n < prime → felt_add n (felt_mul i u) ≡ 1 → (i ≢ 0) ⊎ (n ≡ 1)
some_of {n = n} i u low one =
    ⊎_elim (λ e. inr (let z = felt_mul-zero_first i u e in omega arith)) (λ apart. inl apart) (either_or i 0)

pub half_used : (x : List ℕ) → ShowsBatch x → 1 < positions x → UsesHalf x
unfolding positions
half_used x shows several =
    at_bits (λ i j k. c x 0 ≡ i → c x 1 ≡ j → c x 2 ≡ k → UsesHalf x) (λ ei ej ek. absurd (omega arith))
    (λ ei ej ek. let used : (q : ℕ) → 4 ≤ q → q < 8 → h x q ≢ 0 → UsesHalf x =
    λ q le few some. record { place = q; behind = omega arith; within = omega arith; some = some } in
    ⊎_elim (used 7 (lit≤ tt) (lit< tt)) (λ e. ⊎_elim (used 6 (lit≤ tt) (lit< tt)) (λ e. ⊎_elim (used 5 (lit≤ tt) (lit< tt))
    (λ e. used 4 (lit≤ tt) (lit< tt) (some_factor _ _ e)) (some_of _ _ (rest_low _) e)) (some_of _ _ (rest_low _) e))
    (some_of _ _ (rest_low _) (shows.needed.eight ei)))
    (λ ei ej ek. let used : (q : ℕ) → 2 ≤ q → q < 4 → h x q ≢ 0 → UsesHalf x =
    λ q le few some. record { place = q; behind = omega arith; within = omega arith; some = some } in
    ⊎_elim (used 3 (lit≤ tt) (lit< tt)) (λ e. used 2 (lit≤ tt) (lit< tt) (some_factor _ _ e)) (some_of _ _ (rest_low _) (shows.needed.four ej)))
    (λ ei ej ek. record { place = 1; behind = omega arith; within = omega arith; some = some_factor _ _ (shows.needed.two ek) })
    (c x 0) (c x 1) (c x 2) shows.is_batch.most refl refl refl
