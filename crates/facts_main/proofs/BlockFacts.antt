-- What the entries 70 to 91 say where they are 0, and back.
use Rattle.facts_main.proofs.Words.{◌≡◌, ◌⊎◌, ℕ, zero, suc, ◌+◌, ◌<◌, ◌≤◌, Bool, true, false, ◌&&◌, ◌||◌, not, cond, eqb, List, slice_index, refl, sym, ap, ◌∙◌, inl, inr}
use Rattle.facts_main.proofs.Words.{arith, lit<, ◌^◌, prime, felt_add, felt_sub, is_ordinary_op, is_start_op, Op, h, s}
use Rattle.facts_main.proofs.Words.{is_op, is_call_op, is_batch_op, op_of, may_follow, Spot, HasOps, IsBlockRow, IsEndRow, KeepsBatch, KeepsBlock, ends_call, keeps_digest}
use Rattle.vm_ops.specs.declared.op.Op.TheVariants as ops
use Rattle.air_kit.specs.BlockValues.{starts, calls, returns, stays_inside, kind_flags, block_values, shown_values, kept_values, entry_70, entry_74, entry_75, entry_79, entry_80, entry_81, entry_82, entry_83, entry_84, entry_85, entry_89, entry_90, entry_91}
use Rattle.facts_main.specs.Blocks.{stays_in_function, keeps_frame, keeps_block}
use Rattle.facts_main.proofs.Says.{Says, never, rest_low, rest_says, zero_says, sub_says, sub_twice_says, gate, gate_bit, one, both, both_say, less_one, less_more, any_or_none, tested_bit, and_false}
use Rattle.facts_main.proofs.Hot.{hot}
use Rattle.facts_main.proofs.Means.{Means, ◌▸◌, ◌⧺◌, ◌&◌, each, means_as, nothing, part_then}
use Rattle.facts_main.proofs.SpotSays.{Behind, row_at, pair_at}
use Rattle.facts_main.proofs.FollowFacts.{Conditions, follow_means, starts_is}

-- each cell is an element
abbrev pub Low : List ℕ → Type 0
Low x = (k : ℕ) → slice_index x k < prime

-- ---- flags as tests

pub calls_is : (op : Op) → calls (hot op) ≡ cond (is_call_op op) 1 0
unfolding calls
calls_is ops.Call = refl
calls_is op = refl

singles : (op : Op) → felt_add (felt_add (hot op ops.Loop) (cond (is_call_op op) 1 0)) (hot op ops.Dyn)
    ≡ cond (is_op op ops.Loop || is_call_op op || is_op op ops.Dyn) 1 0
singles ops.Loop = refl
singles op = refl

singles_is : (op : Op) → felt_add (felt_add (hot op ops.Loop) (calls (hot op))) (hot op ops.Dyn)
    ≡ cond (is_op op ops.Loop || is_call_op op || is_op op ops.Dyn) 1 0
singles_is op = ap (λ n. felt_add (felt_add (hot op ops.Loop) n) (hot op ops.Dyn)) (calls_is op) ∙ singles op

few_flags : (i j k l : ℕ) → i + j + k + l ≤ 1 → felt_add k l < 2
few_flags i j k l most = omega (arith, most)

call_or_end : (op : Op) (x : List ℕ) → is_call_op op && ends_call op x ≡ false
call_or_end ops.Call x = refl
call_or_end op x = refl

one_call_or_end : (op : Op) (x : List ℕ) → is_op op ops.Call && ends_call op x ≡ false
one_call_or_end ops.Call x = refl
one_call_or_end op x = refl

frame_or_call : (op : Op) (x : List ℕ) → (is_call_op op || ends_call op x) && is_op op ops.FmpUpdate ≡ false
frame_or_call ops.End x = and_false (eqb (felt_add (h x 6) (h x 7)) 1)
frame_or_call op x = refl

-- the tests of an END's row, whose flags are bits
module _ (op : Op) (x : List ℕ) (ends : is_op op ops.End ≡ true → IsEndRow x) where
  pub returns_is : returns (hot op) x ≡ cond (ends_call op x) 1 0
  unfolding returns
  returns_is = tested_bit (is_op op ops.End) (felt_add (h x 6) (h x 7)) (λ is. few_flags (h x 4) (h x 5) (h x 6) (h x 7) (ends is).most)

  inside_is : stays_inside (hot op) x ≡ cond (stays_in_function op x) 1 0
  unfolding stays_inside
  inside_is = less_more _ _ (less_one _ (calls_is op)) returns_is (call_or_end op x)

  digest_is : felt_sub (felt_sub 1 (hot op ops.Call)) (returns (hot op) x) ≡ cond (keeps_digest op x) 1 0
  digest_is = less_more _ _ (less_one (is_op op ops.Call) refl) returns_is (one_call_or_end op x)

  frame_is : felt_sub (stays_inside (hot op) x) (hot op ops.FmpUpdate) ≡ cond (keeps_frame op x) 1 0
  frame_is = less_more _ (is_op op ops.FmpUpdate) inside_is refl (frame_or_call op x)

start_or_end : (op : Op) → is_start_op op && is_op op ops.End ≡ false
start_or_end ops.Join = refl
start_or_end op = refl

block_is : (op : Op) → felt_sub (felt_sub 1 (starts (hot op))) (hot op ops.End) ≡ cond (keeps_block op) 1 0
block_is op = less_more _ (is_op op ops.End) (less_one _ (starts_is op)) refl (start_or_end op)

-- ---- the row

kinds_low : (x : List ℕ) → kind_flags x < prime
unfolding kind_flags
kinds_low x = rest_low _

-- an END's flags: each a bit, and at most one of them set
few_kinds : (x : List ℕ) → ((j : ℕ) → j < 4 → h x (4 + j) < 2) → kind_flags x < 2 → h x 4 + h x 5 + h x 6 + h x 7 ≤ 1
unfolding kind_flags
few_kinds x bits few = by (h x 4) (h x 5) (h x 6) (h x 7) (bits 0 (lit< tt)) (bits 1 (lit< tt)) (bits 2 (lit< tt)) (bits 3 (lit< tt)) few
  where
    by : (i j k l : ℕ) → i < 2 → j < 2 → k < 2 → l < 2 → felt_add (felt_add (felt_add i j) k) l < 2 → i + j + k + l ≤ 1
    by i j k l hi hj hk hl few = omega arith

most_kinds : (x : List ℕ) → IsEndRow x → kind_flags x < 2
unfolding kind_flags
most_kinds x row = by (h x 4) (h x 5) (h x 6) (h x 7) row.most
  where
    by : (i j k l : ℕ) → i + j + k + l ≤ 1 → felt_add (felt_add (felt_add i j) k) l < 2
    by i j k l most = omega arith

-- what the END of an entered loop shows
stops_at : (i k : ℕ) → (i ≡ 0) ⊎ (k ≡ 0) → i ≡ 1 → k ≡ 0
stops_at i k (inl z) one_is = absurd (omega arith)
stops_at i k (inr z) one_is = z

stops_or : (i k : ℕ) → i < 2 → (i ≡ 1 → k ≡ 0) → (i ≡ 0) ⊎ (k ≡ 0)
stops_or zero k low h = inl refl
stops_or (suc zero) k low h = inr (h refl)
stops_or (suc (suc i)) k low h = absurd (omega arith)

conditions_of : (op : Op) (x : List ℕ) → IsBlockRow op x → Conditions op x
conditions_of op x row = record {
  condition = row.condition;
  again = row.again;
  stops = λ is. stops_or (h x 4) (s x 0) ((row.ends is).bits 0 (lit< tt)) (row.ends is).stops;
}

shown_means : (op : Op) (p : Spot) → HasOps op p → Conditions op p.cur → Means (shown_values p) (IsBlockRow op p.cur)
unfolding shown_values entry_70 entry_74 entry_75 entry_79 entry_80 entry_81
shown_means op p r c =
    means_as
    (each 4 (λ j few. row_at (entry_70 j) r (gate_bit refl (r.here.low (16 + (4 + j)))))
    ⧺ row_at entry_74 r (gate_bit refl (kinds_low p.cur))
    ▸ each 4 (λ j few. row_at (entry_75 j) r (gate (singles_is op) (zero_says (r.here.low (16 + (4 + j))))))
    ⧺ row_at entry_79 r (gate (calls_is op) (zero_says (r.here.low 3))) ▸ row_at entry_80 r (gate refl (sub_says (lit< tt) (r.here.low 3)))
    ▸ row_at entry_81 r (gate refl (zero_says (r.here.low 8))) ▸ nothing)
    (λ (bits, (kinds, (none, (outside, (inside, (closed, done)))))). record {
      condition = c.condition;
      again = c.again;
      ends = λ is. record {
        bits = λ j few. bits j few is;
        most = few_kinds p.cur (λ j few. bits j few is) (kinds is);
        stops = stops_at (h p.cur 4) (s p.cur 0) (c.stops is);
      };
      single = λ is j few. none j few is;
      outside = outside;
      inside = λ is. sym (inside is);
      closed = closed;
    })
    (λ row. (λ j few is. (row.ends is).bits j few) & (λ is. most_kinds p.cur (row.ends is)) & (λ j few is. row.single is j few) & row.outside
    & (λ is. sym (row.inside is)) & row.closed & tt)

-- ---- the row behind it

one_call : (op : Op) → is_op op ops.Call && is_op op ops.Syscall ≡ false
one_call ops.Call = refl
one_call op = refl

update_or_call : (op : Op) → is_call_op op && is_op op ops.FmpUpdate ≡ false
update_or_call ops.Call = refl
update_or_call op = refl

moves_or_keeps : (t r q : Bool) → (t || q) && not (t || r || q) ≡ false
moves_or_keeps true r q = refl
moves_or_keeps false true true = refl
moves_or_keeps false true false = refl
moves_or_keeps false false true = refl
moves_or_keeps false false false = refl

level_says : {i k f : ℕ} (t u : Bool) → f ≡ cond t 1 0 → t && u ≡ false → i < prime → k < prime
    → Says (felt_add (felt_sub (felt_sub i k) f) (cond u 1 0)) (i ≡ cond t (felt_add k 1) (cond u (felt_sub k 1) k))
level_says true true e apart li lk = never apart
level_says true false e apart li lk = rest_says _ (λ z. omega arith) (λ k. omega arith)
level_says false true e apart li lk = rest_says _ (λ z. omega arith) (λ k. omega arith)
level_says false false e apart li lk = rest_says _ (λ z. omega arith) (λ k. omega arith)

one_batch : (op : Op) → is_op op ops.Span && is_op op ops.Respan ≡ false
one_batch ops.Span = refl
one_batch op = refl

batch_or_ordinary : (op : Op) → is_batch_op op && is_ordinary_op op ≡ false
batch_or_ordinary ops.Span = refl
batch_or_ordinary op = refl

kept_means : (op : Op) (p : Spot) → HasOps op p → IsBlockRow op p.cur
    → Means (kept_values p) (Behind p (λ y. KeepsBlock op p.cur y) × Behind p (λ y. KeepsBatch op p.cur y))
unfolding kept_values entry_82 entry_83 entry_84 entry_85 entry_89 entry_90 entry_91
kept_means op p r row =
    means_as
    (pair_at entry_82 r (λ y n.
    both_say (both (one refl (sub_twice_says {k = 1} (n.low 2) (low 0) (lit< tt))) (one refl (zero_says (n.low 2))) (one_call op))
    (one inside (sub_says (n.low 2) (low 2))) (any_or_none _ _))
    ▸ pair_at entry_83 r (λ y n.
    both_say (both (both (one refl (sub_says {b = 2 ^ 30} (n.low 1) (lit< tt))) (one refl (sub_says {b = 2 ^ 31} (n.low 1) (lit< tt))) (one_call op))
    (one refl (sub_twice_says (n.low 1) (low 1) (low 30))) (update_or_call op))
    (one (frame_is op p.cur row.ends) (sub_says (n.low 1) (low 1))) (moves_or_keeps (is_call_op op) _ _))
    ▸ pair_at entry_84 r (λ y n.
    both_say (both (one refl (zero_says (n.low 3))) (one refl (sub_says {b = 1} (n.low 3) (lit< tt))) (one_call op))
    (one inside (sub_says (n.low 3) (low 3))) (any_or_none _ _))
    ▸ each 4 (λ j few. pair_at (entry_85 j) r (λ y n.
    both_say (one refl (sub_says (n.low (4 + j)) (low (16 + j)))) (one (digest_is op p.cur row.ends) (sub_says (n.low (4 + j)) (low (4 + j))))
    (any_or_none _ _)))
    ⧺ pair_at entry_89 r (λ y n. gate (block_is op) (sub_says (n.low 8) (low 8)))
    ▸ pair_at entry_90 r (λ y n. level_says (is_start_op op) (is_op op ops.End) (starts_is op) (start_or_end op) (n.low 50) (low 50))
    ▸ pair_at entry_91 r (λ y n.
    both_say (both (one refl (sub_says (n.low 49) (n.low 8))) (one refl (sub_twice_says {k = 8} (n.low 49) (low 49) (lit< tt))) (one_batch op))
    (one r.here.span (sub_says (n.low 49) (low 49))) (batch_or_ordinary op)) ▸ nothing)
    (λ (context, (frame, (syscall, (digest, (block, (level, (batch, done))))))). (
      λ y e. record {
        call = λ is. record {
          context = (context y e).0.0 is;
          frame = (frame y e).0.0.0 is;
          syscall = (syscall y e).0.0 is;
          digest = λ j few. (digest j few y e).0 is;
        };
        syscall = λ is. record { context = (context y e).0.1 is; frame = (frame y e).0.0.1 is; syscall = (syscall y e).0.1 is };
        function = λ is. ((context y e).1 is, (syscall y e).1 is);
        digest = λ is j few. (digest j few y e).1 is;
        frame = (frame y e).1;
        frame_moves = (frame y e).0.1;
        block = block y e;
        level = level y e;
      },
      λ y e. record { first = (batch y e).0.0; later = (batch y e).0.1; same = (batch y e).1 },
    ))
    (λ (keeps, batch).
    (λ y e. ((λ is. ((keeps y e).call is).context, λ is. ((keeps y e).syscall is).context), λ is. ((keeps y e).function is).0))
    & (λ y e. (((λ is. ((keeps y e).call is).frame, λ is. ((keeps y e).syscall is).frame), (keeps y e).frame_moves), (keeps y e).frame))
    & (λ y e. ((λ is. ((keeps y e).call is).syscall, λ is. ((keeps y e).syscall is).syscall), λ is. ((keeps y e).function is).1))
    & (λ j few y e. (λ is. ((keeps y e).call is).digest j few, λ is. (keeps y e).digest is j few)) & (λ y e. (keeps y e).block)
    & (λ y e. (keeps y e).level) & (λ y e. (((batch y e).first, (batch y e).later), (batch y e).same)) & tt)
  where
    low : Low p.cur
    low = r.here.low

    inside : stays_inside (hot op) p.cur ≡ cond (stays_in_function op p.cur) 1 0
    inside = inside_is op p.cur row.ends

-- all entries on blocks
pub block_means : (op : Op) (p : Spot) → HasOps op p
    → Means (block_values p) (IsBlockRow op p.cur × Behind p (λ y. may_follow op (s p.cur 0) (op_of y) ≡ true)
    × Behind p (λ y. KeepsBlock op p.cur y) × Behind p (λ y. KeepsBatch op p.cur y))
unfolding block_values
block_means op p r =
    means_as (part_then (follow_means op p r) (λ c. part_then (shown_means op p r c.0) (kept_means op p r)))
    (λ h. (h.1.0, h.0.1, h.1.1.0, h.1.1.1)) (λ h. ((conditions_of op p.cur h.0, h.1), (h.0, (h.2, h.3))))
