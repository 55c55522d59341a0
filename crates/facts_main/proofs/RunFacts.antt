-- What follows from the facts of rows by themselves: clocks, where HALT stands, and how the buses' tests read a row.
use Rattle.facts_main.proofs.Words.{◌≡◌, ◌↔◌, ℕ, zero, suc, ◌<◌, ◌⊎◌, inl, inr, Bool, true, false, not, cond, eqb, List, length, refl, sym, ap, ◌∙◌, arith}
use Rattle.facts_main.proofs.Words.{prime, felt_add, code_of, Op, clk, h, s, is_left, is_op, op_of, row_shifts_left, Claim, has_op-op_of, may_follow}
use Rattle.facts_main.proofs.Words.{IsGroupRow, ShowsRows, op_in, ReadsAs, mover}
use Rattle.vm_ops.specs.declared.op.Op.TheVariants as ops
use Rattle.air_kit.specs.SpanValues.{rest_flag}
use Rattle.vm_table.specs.Layout.{row_at}
use Rattle.facts_main.proofs.DepthFacts.{mover_left}
use Rattle.facts_main.proofs.GroupFacts.{flag_is}
use Rattle.facts_main.proofs.Says.{never, off}

-- ---- clocks, and the last row

next_clock : (c i : ℕ) → c ≡ i → suc i < prime → felt_add c 1 ≡ suc i
next_clock c i e few = omega (arith, e, few)

pub clock_is : (k : Claim) (rows : List (List ℕ)) → ShowsRows k rows → length rows < prime → (i : ℕ) → i < length rows → clk (row_at rows i) ≡ i
clock_is k rows shows few zero h = (shows.first h).start.clock
clock_is k rows shows few (suc i) h =
    (shows.pair_is i h).pair.clock ∙ next_clock (clk (row_at rows i)) i (clock_is k rows shows few i (omega (arith, h))) (omega (arith, h, few))

none_follows : (op next : Op) (top : ℕ) → is_op op ops.Halt ≡ true → may_follow op top next ≡ false
none_follows ops.Halt next top is = refl
none_follows ops.Noop next top is = off is
none_follows op next top is = off is

pub halts_last : (k : Claim) (rows : List (List ℕ)) → ShowsRows k rows → (i : ℕ) → i < length rows
    → (is_op (op_in rows i) ops.Halt ≡ true) ↔ (suc i ≡ length rows)
halts_last k rows shows i h = (there, λ e. (shows.last i e).halts)
  where
    within : (suc i < length rows) ⊎ (suc i ≡ length rows)
    within = grind arith

    go : (suc i < length rows) ⊎ (suc i ≡ length rows) → is_op (op_in rows i) ops.Halt ≡ true → suc i ≡ length rows
    go (inl more) is =
        never (sym (shows.pair_is i more).pair.follows ∙ none_follows (op_in rows i) (op_in rows (suc i)) (s (row_at rows i) 0) is)
    go (inr e) is = e

    there : is_op (op_in rows i) ops.Halt ≡ true → suc i ≡ length rows
    there is = go within is

-- ---- how the tests of buses read a row

pub op_is : (op : Op) (x : List ℕ) → ReadsAs op x → op_of x ≡ op
op_is op x reads = has_op-op_of x op reads.has

none_left : (t : Bool) → eqb (cond (not t) 1 0) 0 ≡ t
none_left true = refl
none_left false = refl

pub nothing_left : (op : Op) (x : List ℕ) → ReadsAs op x → IsGroupRow op x → eqb (rest_flag x) 0 ≡ eqb (h x 0) (code_of op)
nothing_left op x reads row = ap (λ n. eqb n 0) (flag_is op x reads.has reads.low row.witness) ∙ none_left (eqb (h x 0) (code_of op))

pub shifts_left_is : (x : List ℕ) → row_shifts_left x ≡ is_left (mover (op_of x) x)
shifts_left_is x = mover_left (op_of x) (eqb (h x 4) 1)
