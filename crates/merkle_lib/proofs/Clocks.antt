-- No operation but CLK sees the clock, and none sees how many blocks are open: with others in their place a list without CLK
-- does the same. So NOOPs and the cycles that begin and end a span change nothing of what it does.
use Rattle.std.proofs.Common.{◌≡◌, ℕ, ◌+◌, ◌≤◌, Bool, true, false, ◌==◌, eqb-true, List, [], ◌∷◌, ◌++◌, length, drop, slice_index, Option, Result, Ok, Err, refl, sym, ap, subst, ◌∙◌}
use Rattle.std.specs.List.{AllByRecursion}
use Rattle.vm_field.specs.Limits.{number_of_constants}
use Rattle.vm_field.specs.Machine.{Core, State, filled_up}
use Rattle.vm_ops.specs.declared.item.Item.{Item}
use Rattle.vm_ops.specs.declared.op.Op.{Op}
use Rattle.vm_ops.specs.declared.op.Op.TheVariants as ops
use Rattle.vm_ops.specs.declared.cause.Cause.{Cause}
use Rattle.vm_ops.specs.Codes.{code_of}
use Rattle.vm_ops.specs.Runs.{after_ok, run}
use Rattle.vm_ops.specs.Moves.{takes_of}
use Rattle.vm_ops.specs.Step.{left_cells, memory_with, stack_after, step}
use Rattle.vm_ops.specs.Stepping.{seen_at, state_after}
use Rattle.vm_ops.specs.Values.{Seen, advice_of, computed, fmp_after, trap_of, written}
use Rattle.vm_ops.proofs.CodeLemmas.{code_of-different}
use Rattle.vm_ops.proofs.FrameLemmas.{filled_up-deep}
use Rattle.vm_ops.proofs.RunLemmas.{run-cons, run-nil}
use Rattle.vm_ops.proofs.StepLemmas.{stepped, step-goes}
use Rattle.op_pack.specs.RoundTrip.{is_noop, without_noops}
use Rattle.op_pack.proofs.NoopLemmas.{kept, skipped}
use Rattle.masm_effects.proofs.Sized.{IsSized, step-sized}

-- the same state at another clock, with another count of open blocks
abbrev pub at : ℕ → ℕ → State → State
at clock nesting s = record { core = record s.core { clock = clock; nesting = nesting }; tape = s.tape }

-- the second is the first at some clock
pub record Like (s t : State) : Type 0 where
  pub clock : ℕ
  pub nesting : ℕ
  pub is : t ≡ at clock nesting s

abbrev later : ℕ → Seen → Seen
later clock v = record v { clock = clock }

abbrev pub is_clocked : Op → Bool
is_clocked op = code_of op == code_of ops.Clk

abbrev pub IsUnclocked : Item → Type 0
IsUnclocked item = is_clocked item.op ≡ false

computed-later : (op : Op) (v : Seen) (clock : ℕ) → is_clocked op ≡ false → computed op (later clock v) ≡ computed op v
unfolding computed
computed-later ops.Clk v clock h = cc
computed-later op v clock h = refl

trap_of-later : (op : Op) (v : Seen) (clock : ℕ) → trap_of op (later clock v) ≡ trap_of op v
unfolding trap_of
trap_of-later ops.Inv v clock = refl
trap_of-later op v clock = refl

fmp_after-later : (op : Op) (v : Seen) (clock : ℕ) → fmp_after op (later clock v) ≡ fmp_after op v
fmp_after-later ops.FmpUpdate v clock = refl
fmp_after-later op v clock = refl

written-later : (op : Op) (v : Seen) (clock : ℕ) → written op (later clock v) ≡ written op v
written-later ops.MStore v clock = refl
written-later op v clock = refl

left-later : (op : Op) (v : Seen) (clock : ℕ) → is_clocked op ≡ false → left_cells op (later clock v) ≡ left_cells op v
unfolding left_cells
left-later op v clock h = rw (computed-later op v clock h) refl

-- the parts of a state behind an operation
abbrev built : ℕ → ℕ → Core → List ℕ → ℕ → List ℕ → Option (List ℕ) → State
built clock nesting c tape fmp stack word = record {
  core = record c {
    clock = clock;
    nesting = nesting;
    fmp = fmp;
    stack = stack;
    memory = memory_with c.memory c.context (slice_index c.stack 0) word;
  };
  tape = tape;
}

after-at : (constants : List ℕ) (item : Item) (s : State) (clock nesting : ℕ) → IsUnclocked item
    → at (clock + 1) nesting (state_after constants item s) ≡ state_after constants item (at clock nesting s)
unfolding stack_after
after-at constants item s clock nesting h =
    let v : Seen = seen_at constants item s in
    let fmp = sym (fmp_after-later item.op v clock) in
    let left = sym (left-later item.op v clock h) in
    let word = sym (written-later item.op v clock) in
    λ i. built (clock + 1) nesting s.core (drop (advice_of item.op) s.tape) (fmp i) (filled_up (left i ++ drop (takes_of item.op) s.core.stack)) (word i)

step-at : (constants : List ℕ) (item : Item) (s t : State) (clock nesting : ℕ) → IsUnclocked item → step constants item s ≡ Ok t
    → step constants item (at clock nesting s) ≡ Ok (at (clock + 1) nesting t)
step-at constants item s t clock nesting h e =
    let done = stepped constants item s t e in
    step-goes constants item (at clock nesting s) (at (clock + 1) nesting t) (record {
      enough = done.enough;
      free = trap_of-later item.op (seen_at constants item s) clock ∙ done.free;
      is = ap (at (clock + 1) nesting) done.is ∙ after-at constants item s clock nesting h;
    })

pub like-self : (s : State) → Like s s
like-self s = record { clock = s.core.clock; nesting = s.core.nesting; is = refl }

-- two that are like a third
pub like-both : (s t u : State) → Like s t → Like s u → Like t u
like-both s t u h k = record { clock = k.clock; nesting = k.nesting; is = k.is ∙ sym (ap (at k.clock k.nesting) h.is) }

pub like-sized : (s t : State) → Like s t → IsSized s.core → IsSized t.core
like-sized s t h sized = rw h.is (record { stack = sized.stack; digest = sized.digest; words = sized.words })

-- a NOOP moves the clock alone
noop-after : (constants : List ℕ) (imm : Option ℕ) (s : State) → 16 ≤ length s.core.stack
    → state_after constants (record { op = ops.Noop; imm = imm }) s ≡ at (s.core.clock + 1) s.core.nesting s
unfolding stack_after left_cells computed
noop-after constants imm s deep =
    λ i. record { core = record s.core { clock = s.core.clock + 1; stack = filled_up-deep s.core.stack deep i }; tape = s.tape }

noop-like : (constants : List ℕ) (item : Item) (s t : State) → is_noop item ≡ true → 16 ≤ length s.core.stack → step constants item s ≡ Ok t
    → Like s t
noop-like constants item s t noop deep e =
    let done = stepped constants item s t e in
    let is_op : item.op ≡ ops.Noop = code_of-different item.op ops.Noop (eqb-true (code_of item.op) 0 noop) in
    let P : Op → Type 0 = λ op. state_after constants (record { op = op; imm = item.imm }) s ≡ at (s.core.clock + 1) s.core.nesting s in
    record {
      clock = s.core.clock + 1;
      nesting = s.core.nesting;
      is = done.is ∙ subst P (sym is_op) (noop-after constants item.imm s deep);
    }

-- a list goes on from a state to one that is like another
pub record Went (constants : List ℕ) (items : List Item) (s t : State) : Type 0 where
  pub behind : State
  pub ran : run constants items s ≡ Ok behind
  pub like : Like t behind
  pub sized : IsSized t.core

abbrev pub AreUnclocked : List Item → Type 0
AreUnclocked items = AllByRecursion IsUnclocked items

run_by : (constants : List ℕ) (item : Item) (items : List Item) (s t u s' : State) (noop : Bool) → is_noop item ≡ noop
    → length constants ≡ number_of_constants → IsSized s.core → Like s s' → AreUnclocked (without_noops (item ∷ items))
    → step constants item s ≡ Ok u
    → ((u' : State) → AreUnclocked (without_noops items) → Like u u' → Went constants (without_noops items) u' t)
    → Went constants (without_noops (item ∷ items)) s' t
run_by constants item items s t u s' true is count sized like free first go =
    let rest : AreUnclocked (without_noops items) = subst AreUnclocked (skipped item items is) free in
    subst (λ (xs : List Item). Went constants xs s' t) (sym (skipped item items is))
    (go s' rest (like-both s u s' (noop-like constants item s u is sized.stack first) like))
run_by constants item items s t u s' false is count sized like free first go =
    let each : AreUnclocked (item ∷ without_noops items) = subst AreUnclocked (kept item items is) free in
    let u' : State = at (like.clock + 1) like.nesting u in
    let next : step constants item s' ≡ Ok u' =
    ap (step constants item) like.is ∙ step-at constants item s u like.clock like.nesting each.0 first in
    let went = go u' each.1 (record { clock = like.clock + 1; nesting = like.nesting; is = refl }) in
    subst (λ (xs : List Item). Went constants xs s' t) (sym (kept item items is)) (record {
      behind = went.behind;
      ran = run-cons constants item (without_noops items) s' ∙ (ap (after_ok (run constants (without_noops items))) next ∙ went.ran);
      like = went.like;
      sized = went.sized;
    })

run_next : (constants : List ℕ) (item : Item) (items : List Item) (s t s' : State) (r : Result State Cause) → step constants item s ≡ r
    → length constants ≡ number_of_constants → IsSized s.core → Like s s' → AreUnclocked (without_noops (item ∷ items))
    → ((u u' : State) → IsSized u.core → AreUnclocked (without_noops items) → Like u u' → run constants items u ≡ Ok t
    → Went constants (without_noops items) u' t)
    → after_ok (run constants items) r ≡ Ok t → Went constants (without_noops (item ∷ items)) s' t
run_next constants item items s t s' (Err cause) first count sized like free go e = cc
run_next constants item items s t s' (Ok u) first count sized like free go e =
    run_by constants item items s t u s' (is_noop item) refl count sized like free first
    (λ u' rest same. go u u' (step-sized constants item s u count sized first) rest same e)

-- a run does the same without its NOOPs, at any clock
pub run-like : (constants : List ℕ) (items : List Item) (s t s' : State) → length constants ≡ number_of_constants → IsSized s.core
    → Like s s' → AreUnclocked (without_noops items) → run constants items s ≡ Ok t → Went constants (without_noops items) s' t
run-like constants [] s t s' count sized like free e =
    let same : s ≡ t = (let ok : Ok s ≡ Ok t = sym (run-nil constants s) ∙ e in cc) in
    record {
      behind = s';
      ran = run-nil constants s';
      like = subst (λ x. Like x s') same like;
      sized = subst (λ (x : State). IsSized x.core) same sized;
    }
run-like constants (item ∷ items) s t s' count sized like free e =
    run_next constants item items s t s' (step constants item s) refl count sized like free
    (λ u u' size rest same ran. run-like constants items u t u' count size same rest ran)
    (sym (run-cons constants item items s) ∙ e)
