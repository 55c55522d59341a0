-- Which operation may follow which, from the entries 60 to 69, and back.
use Rattle.facts_main.proofs.Words.{◌≡◌, ◌⊎◌, ℕ, zero, suc, ◌<◌, Bool, true, false, ◌&&◌, ◌||◌, not, cond, eqb, List, refl, sym, ap, ◌∙◌, inl, inr, arith}
use Rattle.facts_main.proofs.Words.{lit<, prime, felt_add, felt_sub, is_ordinary_op, is_start_op, Op, h, s, sp, is_op, is_call_op, is_batch_op}
use Rattle.facts_main.proofs.Words.{may_follow, slice_index, op_of, Spot, HasOps}
use Rattle.vm_ops.specs.declared.op.Op.TheVariants as ops
use Rattle.air_kit.specs.BlockValues.{starts, calls, follow_values, entry_60, entry_61, entry_62, entry_63, entry_64, entry_65, entry_66, entry_67, entry_68, entry_69}
use Rattle.facts_main.proofs.Says.{Says, says_of, off, never, zero_says, sub_says, mul_says, gate, gate_bit, gate_mul, one, both, tested, test_says, fails_says, passes_says}
use Rattle.facts_main.proofs.Hot.{hot, set_is}
use Rattle.facts_main.proofs.Means.{Means, ◌▸◌, ◌&◌, means_as, nothing}
use Rattle.facts_main.proofs.SpotSays.{Behind, row_at, pair_at}
use Rattle.facts_main.proofs.BatchFacts.{batches_is}

-- the row of a child, a callee, a target or a loop's next turn comes behind
abbrev pub nests : Op → Bool
nests op = is_op op ops.Join || is_op op ops.Split || is_call_op op || is_op op ops.Repeat || is_op op ops.Dyn

nests_is : (op : Op)
    → felt_add (felt_add (felt_add (felt_add (hot op ops.Join) (hot op ops.Split)) (felt_add (hot op ops.Call) (hot op ops.Syscall)))
    (hot op ops.Repeat)) (hot op ops.Dyn) ≡ cond (nests op) 1 0
nests_is ops.Join = refl
nests_is op = refl

pub starts_is : (op : Op) → starts (hot op) ≡ cond (is_start_op op) 1 0
unfolding starts
starts_is op = set_is op is_start_op

behind_operation : (next : Op) → felt_sub (felt_sub (felt_sub 1 (cond (is_ordinary_op next) 1 0)) (hot next ops.End)) (hot next ops.Respan)
    ≡ cond (not (is_ordinary_op next || is_op next ops.End || is_op next ops.Respan)) 1 0
behind_operation ops.Join = refl
behind_operation next = refl

behind_end : (next : Op) → felt_sub (felt_sub (felt_sub (felt_sub 1 (cond (is_start_op next) 1 0)) (hot next ops.End)) (hot next ops.Repeat))
    (hot next ops.Halt)
    ≡ cond (not (is_start_op next || is_op next ops.End || is_op next ops.Repeat || is_op next ops.Halt)) 1 0
behind_end ops.Join = refl
behind_end next = refl

one_nests : (op : Op) → nests op && is_op op ops.Loop ≡ false
one_nests ops.Join = refl
one_nests op = refl

conditions_is : (op : Op) → felt_add (hot op ops.Split) (hot op ops.Loop) ≡ cond (is_op op ops.Split || is_op op ops.Loop) 1 0
conditions_is ops.Split = refl
conditions_is op = refl

pub span_says : (op : Op) (x : List ℕ) → ((k : ℕ) → slice_index x k < prime) → Says (entry_61 (hot op) x) (sp x ≡ cond (is_ordinary_op op) 1 0)
unfolding entry_61
span_says op x low = says_of (ap (felt_sub (sp x)) (set_is op is_ordinary_op)) (sub_says (low 24) (test_says (is_ordinary_op op)).low)

-- what these entries say together
pub record Follow (op next : Op) (top : ℕ) : Type 0 where
  pub halt : is_op op ops.Halt ≡ false
  pub inner : ((nests op ≡ false) × (is_op op ops.Loop ≡ true → top ≡ 0)) ⊎ (is_start_op next ≡ true)
  pub skips : is_op op ops.Loop ≡ true → (1 ≡ top) ⊎ (is_op next ops.End ≡ true)
  pub batch : is_batch_op op ≡ true → is_ordinary_op next ≡ true
  pub ordinary : is_ordinary_op op ≡ true → is_ordinary_op next || is_op next ops.End || is_op next ops.Respan ≡ true
  pub ends : is_op op ops.End ≡ true → is_start_op next || is_op next ops.End || is_op next ops.Repeat || is_op next ops.Halt ≡ true

inner_start : {P : Type 0} (t : Bool) → ((true ≡ false) × P) ⊎ (t ≡ true) → t ≡ true
inner_start t (inl h) = never h.0
inner_start t (inr e) = e

loop_goes : (top : ℕ) (t u : Bool) → top < 2 → ((false ≡ false) × (true ≡ true → top ≡ 0)) ⊎ (u ≡ true) → (1 ≡ top) ⊎ (t ≡ true)
    → cond (eqb top 0) t u ≡ true
loop_goes zero t u low enters (inl e) = absurd (omega (arith, e))
loop_goes zero t u low enters (inr e) = e
loop_goes (suc zero) t u low (inl h) skips = let z : 1 ≡ 0 = h.1 refl in absurd (omega (arith, z))
loop_goes (suc zero) t u low (inr e) skips = e
loop_goes (suc (suc n)) t u low enters skips = absurd (omega (arith, low))

pub follow_shown : (op next : Op) (top : ℕ) → (is_op op ops.Loop ≡ true → top < 2) → Follow op next top → may_follow op top next ≡ true
follow_shown ops.Join next top low h = inner_start (is_start_op next) h.inner
follow_shown ops.Split next top low h = inner_start (is_start_op next) h.inner
follow_shown ops.Call next top low h = inner_start (is_start_op next) h.inner
follow_shown ops.Syscall next top low h = inner_start (is_start_op next) h.inner
follow_shown ops.Dyn next top low h = inner_start (is_start_op next) h.inner
follow_shown ops.Repeat next top low h = inner_start (is_start_op next) h.inner
follow_shown ops.Loop next top low h = loop_goes top (is_op next ops.End) (is_start_op next) (low refl) h.inner (h.skips refl)
follow_shown ops.Span next top low h = h.batch refl
follow_shown ops.Respan next top low h = h.batch refl
follow_shown ops.End next top low h = h.ends refl
follow_shown ops.Halt next top low h = never h.halt
follow_shown op next top low h = h.ordinary refl

loop_inner : (top : ℕ) (t u : Bool) → top < 2 → cond (eqb top 0) t u ≡ true → ((false ≡ false) × (true ≡ true → top ≡ 0)) ⊎ (u ≡ true)
loop_inner zero t u low m = inl (refl, λ h. refl)
loop_inner (suc zero) t u low m = inr m
loop_inner (suc (suc n)) t u low m = absurd (omega (arith, low))

loop_skips : (top : ℕ) (t u : Bool) → top < 2 → cond (eqb top 0) t u ≡ true → (1 ≡ top) ⊎ (t ≡ true)
loop_skips zero t u low m = inr m
loop_skips (suc zero) t u low m = inl refl
loop_skips (suc (suc n)) t u low m = absurd (omega (arith, low))

start_follow : (op next : Op) (top : ℕ) → is_op op ops.Halt ≡ false → is_op op ops.Loop ≡ false → is_batch_op op ≡ false → is_ordinary_op op ≡ false
    → is_op op ops.End ≡ false → is_start_op next ≡ true → Follow op next top
start_follow op next top halt loop batch ordinary ends m = record {
  halt = halt;
  inner = inr m;
  skips = λ h. never (sym h ∙ loop);
  batch = λ h. never (sym h ∙ batch);
  ordinary = λ h. never (sym h ∙ ordinary);
  ends = λ h. never (sym h ∙ ends);
}

pub follow_from : (op next : Op) (top : ℕ) → (is_op op ops.Loop ≡ true → top < 2) → may_follow op top next ≡ true → Follow op next top
follow_from ops.Join next top low m = start_follow ops.Join next top refl refl refl refl refl m
follow_from ops.Split next top low m = start_follow ops.Split next top refl refl refl refl refl m
follow_from ops.Call next top low m = start_follow ops.Call next top refl refl refl refl refl m
follow_from ops.Syscall next top low m = start_follow ops.Syscall next top refl refl refl refl refl m
follow_from ops.Dyn next top low m = start_follow ops.Dyn next top refl refl refl refl refl m
follow_from ops.Repeat next top low m = start_follow ops.Repeat next top refl refl refl refl refl m
follow_from ops.Loop next top low m = record {
  halt = refl;
  inner = loop_inner top (is_op next ops.End) (is_start_op next) (low refl) m;
  skips = λ h. loop_skips top (is_op next ops.End) (is_start_op next) (low refl) m;
  batch = λ h. off h;
  ordinary = λ h. off h;
  ends = λ h. off h;
}
follow_from ops.Span next top low m = record {
  halt = refl;
  inner = inl
      (refl, λ h. off h);
  skips = λ h. off h;
  batch = λ h. m;
  ordinary = λ h. off h;
  ends = λ h. off h;
}
follow_from ops.Respan next top low m = record {
  halt = refl;
  inner = inl
      (refl, λ h. off h);
  skips = λ h. off h;
  batch = λ h. m;
  ordinary = λ h. off h;
  ends = λ h. off h;
}
follow_from ops.End next top low m = record {
  halt = refl;
  inner = inl
      (refl, λ h. off h);
  skips = λ h. off h;
  batch = λ h. off h;
  ordinary = λ h. off h;
  ends = λ h. m;
}
follow_from ops.Halt next top low m = off m
follow_from op next top low m = record {
  halt = refl;
  inner = inl
      (refl, λ h. off h);
  skips = λ h. off h;
  batch = λ h. off h;
  ordinary = λ h. m;
  ends = λ h. off h;
}

-- what the conditions of blocks show
pub record Conditions (op : Op) (x : List ℕ) : Type 0 where
  pub condition : is_op op ops.Split || is_op op ops.Loop ≡ true → s x 0 < 2
  pub again : is_op op ops.Repeat ≡ true → s x 0 ≡ 1
  pub stops : is_op op ops.End ≡ true → (h x 4 ≡ 0) ⊎ (s x 0 ≡ 0)

second_of : (t u : Bool) → u ≡ true → t || u ≡ true
second_of true u e = refl
second_of false u e = e

-- a loop's condition is a bit
loop_bit : (op : Op) (x : List ℕ) → Conditions op x → is_op op ops.Loop ≡ true → s x 0 < 2
loop_bit op x c is = c.condition (second_of (is_op op ops.Split) (is_op op ops.Loop) is)

pub follow_means : (op : Op) (p : Spot) → HasOps op p
    → Means (follow_values p) (Conditions op p.cur × Behind p (λ y. may_follow op (s p.cur 0) (op_of y) ≡ true))
unfolding follow_values entry_60 entry_62 calls entry_63 entry_64 entry_65 entry_66 entry_67 entry_68 entry_69
follow_means op p r =
    means_as
    (pair_at entry_60 r (λ y n. test_says (is_op op ops.Halt)) ▸ row_at entry_61 r (span_says op p.cur low)
    ▸ pair_at entry_62 r (λ y n.
    mul_says (both (tested (nests_is op)) (one refl (zero_says (low 30))) (one_nests op)).says (passes_says (starts_is (op_of y))))
    ▸ pair_at entry_63 r (λ y n. gate_mul refl (sub_says (lit< tt) (low 30)) (passes_says refl))
    ▸ pair_at entry_64 r (λ y n. gate (batches_is op) (passes_says n.span))
    ▸ pair_at entry_65 r (λ y n. gate r.here.span (says_of
    (ap (λ m. felt_sub (felt_sub (felt_sub 1 m) (hot (op_of y) ops.End)) (hot (op_of y) ops.Respan)) n.span ∙ behind_operation (op_of y))
    (fails_says _)))
    ▸ pair_at entry_66 r (λ y n. gate refl (says_of
    (ap (λ m. felt_sub (felt_sub (felt_sub (felt_sub 1 m) (hot (op_of y) ops.End)) (hot (op_of y) ops.Repeat)) (hot (op_of y) ops.Halt))
    (starts_is (op_of y)) ∙ behind_end (op_of y)) (fails_says _)))
    ▸ row_at entry_67 r (gate_bit (conditions_is op) (low 30)) ▸ row_at entry_68 r (gate refl (sub_says (low 30) (lit< tt)))
    ▸ row_at entry_69 r (gate_mul refl (zero_says (low 20)) (zero_says (low 30))) ▸ nothing)
    (λ (halt, (span, (inner, (skips, (batch, (ordinary, (ends, (condition, (again, (stops, done)))))))))).
    (let c : Conditions op p.cur = record { condition = condition; again = again; stops = stops } in (
      c,
      λ y e. follow_shown op (op_of y) (s p.cur 0) (loop_bit op p.cur c) (record {
        halt = halt y e;
        inner = inner y e;
        skips = skips y e;
        batch = batch y e;
        ordinary = ordinary y e;
        ends = ends y e;
      }),
    )))
    (λ (c, follows).
    (let f : Behind p (λ y. Follow op (op_of y) (s p.cur 0)) =
    λ y e. follow_from op (op_of y) (s p.cur 0) (loop_bit op p.cur c) (follows y e) in
    (λ y e. (f y e).halt) & r.here.span & (λ y e. (f y e).inner) & (λ y e. (f y e).skips) & (λ y e. (f y e).batch)
    & (λ y e. (f y e).ordinary) & (λ y e. (f y e).ends) & c.condition & c.again & c.stops & tt))
  where
    low : (j : ℕ) → slice_index p.cur j < prime
    low = r.here.low
