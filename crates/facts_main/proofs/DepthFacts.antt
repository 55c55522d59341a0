-- What the entries 115 to 118 say where they are 0, and back: the depth of the stack, and the key below its sixteen cells.
use Rattle.facts_main.proofs.Words.{◌≡◌, ◌≢◌, ◌⊎◌, ℕ, zero, suc, ◌+◌, ◌<◌, ◌≤◌, Bool, true, false, ◌&&◌, ◌||◌, not, cond, eqb, List, refl, ap, ◌∙◌, inl}
use Rattle.facts_main.proofs.Words.{inr, arith, lit<, prime, felt_add, felt_sub, felt_mul, Op, h, depth, inv, is_op, is_left, is_right, eqb-true}
use Rattle.facts_main.proofs.Words.{is_call_op, Spot, HasOps, IsBlockRow, IsEndRow, MovesDepth, ends_call, mover, keeps_stack}
use Rattle.vm_ops.specs.declared.op.Op.TheVariants as ops
use Rattle.air_kit.specs.StackValues.{depth_values, deeper, shifts_left, shifts_right, keeps_depth, entry_115, entry_116, entry_117, entry_118}
use Rattle.facts_main.proofs.Says.{Says, rest_low, rest_says, zero_says, sub_says, sub_twice_says, witness_says, gate, one, one_product_if, both, both_say, plus, less_one, less_more, any_or_none, tested_bit, and_false, either_or, eqb_of}
use Rattle.facts_main.proofs.Hot.{hot, set_is}
use Rattle.facts_main.proofs.Means.{Means, ◌▸◌, ◌&◌, first_then, means_as, nothing}
use Rattle.facts_main.proofs.SpotSays.{Behind, row_at, pair_at}
use Rattle.facts_main.proofs.BlockFacts.{Low, calls_is, returns_is}
use Rattle.facts_main.proofs.GroupFacts.{flag_by_witness, is_over}

-- ---- whether the stack is deeper than sixteen cells

abbrev pub Witness : List ℕ → Type 0
Witness x = depth x ≢ 16 → felt_mul (felt_sub (depth x) 16) (inv x) ≡ 1

abbrev is_deeper : List ℕ → Bool
is_deeper x = not (eqb (depth x) 16)

deeper_is : (x : List ℕ) → Low x → Witness x → deeper x ≡ cond (is_deeper x) 1 0
unfolding deeper
deeper_is x low witness = flag_by_witness (depth x) 16 (inv x) (low 46) witness

pub flat_is : (x : List ℕ) → Low x → Witness x → felt_sub 1 (deeper x) ≡ cond (eqb (depth x) 16) 1 0
flat_is x low witness = less_one _ (deeper_is x low witness) ∙ twice (eqb (depth x) 16)
  where
    twice : (t : Bool) → ◌≡◌ {A = ℕ} (cond (not (not t)) 1 0) (cond t 1 0)
    twice true = refl
    twice false = refl

-- ---- the flags of shifts

-- an END takes a loop's condition off
abbrev pub ends_loop : Op → List ℕ → Bool
ends_loop op x = is_op op ops.End && eqb (h x 4) 1

left_apart : (op : Op) (u : Bool) → is_left op && (is_op op ops.End && u) ≡ false
left_apart ops.End u = refl
left_apart op u = and_false (is_left op)

-- the operation that moves the stack shifts left
pub mover_left : (op : Op) (t : Bool) → is_left op || (is_op op ops.End && t) ≡ is_left (cond (is_op op ops.End && t) ops.Drop op)
mover_left ops.End true = refl
mover_left ops.End false = refl
mover_left op t = or_right (is_left op)
  where
    or_right : (u : Bool) → u || false ≡ u
    or_right true = refl
    or_right false = refl

right_or_left : (op : Op) (x : List ℕ) → is_right op && is_left (mover op x) ≡ false
right_or_left ops.End x = refl
right_or_left op x = refl

shift_or_call : (op : Op) (x : List ℕ) → (is_right op || is_left (mover op x)) && is_call_op op ≡ false
shift_or_call ops.End x = and_false (is_left (mover ops.End x))
shift_or_call op x = refl

end_apart : (i j k l : ℕ) → i + j + k + l ≤ 1 → eqb i 1 && eqb (felt_add k l) 1 ≡ false
end_apart zero j k l most = refl
end_apart (suc zero) j k l most = let z : felt_add k l ≡ 0 = omega arith in rw z refl
end_apart (suc (suc i)) j k l most = absurd (omega arith)

loop_or_call : (t u : Bool) → t && u ≡ false → (false || is_left (cond t ops.Drop ops.End) || false) && u ≡ false
loop_or_call true u e = e
loop_or_call false u e = refl

move_or_end : (op : Op) (x : List ℕ) → (is_op op ops.End ≡ true → IsEndRow x)
    → (is_right op || is_left (mover op x) || is_call_op op) && ends_call op x ≡ false
move_or_end ops.End x ends =
    loop_or_call (eqb (h x 4) 1) (eqb (felt_add (h x 6) (h x 7)) 1) (end_apart (h x 4) (h x 5) (h x 6) (h x 7) (ends refl).most)
move_or_end op x ends = and_false (is_right op || is_left op || is_call_op op)

module _ (op : Op) (x : List ℕ) (ends : is_op op ops.End ≡ true → IsEndRow x) where
  lefts_is : shifts_left (hot op) x ≡ cond (is_left (mover op x)) 1 0
  unfolding shifts_left
  lefts_is =
      plus _ (ends_loop op x) (set_is op is_left) (tested_bit (is_op op ops.End) (h x 4) (λ is. (ends is).bits 0 (lit< tt)))
      (left_apart op (eqb (h x 4) 1))
      ∙ ap (λ t. cond t 1 0) (mover_left op (eqb (h x 4) 1))

  keeps_is : keeps_depth (hot op) x ≡ cond (keeps_stack op x) 1 0
  unfolding keeps_depth shifts_right
  keeps_is =
      less_more _ _ (less_more _ _ (less_more _ _ (less_one _ (set_is op is_right)) lefts_is (right_or_left op x)) (calls_is op) (shift_or_call op x))
      (returns_is op x ends) (move_or_end op x ends)

-- ---- depth and key

-- one cell fewer in a deeper stack
less_says : {i k f : ℕ} (m : ℕ) → m < prime → f ≡ cond (not (eqb k m)) 1 0 → i < prime → k < prime
    → Says (felt_add (felt_sub i k) f) ((k ≡ m → i ≡ m) × (k ≢ m → i ≡ felt_sub k 1))
less_says {i = i} {k = k} {f = f} m lm flag li lk = by (either_or k m)
  where
    by : (k ≡ m) ⊎ (k ≢ m) → Says (felt_add (felt_sub i k) f) ((k ≡ m → i ≡ m) × (k ≢ m → i ≡ felt_sub k 1))
    by (inl e) =
        let none : f ≡ 0 = flag ∙ ap (λ t. cond (not t) 1 0) (eqb_of k m e) in
        rest_says _ (λ z. (λ _. omega arith, λ apart. absurd (apart e))) (λ h. let same = h.0 e in omega arith)
    by (inr apart) =
        let one_is : f ≡ 1 = flag ∙ ap (λ t. cond t 1 0) (is_over k m apart) in
        rest_says _ (λ z. (λ e. absurd (apart e), λ _. omega arith)) (λ h. let fewer = h.1 apart in omega arith)

pub depth_means : (op : Op) (p : Spot) → HasOps op p → IsBlockRow op p.cur
    → Means (depth_values p) (Witness p.cur × (ends_call op p.cur ≡ true → depth p.cur ≡ 16) × Behind p (λ y. MovesDepth op p.cur y))
unfolding depth_values deeper shifts_right entry_115 entry_116 entry_117 entry_118
depth_means op p r row =
    means_as
    (first_then (row_at entry_115 r (witness_says (low 46) (lit< tt) (rest_low _))) (λ witness.
    pair_at entry_116 r (λ y n.
    both_say (both (both (one rights (sub_twice_says {k = 1} (n.low 46) (low 46) (lit< tt)))
    (one lefts (less_says 16 (lit< tt) (deeper_is x low witness) (n.low 46) (low 46))) (right_or_left op x))
    (one (calls_is op) (sub_says {b = 16} (n.low 46) (lit< tt))) (shift_or_call op x)) (one keeps (sub_says (n.low 46) (low 46))) (any_or_none _ _))
    ▸ row_at entry_117 r (gate (returns_is op x row.ends) (sub_says (low 46) (lit< tt)))
    ▸ pair_at entry_118 r (λ y n.
    both_say (both (both (one rights (sub_says (n.low 47) (low 0)))
    (one_product_if _ _ lefts (λ _. gate (flat_is x low witness) (sub_says (n.low 47) (low 47)))) (right_or_left op x))
    (one (calls_is op) (zero_says (n.low 47))) (shift_or_call op x)) (one keeps (sub_says (n.low 47) (low 47))) (any_or_none _ _)) ▸ nothing))
    (λ (witness, (deep, (returns, (keys, done)))). (
      witness,
      returns,
      λ y e. record {
        right = λ is. ((deep y e).0.0.0 is, (keys y e).0.0.0 is);
        left_flat = λ is flat. (((deep y e).0.0.1 is).0 flat, (keys y e).0.0.1 is (eqb_of (depth x) 16 flat));
        left_deep = λ is. ((deep y e).0.0.1 is).1;
        call = λ is. ((deep y e).0.1 is, (keys y e).0.1 is);
        same = λ is. ((deep y e).1 is, (keys y e).1 is);
      },
    ))
    (λ h. h.0
    & (λ y e. (
      (
        (λ is. ((h.2 y e).right is).0, λ is. (λ flat. ((h.2 y e).left_flat is flat).0, (h.2 y e).left_deep is)),
        λ is. ((h.2 y e).call is).0,
      ),
      λ is. ((h.2 y e).same is).0,
    ))
    & h.1
    & (λ y e. (
      ((λ is. ((h.2 y e).right is).1, λ is flat. ((h.2 y e).left_flat is (eqb-true (depth x) 16 flat)).1), λ is. ((h.2 y e).call is).1),
      λ is. ((h.2 y e).same is).1,
    ))
    & tt)
  where
    x : List ℕ
    x = p.cur

    low : Low x
    low = r.here.low

    rights : shifts_right (hot op) ≡ cond (is_right op) 1 0
    rights = set_is op is_right

    lefts : shifts_left (hot op) x ≡ cond (is_left (mover op x)) 1 0
    lefts = lefts_is op x row.ends

    keeps : keeps_depth (hot op) x ≡ cond (keeps_stack op x) 1 0
    keeps = keeps_is op x row.ends
