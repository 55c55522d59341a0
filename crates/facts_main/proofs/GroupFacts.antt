-- What the entries 107 to 114 say where they are 0, and back: how the rows of ordinary operations take the digits of a group.
use Rattle.facts_main.proofs.Words.{◌≡◌, ◌≢◌, ◌⊎◌, ℕ, zero, suc, ◌+◌, ◌*◌, ◌<◌, ◌≤◌, Bool, true, false, ◌||◌, not, cond, eqb, List, refl, sym, ap, subst, ◌∙◌, inl, inr}
use Rattle.facts_main.proofs.Words.{⊎_elim, arith, lit<, cases_Bool, eqb-true, nat_tests, prime, felt_add, felt_sub, felt_mul, code_of, is_ordinary_op}
use Rattle.facts_main.proofs.Words.{Op, b, h, sp, gc, ox, w, HasOp, HasOps, Spot, is_op, op_of, spelled, IsGroupRow, GoesOn, stays, pushes, opens, ends}
use Rattle.vm_ops.specs.declared.op.Op.TheVariants as ops
use Rattle.vm_ops.proofs.CodeLemmas.{code_of-below}
use Rattle.air_kit.specs.SpanValues.{group_values, opcode_in, rest, rest_flag, goes_on, entry_107, entry_108, entry_109, entry_110, entry_111, entry_112, entry_113, entry_114}
use Rattle.facts_main.proofs.Says.{Says, says_of, says_as, off, never, rest_low, rest_says, none_is, zero_says, sub_says, sub_twice_says, mul_says, witness_says, gate, gate_mul, gate_product_if, regroup, test_says, passes_says, eqb_of, either_or}
use Rattle.facts_main.proofs.Hot.{hot}
use Rattle.facts_main.proofs.Means.{Means, ◌▸◌, ◌&◌, first_then, means_as, nothing}
use Rattle.facts_main.proofs.SpotSays.{Behind, row_at, pair_at}
use Rattle.facts_main.proofs.BlockFacts.{Low}

-- ---- the number of the operation, and what is left of the group

code_by : (i j k l m n o : ℕ) → i < 2 → j < 2 → k < 2 → l < 2 → m < 2 → n < 2 → o < 2
    → felt_add (felt_add (felt_add (felt_add (felt_add (felt_add i (felt_mul 2 j)) (felt_mul 4 k)) (felt_mul 8 l)) (felt_mul 16 m)) (felt_mul 32 n))
    (felt_mul 64 o)
    ≡ i + 2 * (j + 2 * (k + 2 * (l + 2 * (m + 2 * (n + 2 * (o + 2 * 0))))))
code_by i j k l m n o hi hj hk hl hm hn ho = omega arith

opcode_is : (op : Op) (x : List ℕ) → HasOp x op → opcode_in x ≡ code_of op
unfolding opcode_in spelled
opcode_is op x has =
    code_by (b x 0) (b x 1) (b x 2) (b x 3) (b x 4) (b x 5) (b x 6) (has.bits 0 (lit< tt)) (has.bits 1 (lit< tt)) (has.bits 2 (lit< tt))
    (has.bits 3 (lit< tt)) (has.bits 4 (lit< tt)) (has.bits 5 (lit< tt)) (has.bits 6 (lit< tt))
    ∙ sym has.spells

rest_is : (op : Op) (x : List ℕ) → HasOp x op → rest x ≡ felt_sub (h x 0) (code_of op)
unfolding rest
rest_is op x has = ap (felt_sub (h x 0)) (opcode_is op x has)

code_low : (op : Op) → code_of op < prime
code_low op = let few = code_of-below op in omega (arith, few)

-- whether something is left of the group
abbrev pub is_left_over : Op → List ℕ → Bool
is_left_over op x = not (eqb (h x 0) (code_of op))

pub flag_by_witness : (i k w : ℕ) → i < prime → (i ≢ k → felt_mul (felt_sub i k) w ≡ 1) → felt_mul (felt_sub i k) w ≡ cond (not (eqb i k)) 1 0
flag_by_witness i k w low witness =
    elim (cases_Bool (eqb i k)) [
      | inl is ↦ rw is (let e = eqb-true i k is in let z : felt_sub i k ≡ 0 = omega arith in ap (λ n. felt_mul n w) z ∙ none_is w)
      | inr other ↦ rw other (witness (λ e. never (sym (eqb_of i k e) ∙ other)))
    ]

-- by its witness
abbrev pub HasRest : Op → List ℕ → Type 0
HasRest op x = h x 0 ≢ code_of op → felt_mul (felt_sub (h x 0) (code_of op)) (w x 3) ≡ 1

pub flag_is : (op : Op) (x : List ℕ) → HasOp x op → Low x → HasRest op x → rest_flag x ≡ cond (is_left_over op x) 1 0
unfolding rest_flag
flag_is op x has low witness =
    ap (λ n. felt_mul n (w x 3)) (rest_is op x has) ∙ flag_by_witness (h x 0) (code_of op) (w x 3) (low 16) witness

-- the group goes on
abbrev goes : Op → List ℕ → Bool
goes op x = is_op op ops.Push || is_left_over op x

joined : (u g : Bool) → felt_add (cond g 1 0) (felt_mul (cond u 1 0) (felt_sub 1 (cond g 1 0))) ≡ cond (u || g) 1 0
joined true true = refl
joined true false = refl
joined false true = refl
joined false false = refl

goes_is : (op : Op) (x : List ℕ) → HasOp x op → Low x → HasRest op x → goes_on (hot op) x ≡ cond (goes op x) 1 0
unfolding goes_on
goes_is op x has low witness =
    ap (λ n. felt_add n (felt_mul (hot op ops.Push) (felt_sub 1 n))) (flag_is op x has low witness) ∙ joined (is_op op ops.Push) (is_left_over op x)

-- ---- what single entries say

-- a product over all places up to one
places : ℕ → ℕ → ℕ → ℕ
places f v zero = felt_mul f v
places f v (suc k) = felt_mul (places f v k) (felt_sub v (suc k))

places_say : {f v : ℕ} {t : Bool} (k : ℕ) → f ≡ cond t 1 0 → v < prime → k < prime → Says (places f v k) (t ≡ true → v ≤ k)
unfolding places
places_say zero flag low few = says_as (gate flag (zero_says low)) (λ f is. let e = f is in omega arith) (λ f is. let e = f is in omega arith)
places_say {v = v} {t = t} (suc k) flag low few =
    says_as (mul_says (places_say k flag low (omega arith)) (sub_says low few)) (λ h is. ⊎_elim (λ f. let m = f is in omega arith) (λ e. omega arith) h)
    (λ f. ⊎_elim (λ e. inr e) (λ apart. inl (λ is. let m = f is in omega arith)) (either_or v (suc k)))

turn : {m i k : ℕ} → m < prime → i < prime → k < prime → Says (felt_sub m (felt_sub i k)) (i ≡ felt_add k m)
turn lm li lk = says_as (sub_says lm (rest_low _)) (λ e. omega arith) (λ e. omega arith)

-- a position is taken by an immediate, and by the group that is opened
count_says : {i k f : ℕ} (u g : Bool) → f ≡ cond (u || g) 1 0 → i < prime → k < prime
    → Says (felt_sub (felt_add (felt_add (felt_sub k i) (cond u 1 0)) 1) f) (i ≡ cond (u || not g) (felt_add k 1) k)
count_says true true e li lk = rest_says _ (λ z. omega arith) (λ k. omega arith)
count_says true false e li lk = rest_says _ (λ z. omega arith) (λ k. omega arith)
count_says false true e li lk = rest_says _ (λ z. omega arith) (λ k. omega arith)
count_says false false e li lk = rest_says _ (λ z. omega arith) (λ k. omega arith)

-- ---- the four cases

-- what these entries say together
pub record Goes (op : Op) (x y : List ℕ) (u g n : Bool) : Type 0 where
  pub next_row : (u || g ≡ false) ⊎ (n ≡ true)
  pub rest_of : (u || g ≡ false) ⊎ (h x 0 ≡ felt_add (code_of op) (felt_mul 128 (h y 0)))
  pub place : (u || g ≡ false) ⊎ (ox y ≡ felt_add (ox x) 1)
  pub opens_at : ((u || g ≡ true) ⊎ (n ≡ false)) ⊎ (ox y ≡ 0)
  pub ends_at : (n ≡ true) ⊎ (gc x ≡ 0)
  pub count : (n ≡ false) ⊎ (gc x ≡ cond (u || not g) (felt_add (gc y) 1) (gc y))

holds : {P : Type 0} → (true ≡ false) ⊎ P → P
holds (inl e) = never e
holds (inr p) = p

holds_not : {P : Type 0} → (false ≡ true) ⊎ P → P
holds_not (inl e) = off e
holds_not (inr p) = p

opened : {P : Type 0} → ((false ≡ true) ⊎ (true ≡ false)) ⊎ P → P
opened (inl (inl e)) = off e
opened (inl (inr e)) = never e
opened (inr p) = p

same_where : (i k : ℕ) → not (eqb i k) ≡ false → i ≡ k
same_where i k e = grind (arith, nat_tests)

other_where : (i k : ℕ) → not (eqb i k) ≡ true → i ≢ k
other_where i k e same = never (sym e ∙ ap not (eqb_of i k same))

pub goes_shown : (op next : Op) (x y : List ℕ) (u g n : Bool) → is_op op ops.Push ≡ u → is_left_over op x ≡ g
    → is_ordinary_op next ≡ n → Goes op x y u g n
    → GoesOn op next x y
goes_shown op next x y true g true eu eg en k = pushes eu en (holds k.rest_of) (holds k.place) (holds k.count)
goes_shown op next x y true g false eu eg en k = off (holds k.next_row)
goes_shown op next x y false true true eu eg en k =
    stays eu en (other_where (h x 0) (code_of op) eg) (holds k.rest_of) (holds k.place) (sym (holds k.count))
goes_shown op next x y false true false eu eg en k = off (holds k.next_row)
goes_shown op next x y false false true eu eg en k = opens eu en (same_where (h x 0) (code_of op) eg) (opened k.opens_at) (holds k.count)
goes_shown op next x y false false false eu eg en k = ends eu en (same_where (h x 0) (code_of op) eg) (holds_not k.ends_at)

pub is_over : (i k : ℕ) → i ≢ k → not (eqb i k) ≡ true
is_over i k apart = grind (arith, nat_tests)

pub not_over : (i k : ℕ) → i ≡ k → not (eqb i k) ≡ false
not_over i k e = grind (arith, nat_tests)

moved : (op : Op) (x y : List ℕ) (u g n u1 g1 n1 : Bool) → u ≡ u1 → g ≡ g1 → n ≡ n1 → Goes op x y u1 g1 n1 → Goes op x y u g n
moved op x y u g n u1 g1 n1 eu eg en k =
    let F : Bool → Type 0 = λ t. Goes op x y t g1 n1 in
    let G : Bool → Type 0 = λ t. Goes op x y u t n1 in
    let H : Bool → Type 0 = λ t. Goes op x y u g t in
    subst H (sym en) (subst G (sym eg) (subst F (sym eu) k))

pub goes_from : (op next : Op) (x y : List ℕ) → GoesOn op next x y → Goes op x y (is_op op ops.Push) (is_left_over op x) (is_ordinary_op next)
goes_from op next x y (stays eu en over digits place count) =
    moved op x y _ _ _ false true true eu (is_over (h x 0) (code_of op) over) en
    (record { next_row = inr refl; rest_of = inr digits; place = inr place; opens_at = inl (inl refl); ends_at = inl refl; count = inr (sym count) })
goes_from op next x y (pushes eu en digits place count) =
    moved op x y _ _ _ true (is_left_over op x) true eu refl en
    (record { next_row = inr refl; rest_of = inr digits; place = inr place; opens_at = inl (inl refl); ends_at = inl refl; count = inr count })
goes_from op next x y (opens eu en none place count) =
    moved op x y _ _ _ false false true eu (not_over (h x 0) (code_of op) none) en
    (record { next_row = inl refl; rest_of = inl refl; place = inl refl; opens_at = inr place; ends_at = inl refl; count = inr count })
goes_from op next x y (ends eu en none left) =
    moved op x y _ _ _ false false false eu (not_over (h x 0) (code_of op) none) en
    (record { next_row = inl refl; rest_of = inl refl; place = inl refl; opens_at = inl (inr refl); ends_at = inr left; count = inl refl })

pub group_means : (op : Op) (p : Spot) → HasOps op p
    → Means (group_values p) ((is_ordinary_op op ≡ true → IsGroupRow op p.cur)
    × Behind p (λ y. is_ordinary_op op ≡ true → GoesOn op (op_of y) p.cur y))
unfolding group_values places entry_107 rest_flag entry_108 entry_109 entry_110 entry_111 entry_112 entry_113 entry_114
group_means op p r =
    means_as
    (first_then (row_at entry_107 r (says_of (ap (λ m. felt_mul (felt_mul (sp x) m) (felt_sub 1 (felt_mul m (w x 3)))) rest_at)
    (gate_product_if _ _ span (λ is. witness_says (low 16) (code_low op) (rest_low _))))) (λ witness.
    let goes_at : is_ordinary_op op ≡ true → goes_on (hot op) x ≡ cond (goes op x) 1 0 = λ is. goes_is op x r.here.has low (witness is) in
    let goes_say : is_ordinary_op op ≡ true → Says (goes_on (hot op) x) (goes op x ≡ false) = λ is. says_of (goes_at is) (test_says _) in
    pair_at entry_108 r (λ y n. gate_product_if _ _ span (λ is. mul_says (goes_say is) (passes_says n.span)))
    ▸ pair_at entry_109 r (λ y n. gate_product_if _ _ span (λ is. mul_says (goes_say is)
    (says_of (ap (felt_sub (felt_mul 128 (h y 0))) rest_at) (turn (rest_low _) (low 16) (code_low op)))))
    ▸ pair_at entry_110 r (λ y n. gate_product_if _ _ span (λ is. mul_says (goes_say is) (sub_twice_says {k = 1} (n.low 26) (low 26) (lit< tt))))
    ▸ pair_at entry_111 r (λ y n. says_of (ap (λ m. felt_mul m (ox y)) (regroup _ _ _)) (gate_product_if _ _ span (λ is.
    mul_says (mul_says (passes_says (goes_at is)) (says_of n.span (test_says _))) (zero_says (n.low 26)))))
    ▸ pair_at entry_112 r (λ y n. gate_mul span (passes_says n.span) (zero_says (low 25)))
    ▸ pair_at entry_113 r (λ y n. gate_product_if _ _ span (λ is. mul_says (says_of n.span (test_says _))
    (count_says (is_op op ops.Push) (is_left_over op x) (goes_at is) (low 25) (n.low 25))))
    ▸ row_at entry_114 r (places_say 8 span (low 26) (lit< tt)) ▸ nothing))
    (λ (witness, (next_row, (rest_of, (place, (opens_at, (ends_at, (count, (few, done)))))))). (
      λ is. record { place = few is; witness = witness is },
      λ y e is. goes_shown op (op_of y) x y (is_op op ops.Push) (is_left_over op x) (is_ordinary_op (op_of y)) refl refl refl (record {
        next_row = next_row y e is;
        rest_of = rest_of y e is;
        place = place y e is;
        opens_at = opens_at y e is;
        ends_at = ends_at y e is;
        count = count y e is;
      }),
    ))
    (λ (row, on).
    (let g : Behind p (λ y. is_ordinary_op op ≡ true → Goes op x y (is_op op ops.Push) (is_left_over op x) (is_ordinary_op (op_of y))) =
    λ y e is. goes_from op (op_of y) x y (on y e is) in
    (λ is. (row is).witness) & (λ y e is. (g y e is).next_row) & (λ y e is. (g y e is).rest_of) & (λ y e is. (g y e is).place)
    & (λ y e is. (g y e is).opens_at) & (λ y e is. (g y e is).ends_at) & (λ y e is. (g y e is).count) & (λ is. (row is).place) & tt))
  where
    x : List ℕ
    x = p.cur

    low : Low x
    low = r.here.low

    span : sp x ≡ cond (is_ordinary_op op) 1 0
    span = r.here.span

    rest_at : rest x ≡ felt_sub (h x 0) (code_of op)
    rest_at = rest_is op x r.here.has
