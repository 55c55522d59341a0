-- What the entries 119 to 134 say where they are 0: each cell of the row behind.
use Rattle.facts_main.proofs.Words.{◌≡◌, ℕ, zero, suc, ◌+◌, ◌-◌, ◌%◌, ◌<◌, Bool, true, false, ◌&&◌, not, cond, eqb, nat_lt, List, [], ◌∷◌, ◌++◌, take, drop}
use Rattle.facts_main.proofs.Words.{slice_index, refl, sym, ap, ◌∙◌, arith, lit<, eqb-true, nat_tests, prime, felt_add, felt_sub, felt_mul, AreElements}
use Rattle.facts_main.proofs.Words.{left_cells, Op, h, s, depth, w, is_op, is_left, sum_over, sum_over-hot, IsEndRow, tests_top}
use Rattle.vm_field.proofs.Elements.{elements-append, elements-cons, elements-drop, elements-index, elements-none, elements-one, elements-picked, elements-reverse, elements-take, elements-two, elements-cond}
use Rattle.vm_ops.specs.Moves.{takes_of, leaves_of, sources_of}
use Rattle.vm_ops.specs.Values.{bit_of, computed}
use Rattle.vm_ops.specs.declared.op.Op.TheVariants as ops
use Rattle.air_kit.specs.StackValues.{cells, function_digest, seen_of, is_free, chosen, chosen_not, word_term, left_value, top_term, below_term, end_term, term, entry_119}
use Rattle.facts_main.proofs.Says.{Says, says_of, says_as, off, never, rest_low, rest_says, zero_says, sub_says, gate, one, both_say, bit_is, less_one, eqb_of}
use Rattle.facts_main.proofs.Hot.{hot, one_hot_is}
use Rattle.facts_main.proofs.Means.{◌&◌}
use Rattle.facts_main.proofs.BlockFacts.{Low}
use Rattle.facts_main.proofs.DepthFacts.{Witness, flat_is}

-- ---- the cells that an operation leaves are elements

bit_low : (t : Bool) → bit_of t < prime
bit_low true = lit< tt
bit_low false = lit< tt

-- one by one
abbrev pub EachLow : List ℕ → Type 0
EachLow [] = Unit {0}
EachLow (v ∷ vs) = (v < prime) × EachLow vs

pub elements_each : (xs : List ℕ) → EachLow xs → AreElements xs
elements_each [] each = elements-none
elements_each (v ∷ vs) each = elements-cons v vs each.0 (elements_each vs each.1)

module _ (x : List ℕ) (low : Low x) where
  elements_cells : AreElements (cells x)
  unfolding cells
  elements_cells = elements_each (cells x)
      (low 30 & low 31 & low 32 & low 33 & low 34 & low 35 & low 36 & low 37 & low 38 & low 39 & low 40 & low 41 & low 42 & low 43 & low 44 & low 45 & tt)

  elements_digest : AreElements (function_digest x)
  unfolding function_digest
  elements_digest = elements_each (function_digest x) (low 4 & low 5 & low 6 & low 7 & tt)

  computed_low : (op : Op) → is_free op ≡ false → is_op op ops.Inv ≡ false → AreElements (computed op (seen_of x))
  unfolding computed seen_of
  computed_low ops.Eqz free out = elements-one _ (bit_low (eqb (slice_index (cells x) 0) 0))
  computed_low ops.Neg free out = elements-one _ (rest_low _)
  computed_low ops.Inv free out = never out
  computed_low ops.Incr free out = elements-one _ (rest_low _)
  computed_low ops.Not free out = elements-one _ (rest_low _)
  computed_low ops.FmpAdd free out = elements-one _ (rest_low _)
  computed_low ops.MLoad free out = never free
  computed_low ops.Caller free out = elements-reverse (function_digest x) elements_digest
  computed_low ops.AdvPopW free out = never free
  computed_low ops.HPerm free out = never free
  computed_low ops.U32Add free out = never free
  computed_low ops.U32Sub free out = never free
  computed_low ops.U32Mul free out = never free
  computed_low ops.U32Div free out = never free
  computed_low ops.Eq free out = elements-one _ (bit_low (eqb (slice_index (cells x) 0) (slice_index (cells x) 1)))
  computed_low ops.Add free out = elements-one _ (rest_low _)
  computed_low ops.Mul free out = elements-one _ (rest_low _)
  computed_low ops.And free out = elements-one _ (rest_low _)
  computed_low ops.Or free out = elements-one _ (rest_low _)
  computed_low ops.U32And free out = never free
  computed_low ops.U32Xor free out = never free
  computed_low ops.CSwap free out =
      let cell : (j : ℕ) → slice_index (cells x) j < prime = λ j. elements-index (cells x) j elements_cells in
      elements-cond (eqb (slice_index (cells x) 0) 0) _ _ (elements-two _ _ (cell 1) (cell 2)) (elements-two _ _ (cell 2) (cell 1))
  computed_low ops.CSwapW free out =
      let word : (j : ℕ) → AreElements (take 4 (drop j (cells x))) = λ j. elements-take 4 _ (elements-drop j (cells x) elements_cells) in
      elements-cond (eqb (slice_index (cells x) 0) 0) _ _ (elements-take 8 _ (elements-drop 1 (cells x) elements_cells))
      (elements-append _ _ (word 5) (word 1))
  computed_low ops.MLoadW free out = never free
  computed_low ops.U32Add3 free out = never free
  computed_low ops.U32MAdd free out = never free
  computed_low ops.Pad free out = elements-one 0 (lit< tt)
  computed_low ops.AdvPop free out = never free
  computed_low ops.SDepth free out = elements-one _ (rest_low _)
  computed_low ops.Clk free out = elements-one _ (rest_low _)
  computed_low ops.U32Split free out = never free
  computed_low ops.Push free out = never free
  computed_low op free out = elements-none

  left_low : (op : Op) (j : ℕ) → is_free op ≡ false → is_op op ops.Inv ≡ false → left_value op j x < prime
  unfolding left_value left_cells seen_of
  left_low op j free out =
      elements-index (left_cells op (seen_of x)) j
      (elements-append (computed op (seen_of x)) _ (computed_low op free out) (elements-picked (cells x) (sources_of op) elements_cells))

-- ---- a value by cases

cases_say : {v u : ℕ} {P Q : Type 0} (t : Bool) → (t ≡ true → Says v P) → (t ≡ false → Says u Q)
    → Says (cond t v u) ((t ≡ true → P) × (t ≡ false → Q))
cases_say true a b =
    let s = a refl in
    record { low = s.low; shown = λ z. (λ _. s.shown z, λ e. never e); zero_where = λ h. s.zero_where (h.0 refl) }
cases_say false a b =
    let s = b refl in
    record { low = s.low; shown = λ z. (λ e. off e, λ _. s.shown z); zero_where = λ h. s.zero_where (h.1 refl) }

free_says : {u : ℕ} {Q : Type 0} (t : Bool) → (t ≡ false → Says u Q) → Says (cond t 0 u) (t ≡ false → Q)
free_says true b = record { low = lit< tt; shown = λ z e. never e; zero_where = λ h. refl }
free_says false b =
    let s = b refl in
    record { low = s.low; shown = λ z e. s.shown z; zero_where = λ h. s.zero_where (h refl) }

-- ---- the cells that the operation leaves

-- what the cell's value says by itself
abbrev pub TopFact : Op → ℕ → List ℕ → List ℕ → Type 0
TopFact ops.Eqz j x y = felt_add (s y 0) (felt_mul (s x 0) (w x 0)) ≡ 1
TopFact ops.Eq j x y = felt_add (s y 0) (felt_mul (felt_sub (s x 0) (s x 1)) (w x 0)) ≡ 1
TopFact ops.Inv j x y = felt_mul (s x 0) (s y 0) ≡ 1
TopFact op j x y = is_free op ≡ false → s y j ≡ left_value op j x

sum_one_says : {i k : ℕ} → i < prime → k < prime → Says (felt_add (felt_sub i 1) k) (felt_add i k ≡ 1)
sum_one_says li lk = rest_says _ (λ z. omega arith) (λ e. omega arith)

-- what a condition chooses
chosen_is : (t i k : ℕ) → t < 2 → i < prime → k < prime → chosen t i k ≡ cond (eqb t 0) i k
chosen_is zero i k few li lk = omega arith
chosen_is (suc zero) i k few li lk = omega arith
chosen_is (suc (suc t)) i k few li lk = absurd (omega arith)

chosen_not_is : (t i k : ℕ) → t < 2 → i < prime → k < prime → chosen_not t i k ≡ cond (eqb t 0) k i
chosen_not_is zero i k few li lk = omega arith
chosen_not_is (suc zero) i k few li lk = omega arith
chosen_not_is (suc (suc t)) i k few li lk = absurd (omega arith)

first_of_two : (t : Bool) (i k : ℕ) → slice_index (cond t (i ∷ k ∷ []) (k ∷ i ∷ []) ++ []) 0 ≡ cond t i k
first_of_two true i k = refl
first_of_two false i k = refl

second_of_two : (t : Bool) (i k : ℕ) → slice_index (cond t (i ∷ k ∷ []) (k ∷ i ∷ []) ++ []) 1 ≡ cond t k i
second_of_two true i k = refl
second_of_two false i k = refl

cswap_first : (x : List ℕ) → left_value ops.CSwap 0 x ≡ cond (eqb (s x 0) 0) (s x 1) (s x 2)
unfolding left_value left_cells computed seen_of cells
cswap_first x = first_of_two (eqb (s x 0) 0) (s x 1) (s x 2)

cswap_second : (x : List ℕ) → left_value ops.CSwap 1 x ≡ cond (eqb (s x 0) 0) (s x 2) (s x 1)
unfolding left_value left_cells computed seen_of cells
cswap_second x = second_of_two (eqb (s x 0) 0) (s x 1) (s x 2)

-- the cell that an exchange of words brings to a place
abbrev word_cell : Bool → List ℕ → ℕ → ℕ
word_cell t x j = cond t (s x (j + 1)) (cond (nat_lt j 4) (s x (j + 5)) (s x (j - 3)))

word_left : (t : Bool) (x : List ℕ) (j : ℕ) → j < 8
    → slice_index (cond t (take 8 (drop 1 (cells x))) (take 4 (drop 5 (cells x)) ++ take 4 (drop 1 (cells x))) ++ []) j ≡ word_cell t x j
unfolding cells
word_left true x (suc (suc (suc (suc (suc (suc (suc (suc j)))))))) few = absurd (omega arith)
word_left false x (suc (suc (suc (suc (suc (suc (suc (suc j)))))))) few = absurd (omega arith)
word_left t x j few = refl

cswapw_cell : (x : List ℕ) (j : ℕ) → j < 8 → left_value ops.CSwapW j x ≡ word_cell (eqb (s x 0) 0) x j
unfolding left_value left_cells computed seen_of cells
cswapw_cell x j few = word_left (eqb (s x 0) 0) x j few

word_is : (j : ℕ) (x y : List ℕ) → Low x → s x 0 < 2 → word_term j x y ≡ felt_sub (s y j) (word_cell (eqb (s x 0) 0) x j)
word_is j x y low few = go (nat_lt j 4)
  where
    go : (t : Bool) → cond t (felt_sub (s y j) (chosen (s x 0) (s x (j + 1)) (s x (j + 5))))
        (felt_sub (s y j) (chosen_not (s x 0) (s x (j - 3)) (s x (j + 1))))
        ≡ felt_sub (s y j) (cond (eqb (s x 0) 0) (s x (j + 1)) (cond t (s x (j + 5)) (s x (j - 3))))
    go true = ap (felt_sub (s y j)) (chosen_is (s x 0) (s x (j + 1)) (s x (j + 5)) few (low (30 + (j + 1))) (low (30 + (j + 5))))
    go false = ap (felt_sub (s y j)) (chosen_not_is (s x 0) (s x (j - 3)) (s x (j + 1)) few (low (30 + (j - 3))) (low (30 + (j + 1))))

same_says : {v : ℕ} {P : Type 0} → Says v P → Says v (false ≡ false → P)
same_says a = says_as a (λ e _. e) (λ f. f refl)

-- what the value of a cell is, where it is an element
leaves_says : (op : Op) (j : ℕ) (x y : List ℕ) → Low x → Low y → is_free op ≡ false → is_op op ops.Inv ≡ false
    → Says (felt_sub (s y j) (left_value op j x)) (s y j ≡ left_value op j x)
leaves_says op j x y low low_next free out = sub_says (low_next (30 + j)) (left_low x low op j free out)

top_says : (op : Op) (j : ℕ) (x y : List ℕ) → j < leaves_of op → Low x → Low y → (tests_top op ≡ true → s x 0 < 2)
    → Says (top_term j x y op) (TopFact op j x y)
unfolding top_term
top_says ops.Eqz j x y few low low_next bit = sum_one_says (low_next 30) (rest_low _)
top_says ops.Eq j x y few low low_next bit = sum_one_says (low_next 30) (rest_low _)
top_says ops.Inv j x y few low low_next bit = sub_says (rest_low _) (lit< tt)
top_says ops.CSwap zero x y few low low_next bit =
    same_says
    (says_of (ap (felt_sub (s y 0)) (chosen_is (s x 0) (s x 1) (s x 2) (bit refl) (low 31) (low 32) ∙ sym (cswap_first x)))
    (leaves_says ops.CSwap 0 x y low low_next refl refl))
top_says ops.CSwap (suc zero) x y few low low_next bit =
    same_says
    (says_of (ap (felt_sub (s y 1)) (chosen_not_is (s x 0) (s x 1) (s x 2) (bit refl) (low 31) (low 32) ∙ sym (cswap_second x)))
    (leaves_says ops.CSwap 1 x y low low_next refl refl))
top_says ops.CSwap (suc (suc j)) x y few low low_next bit = absurd (omega arith)
top_says ops.CSwapW j x y few low low_next bit =
    same_says
    (says_of (word_is j x y low (bit refl) ∙ ap (felt_sub (s y j)) (sym (cswapw_cell x j few))) (leaves_says ops.CSwapW j x y low low_next refl refl))
top_says op j x y few low low_next bit = free_says (is_free op) (λ free. leaves_says op j x y low low_next free refl)

-- ---- the cells below them

abbrev pub BelowFact : Op → ℕ → List ℕ → List ℕ → Type 0
BelowFact op j x y =
    (is_left op && eqb j 15 ≡ true → depth x ≡ 16 → s y 15 ≡ 0) × (is_left op && eqb j 15 ≡ false → s y j ≡ s x (j + takes_of op - leaves_of op))

below_says : (op : Op) (j : ℕ) (x y : List ℕ) → Low x → Low y → Witness x → Says (below_term j x y op) (BelowFact op j x y)
unfolding below_term
below_says op j x y low low_next witness =
    cases_say (is_left op && eqb j 15)
    (λ is. says_as (gate (flat_is x low witness) (zero_says (low_next 45))) (λ f e. f (eqb_of (depth x) 16 e)) (λ f e. f (eqb-true (depth x) 16 e)))
    (λ other. sub_says (low_next (30 + j)) (low (30 + (j + takes_of op - leaves_of op))))

abbrev pub EndFact : ℕ → List ℕ → List ℕ → Type 0
EndFact j x y = (not (eqb (h x 4) 1) ≡ true → BelowFact ops.End j x y) × (eqb (h x 4) 1 ≡ true → BelowFact ops.Drop j x y)

not_both : (t : Bool) → not t && t ≡ false
not_both true = refl
not_both false = refl

end_says : (j : ℕ) (x y : List ℕ) → Low x → Low y → Witness x → h x 4 < 2 → Says (end_term j x y) (EndFact j x y)
unfolding end_term
end_says j x y low low_next witness few =
    both_say (one (less_one _ (bit_is few)) (below_says ops.End j x y low low_next witness))
    (one (bit_is few) (below_says ops.Drop j x y low low_next witness)) (not_both (eqb (h x 4) 1))

-- ---- the entry

abbrev pub CellFact : Op → ℕ → List ℕ → List ℕ → Type 0
CellFact op j x y =
    (is_op op ops.End ≡ true → EndFact j x y)
    × (is_op op ops.End ≡ false → (nat_lt j (leaves_of op) ≡ true → TopFact op j x y) × (nat_lt j (leaves_of op) ≡ false → BelowFact op j x y))

pub less_of : (i k : ℕ) → nat_lt i k ≡ true → i < k
less_of i k e = grind (arith, nat_tests)

term_says : (op : Op) (j : ℕ) (x y : List ℕ) → Low x → Low y → Witness x → (is_op op ops.End ≡ true → IsEndRow x) → (tests_top op ≡ true → s x 0 < 2)
    → Says (term j x y op) (CellFact op j x y)
unfolding term
term_says op j x y low low_next witness ends bit =
    cases_say (is_op op ops.End) (λ is. end_says j x y low low_next witness ((ends is).bits 0 (lit< tt)))
    (λ other. cases_say (nat_lt j (leaves_of op)) (λ few. top_says op j x y (less_of j (leaves_of op) few) low low_next bit)
    (λ past. below_says op j x y low low_next witness))

rest_same : (n : ℕ) → n < prime → n % prime ≡ n
rest_same n low = omega arith

pub cell_says : (op next : Op) (j : ℕ) (x y : List ℕ) → Low x → Low y → Witness x → (is_op op ops.End ≡ true → IsEndRow x)
    → (tests_top op ≡ true → s x 0 < 2)
    → Says (entry_119 j (hot op) (hot next) x y) (CellFact op j x y)
unfolding entry_119
cell_says op next j x y low low_next witness ends bit =
    let said = term_says op j x y low low_next witness ends bit in
    says_of (ap (λ fl. sum_over fl (term j x y)) (sym (one_hot_is op)) ∙ sum_over-hot op (term j x y) ∙ rest_same (term j x y op) said.low) said
