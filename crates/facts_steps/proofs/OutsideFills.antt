-- The operations that read what no row shows: what they leave shows it.
use Rattle.facts_steps.proofs.Words
use Words.{◌≡◌, ◌≢◌, ℕ, ◌^◌, ◌<◌, true, false, ◌||◌, cond, List, [], ◌∷◌, ◌++◌, take, drop, reverse, length, slice_index, Option, Some, None, unwrap_or}
use Words.{refl, ap, ap₂, sym, ◌∙◌, arith, append-nil, reverse-reverse, take-append-drop, prime, accesses_memory, IsOrdinaryItem, leaves_of, left_cells}
use Words.{computed, advice_of, Item, Op, s, t, is_op, twelve, Elsewhere, taken_by, cells, item_of, LooksUpWord, word_before}
use Words.ops
use Rattle.std.specs.Option.{MatchOption}
use Rattle.vm_field.specs.Permutation.{permuted}
use Rattle.facts_steps.proofs.Shifts.{front_of}
use Rattle.facts_steps.proofs.Tests.{at_op, or_second}
use Rattle.facts_steps.proofs.Seeing.{seen_by}

-- a list that is turned
turned : (xs ys : List ℕ) → reverse xs ++ [] ≡ ys → xs ≡ reverse ys
turned xs ys e = sym (reverse-reverse xs) ∙ ap reverse (sym (append-nil (reverse xs)) ∙ e)

-- what the operation leaves on top
pub record Tops (constants : List ℕ) (item : Item) (op : Op) (x y : List ℕ) (e : Elsewhere) : Type 0 where
  pub are : left_cells op (seen_by constants item x e) ≡ take (leaves_of op) (cells y)

not_push : (op : Op) → op ≢ ops.Push → is_op op ops.Push ≡ false
not_push ops.Push other = absurd (other refl)
not_push op other = refl

item_by : (op : Op) (imm : Option ℕ) (y : List ℕ) → MatchOption imm (op ≢ ops.Push) (λ value. (op ≡ ops.Push) × (value < prime))
    → (is_op op ops.Push ≡ true → unwrap_or imm 0 ≡ s y 0) → imm ≡ cond (is_op op ops.Push) (Some (s y 0)) None
item_by op None y other pushed = rw (not_push op other) refl
item_by op (Some value) y is pushed =
    let push : is_op op ops.Push ≡ true = ap (λ (o : Op). is_op o ops.Push) is.0 in
    ap (λ (n : ℕ). Some n) (pushed push) ∙ ap (λ u. cond u (Some (s y 0)) None) (sym push)

module _ {constants : List ℕ} {item : Item} {x y : List ℕ} {e : Elsewhere} where
  -- ---- the tape

  taken_is : (op : Op) → item.op ≡ op → Tops constants item op x y e → take (advice_of op) e.tape ≡ taken_by op y
  unfolding left_cells computed cells
  taken_is ops.AdvPop same h =
      ap (λ (o : Op). take (advice_of o) e.tape) (sym same) ∙ sym (append-nil (take (advice_of item.op) e.tape)) ∙ h.are
  taken_is ops.AdvPopW same h =
      ap (λ (o : Op). take (advice_of o) e.tape) (sym same) ∙ turned (take (advice_of item.op) e.tape) (s y 0 ∷ s y 1 ∷ s y 2 ∷ s y 3 ∷ []) h.are
  taken_is op same h = refl

  pub tape_filled : Tops constants item item.op x y e → e.tape ≡ taken_by item.op y ++ drop (advice_of item.op) e.tape
  tape_filled h =
      sym (take-append-drop (advice_of item.op) e.tape)
      ∙ ap (λ (u : List ℕ). u ++ drop (advice_of item.op) e.tape) (taken_is item.op refl h)

  -- ---- what an operation reads, by what it leaves

  pushed_is : Tops constants item ops.Push x y e → unwrap_or item.imm 0 ≡ s y 0
  unfolding left_cells computed cells
  pushed_is h = ap (λ (u : List ℕ). slice_index u 0) h.are

  element_is : Tops constants item ops.MLoad x y e → length (word_before x e) ≡ 4 → drop 1 (word_before x e) ≡ t x 0 ∷ t x 1 ∷ t x 2 ∷ []
      → word_before x e ≡ s y 0 ∷ t x 0 ∷ t x 1 ∷ t x 2 ∷ []
  unfolding left_cells computed cells
  element_is h count rest =
      front_of (word_before x e) (λ z. omega (arith, count, z))
      ∙ ap₂ (λ (v : ℕ) (u : List ℕ). v ∷ u) (ap (λ (u : List ℕ). slice_index u 0) h.are) rest

  word_is : Tops constants item ops.MLoadW x y e → word_before x e ≡ s y 3 ∷ s y 2 ∷ s y 1 ∷ s y 0 ∷ []
  unfolding left_cells computed cells
  word_is h = turned (word_before x e) (s y 0 ∷ s y 1 ∷ s y 2 ∷ s y 3 ∷ []) h.are

  permutation_is : Tops constants item ops.HPerm x y e → twelve y ≡ permuted constants (twelve x)
  unfolding left_cells computed cells
  permutation_is h = sym (turned (permuted constants (twelve x)) _ h.are)

module _ {constants : List ℕ} {item : Item} {op : Op} {x y : List ℕ} {e : Elsewhere} (h : Tops constants item op x y e) where
  at : (other : Op) → is_op op other ≡ true → Tops constants item other x y e
  at other is = at_op (λ o. Tops constants item o x y e) op other is h

  pub memory_filled : length (word_before x e) ≡ 4 → (is_op op ops.MLoad || is_op op ops.MStore ≡ true → drop 1 (word_before x e) ≡ t x 0 ∷ t x 1 ∷ t x 2 ∷ [])
      → (accesses_memory op ≡ true → s x 0 < 2 ^ 32) → LooksUpWord op x y e
  memory_filled count rest address = record {
    address = address;
    element = λ is. element_is (at ops.MLoad is) count (rest (ap (λ u. u || is_op op ops.MStore) is));
    word = λ is. word_is (at ops.MLoadW is);
    kept = λ is. rest (or_second (is_op op ops.MLoad) is);
  }

  pub permutes_filled : is_op op ops.HPerm ≡ true → twelve y ≡ permuted constants (twelve x)
  permutes_filled is = permutation_is (at ops.HPerm is)

pub item_filled : {constants : List ℕ} {item : Item} {x y : List ℕ} {e : Elsewhere} → IsOrdinaryItem item → Tops constants item item.op x y e
    → item ≡ item_of item.op y
item_filled {item = item} {y = y} o h =
    let imm = item_by item.op item.imm y o.immediate (λ is. pushed_is (at h ops.Push is)) in λ i. record { op = item.op; imm = imm i }
