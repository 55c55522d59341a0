-- The witnesses, the limbs and the word of memory of a row of an ordinary operation.
use Rattle.complete_rows.proofs.Words
use Words.{◌≡◌, ℕ, ◌-◌, ◌^◌, ◌<◌, true, ◌||◌, List, [], ◌∷◌, ◌++◌, length, drop, slice_index, refl, sym, ap, ◌∙◌, arith, lit<, length-drop, felt_inv, Core}
use Words.{word_at, ◌⊟◌, accesses_memory, is_ordinary_op, memory_with, Seen, written, Op, s, t, w, is_op, Event, Visible, off, has_high_word, Decoder, line_of}
use Words.{row_of, witnesses_by, cell, limbs_by, limbs_of, word_rest, operation_witnesses}
use Words.ops
use Words.tuples
use Rattle.vm_field.proofs.Places.{word_at-insert_same}
use Rattle.facts_steps.specs.Filling.{halves, limbs_filled}
use Rattle.complete_rows.specs.Witnesses.{first_witness}
use Rattle.complete_rows.proofs.AgreeLemmas.{kind_is}
use Rattle.complete_rows.proofs.ColumnLemmas.{col_t, col_w}
use Rattle.complete_requests.proofs.RangeLaw.{few_limbs}

-- ---- the first witness

pub witness_is : (d : Decoder) (e : Event) (v : Visible) (later : List Event) → is_ordinary_op e.op ≡ true
    → w (row_of d e v later) 0 ≡ first_witness e.op d.next e.before v
unfolding operation_witnesses
witness_is d e v later is =
    col_w (line_of d e v later) 0 (lit< tt) ∙ ap (λ k. slice_index (witnesses_by k d e v later) 0) (kind_is e.op is)

pub of_zero : (op : Op) (address : ℕ) (x y : Visible) → is_op op ops.Eqz ≡ true → first_witness op address x y ≡ felt_inv (cell x 0)
of_zero ops.Eqz address x y is = refl
of_zero op address x y is = off is

pub of_same : (op : Op) (address : ℕ) (x y : Visible) → is_op op ops.Eq ≡ true → first_witness op address x y ≡ felt_inv (cell x 0 ⊟ cell x 1)
of_same ops.Eq address x y is = refl
of_same op address x y is = off is

pub of_highest : (op : Op) (address : ℕ) (x y : Visible) → has_high_word op ≡ true
    → first_witness op address x y ≡ felt_inv (2 ^ 32 - 1 ⊟ cell y 0)
of_highest ops.U32Split address x y is = refl
of_highest ops.U32Mul address x y is = refl
of_highest ops.U32MAdd address x y is = refl
of_highest op address x y is = off is

-- ---- limbs

-- the cells of two rows that limbs are of
pub record ShowsCells (x y : List ℕ) (v n : Visible) : Type 0 where
  pub first : s x 0 ≡ cell v 0
  pub second : s x 1 ≡ cell v 1
  pub third : s x 2 ≡ cell v 2
  pub top : s y 0 ≡ cell n 0
  pub next : s y 1 ≡ cell n 1

pub limbs_same : (op : Op) (x y : List ℕ) (v n : Visible) (word : List ℕ) → ShowsCells x y v n → (j : ℕ) → j < tuples.count_of_limbs op
    → slice_index (limbs_by op v n ++ word_rest op word) j ≡ slice_index (limbs_filled op x y) j
limbs_same ops.U32Split x y v n word e j low = sym (λ i. slice_index (halves (e.next i) (halves (e.top i) [])) j)
limbs_same ops.U32Assert2 x y v n word e j low = sym (λ i. slice_index (halves (e.first i) (halves (e.second i) [])) j)
limbs_same ops.U32Add x y v n word e j low = sym (λ i. slice_index (halves (e.first i) (halves (e.second i) (halves (e.next i) (e.top i ∷ [])))) j)
limbs_same ops.U32Sub x y v n word e j low = sym (λ i. slice_index (halves (e.first i) (halves (e.second i) (halves (e.next i) []))) j)
limbs_same ops.U32Mul x y v n word e j low =
    sym (λ i. slice_index (halves (e.first i) (halves (e.second i) (halves (e.next i) (halves (e.top i) [])))) j)
limbs_same ops.U32Div x y v n word e j low =
    sym (λ i. slice_index (halves (e.first i) (halves (e.second i) (halves (e.next i) (halves (e.top i) (halves (e.first i - e.top i - 1) []))))) j)
limbs_same ops.U32Add3 x y v n word e j low =
    sym (λ i. slice_index (halves (e.first i) (halves (e.second i) (halves (e.third i) (halves (e.next i) (e.top i ∷ []))))) j)
limbs_same ops.U32MAdd x y v n word e j low =
    sym (λ i. slice_index (halves (e.first i) (halves (e.second i) (halves (e.third i) (halves (e.next i) (halves (e.top i) []))))) j)
limbs_same op x y v n word e j low = absurd (omega (arith, low))

pub limb_is : (d : Decoder) (e : Event) (v : Visible) (later : List Event) (y : List ℕ) → ShowsCells (row_of d e v later) y e.before v
    → (j : ℕ) → j < tuples.count_of_limbs e.op → t (row_of d e v later) j ≡ slice_index (limbs_filled e.op (row_of d e v later) y) j
unfolding limbs_of
limb_is d e v later y shown j low =
    let few = few_limbs e.op in
    col_t (line_of d e v later) j (omega (arith, low, few)) ∙ limbs_same e.op (row_of d e v later) y e.before v e.word shown j low

-- ---- the word of memory

abbrev pub reads_word : Op → Type 0
reads_word op = is_op op ops.MLoad || is_op op ops.MStore ≡ true

pub accesses : (op : Op) → reads_word op → accesses_memory op ≡ true
accesses ops.MLoad is = refl
accesses ops.MStore is = refl
accesses op is = off is

-- the operation keeps the other elements of the word
pub rest_kept : (op : Op) (c : Core) (v : Seen) → v.word ≡ word_at c.memory c.context (slice_index c.stack 0) → reads_word op
    → drop 1 (word_at (memory_with c.memory c.context (slice_index c.stack 0) (written op v)) c.context (slice_index c.stack 0))
    ≡ drop 1 (word_at c.memory c.context (slice_index c.stack 0))
rest_kept ops.MLoad c v e is = refl
rest_kept ops.MStore c v e is =
    ap (drop 1) (word_at-insert_same c.memory c.context (slice_index c.stack 0) (slice_index v.cells 1 ∷ drop 1 v.word)) ∙ ap (drop 1) e
rest_kept op c v e is = off is

rest_limb : (op : Op) (x y : Visible) (word : List ℕ) (j : ℕ) → reads_word op
    → slice_index (limbs_by op x y ++ word_rest op word) j ≡ slice_index (drop 1 word) j
rest_limb ops.MLoad x y word j is = refl
rest_limb ops.MStore x y word j is = refl
rest_limb op x y word j is = off is

three_of : (xs : List ℕ) → length xs ≡ 3 → slice_index xs 0 ∷ slice_index xs 1 ∷ slice_index xs 2 ∷ [] ≡ xs
three_of (a ∷ b ∷ c ∷ []) size = refl
three_of xs size = absurd (omega (arith, size))

pub word_is : (d : Decoder) (e : Event) (v : Visible) (later : List Event) → length e.word ≡ 4 → reads_word e.op
    → drop 1 e.word ≡ t (row_of d e v later) 0 ∷ t (row_of d e v later) 1 ∷ t (row_of d e v later) 2 ∷ []
unfolding limbs_of
word_is d e v later size is =
    let rest : length (drop 1 e.word) ≡ 3 = omega (arith, length-drop 1 e.word, size) in
    let a = col_t (line_of d e v later) 0 (lit< tt) ∙ rest_limb e.op e.before v e.word 0 is in
    let b = col_t (line_of d e v later) 1 (lit< tt) ∙ rest_limb e.op e.before v e.word 1 is in
    let c = col_t (line_of d e v later) 2 (lit< tt) ∙ rest_limb e.op e.before v e.word 2 is in
    sym ((λ i. a i ∷ b i ∷ c i ∷ []) ∙ three_of (drop 1 e.word) rest)
