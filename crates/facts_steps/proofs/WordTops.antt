-- The operations on numbers of 32 bits: their limbs fix what they leave, as the machine computes it.
use Rattle.facts_steps.proofs.Words
use Words.{◌≡◌, ℕ, ◌/◌, ◌%◌, ◌^◌, ◌<◌, true, false, List, refl, arith, and_comm, xor_comm, ◌∙◌, reads_elsewhere, leaves_of, left_cells}
use Words.{computed, Op, s, is_op, is_free, cells, seen_of, left_value, Low, off, never, LooksUpBits}
use Words.ops
use Rattle.facts_steps.specs.Numbers.{AreWords, ShowsNumbers}
use Rattle.facts_steps.proofs.Numbers.{Borrows}
use Rattle.facts_steps.proofs.Products.{divided_from}
use Rattle.facts_steps.proofs.Seeing.{below_by}

words_left : (v : ℕ → ℕ) {n : ℕ} (y : List ℕ) → AreWords n y → n / 2 ^ 32 ≡ v 0 → n % 2 ^ 32 ≡ v 1 → (j : ℕ) → j < 2 → s y j ≡ v j
words_left v y k high low = below_by 2 (λ j. s y j ≡ v j) (omega (arith, k.low, k.whole, high), (omega (arith, k.low, k.whole, low), tt))

pub word_leaves : (op : Op) (x y : List ℕ) → is_free op ≡ true → reads_elsewhere op ≡ false → Low x → ShowsNumbers op x y
    → (is_op op ops.U32Sub ≡ true → Borrows (s x 1) (s x 0) (s y 0) (s y 1)) → LooksUpBits op x y → (j : ℕ) → j < leaves_of op
    → s y j ≡ left_value op j x
unfolding left_value left_cells computed seen_of cells
word_leaves ops.Push x y free quiet low n borrows looks = never quiet
word_leaves ops.AdvPop x y free quiet low n borrows looks = never quiet
word_leaves ops.AdvPopW x y free quiet low n borrows looks = never quiet
word_leaves ops.MLoad x y free quiet low n borrows looks = never quiet
word_leaves ops.MLoadW x y free quiet low n borrows looks = never quiet
word_leaves ops.HPerm x y free quiet low n borrows looks = never quiet
word_leaves ops.U32And x y free quiet low n borrows looks =
    below_by 1 (λ j. s y j ≡ left_value ops.U32And j x) (looks.conjunction refl ∙ and_comm (s x 0) (s x 1), tt)
word_leaves ops.U32Xor x y free quiet low n borrows looks =
    below_by 1 (λ j. s y j ≡ left_value ops.U32Xor j x) (looks.difference refl ∙ xor_comm (s x 0) (s x 1), tt)
word_leaves ops.U32Split x y free quiet low n borrows looks = words_left (λ j. left_value ops.U32Split j x) y (n.splits refl (low 30)) refl refl
word_leaves ops.U32Add x y free quiet low n borrows looks = words_left (λ j. left_value ops.U32Add j x) y (n.adds refl).1 refl refl
word_leaves ops.U32Add3 x y free quiet low n borrows looks = words_left (λ j. left_value ops.U32Add3 j x) y (n.adds_three refl).1 refl refl
word_leaves ops.U32Mul x y free quiet low n borrows looks = words_left (λ j. left_value ops.U32Mul j x) y (n.multiplies refl) refl refl
word_leaves ops.U32MAdd x y free quiet low n borrows looks = words_left (λ j. left_value ops.U32MAdd j x) y (n.multiplies_and_adds refl) refl refl
word_leaves ops.U32Sub x y free quiet low n borrows looks =
    let k = borrows refl in below_by 2 (λ j. s y j ≡ left_value ops.U32Sub j x) (k.borrow_is, (k.rest_is, tt))
word_leaves ops.U32Div x y free quiet low n borrows looks =
    let k = divided_from (n.divides refl).0 (n.divides refl).1 in
    below_by 2 (λ j. s y j ≡ left_value ops.U32Div j x) (k.remainder, (k.quotient, tt))
word_leaves op x y free quiet low n borrows looks = off free
