-- The cells that an operation leaves, one by one and as a list, and those of the operations whose row shows all that they read.
use Rattle.facts_steps.proofs.Words
use Words.{◌≡◌, ℕ, ◌+◌, ◌<◌, ◌≤◌, false, List, ◌++◌, map, take, length, slice_index, refl, ap, ap₂, sym, ◌∙◌, arith, same_number_lists, length-take-le}
use Words.{get_or-take, computed-shown, reads_elsewhere, leaves_of, sources_of, IsSeenBy, left_cells, ShowTheSame, Seen, Item, Op, s, depth, Elsewhere, cells}
use Words.{seen_of, is_free, left_value, never}
use Words.ops
use Rattle.vm_ops.proofs.MoveLemmas.{leaves_of-below}
use Rattle.vm_ops.proofs.Sizing.{length-left_cells}
use Rattle.facts_steps.proofs.Seeing.{seen_by, shows_same, length_cells, cells_index}

-- each cell that the operation leaves is on top in the row behind it
abbrev pub Leaves : Op → Seen → List ℕ → Type 0
Leaves op sn y = (j : ℕ) → j < leaves_of op → s y j ≡ slice_index (left_cells op sn) j

pub leaves_list : (op : Op) (sn : Seen) (y : List ℕ) → IsSeenBy op sn → Leaves op sn y → left_cells op sn ≡ take (leaves_of op) (cells y)
leaves_list op sn y h leaves =
    let most : leaves_of op ≤ 16 = leaves_of-below op in
    let size : length (cells y) ≡ 16 = length_cells y in
    let count : length (left_cells op sn) ≡ leaves_of op = length-left_cells op sn h in
    same_number_lists (left_cells op sn) (take (leaves_of op) (cells y))
    (count ∙ sym (length-take-le (leaves_of op) (cells y) (omega (arith, most, size))))
    (λ k few.
    let less : k < leaves_of op = omega (arith, few, count) in
    sym (leaves k less) ∙ sym (cells_index y k (omega (arith, less, most))) ∙ sym (get_or-take (leaves_of op) (cells y) k 0 less))

pub list_leaves : (op : Op) (sn : Seen) (y : List ℕ) → left_cells op sn ≡ take (leaves_of op) (cells y) → Leaves op sn y
list_leaves op sn y e = λ j less.
    let most : leaves_of op ≤ 16 = leaves_of-below op in
    sym (cells_index y j (omega (arith, less, most))) ∙ sym (get_or-take (leaves_of op) (cells y) j 0 less)
    ∙ ap (λ (u : List ℕ). slice_index u j) (sym e)

-- ---- what the row shows

left_same : (op : Op) (a b : Seen) → reads_elsewhere op ≡ false → ShowTheSame a b → left_cells op a ≡ left_cells op b
unfolding left_cells
left_same op a b quiet same =
    ap₂ (λ (u v : List ℕ). u ++ v) (computed-shown op a b quiet same) (ap (λ (c : List ℕ). map (slice_index c) (sources_of op)) same.cells)

pub value_is : (constants : List ℕ) (item : Item) (op : Op) (x : List ℕ) (e : Elsewhere) → depth x ≡ 16 + length e.below
    → reads_elsewhere op ≡ false → (j : ℕ)
    → left_value op j x ≡ slice_index (left_cells op (seen_by constants item x e)) j
unfolding left_value
value_is constants item op x e deep quiet j =
    ap (λ (u : List ℕ). slice_index u j) (sym (left_same op (seen_by constants item x e) (seen_of x) quiet (shows_same constants item x e deep)))

pub fixed_is_shown : (op : Op) → is_free op ≡ false → reads_elsewhere op ≡ false
fixed_is_shown ops.Push e = never e
fixed_is_shown ops.AdvPop e = never e
fixed_is_shown ops.AdvPopW e = never e
fixed_is_shown ops.MLoad e = never e
fixed_is_shown ops.MLoadW e = never e
fixed_is_shown ops.HPerm e = never e
fixed_is_shown op e = refl
