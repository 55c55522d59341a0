-- Where the cells that are left stand: the shift of the stack, and the cells written over its top.
use Rattle.std.proofs.Common.{◌≡◌, ◌≢◌, ℕ, suc, ◌+◌, ◌-◌, ◌<◌, ◌≤◌, List, [], ◌∷◌, ◌++◌, length, take, drop, set, get_or, replicate, refl, ap, sym, ◌∙◌, arith, append_assoc, length-append, length-drop}
use Rattle.std.specs.Prelude.{Option, Some, None}
use Rattle.std.proofs.lemmas.List.{take_more, drop-drop, drop-append-le, length-take-le}
use Rattle.std.proofs.Math.Seq.{set-append_seam, drop-cons}
use Rattle.vm_field.specs.Machine.{filled_up}
use Rattle.vm_ops.specs.Moves.{takes_of, leaves_of, shift_of}
use Rattle.vm_ops.specs.declared.op.Op.{Op}
use Rattle.vm_ops.specs.declared.op.Shift.{Shift}
use Rattle.vm_ops.specs.declared.op.Shift.TheVariants.{Left, Stay, Right}
use Rattle.vm_ops.proofs.FrameLemmas.{filled_up-deep}
use Rattle.vm_ops.proofs.MoveLemmas.{ByOne, shift_of-by_one, takes_of-below}
use Rattle.vm_state.specs.Tapes.{Taken}
use Rattle.op_steps.specs.Places.{shifted}

-- one more cell is written over
pub overwritten_more : (xs ys : List ℕ) (j v : ℕ) → j < length xs → j < length ys → v ≡ get_or xs j 0
    → set (take j xs ++ drop j ys) j v ≡ take (j + 1) xs ++ drop (j + 1) ys
overwritten_more xs ys j v in_xs in_ys is =
    let written : length (take j xs) ≡ j = length-take-le j xs (omega arith) in
    let front : take (j + 1) xs ≡ take j xs ++ v ∷ [] = rw (is, take_more xs j 0 in_xs) refl in
    let at_seam : set (take j xs ++ drop j ys) (length (take j xs)) v ≡ take j xs ++ v ∷ drop (suc j) ys =
    rw (drop-cons ys j 0 in_ys) (set-append_seam (take j xs) (get_or ys j 0) (drop (suc j) ys) v) in
    let next : suc j ≡ j + 1 = omega arith in
    ap (λ n. set (take j xs ++ drop j ys) n v) (sym written) ∙ at_seam
    ∙ sym (append_assoc (take j xs) (v ∷ []) (drop (suc j) ys)) ∙ ap (λ zs. zs ++ drop (suc j) ys) (sym front)
    ∙ ap (λ n. take (j + 1) xs ++ drop n ys) next

-- one more element is taken
pub taken_more : (tape : List ℕ) (k : ℕ) (o : Option ℕ) (after : List ℕ) → Taken (drop k tape) o after → after ≡ drop (k + 1) tape
taken_more tape k (Some element) after h = ap (drop 1) (sym h) ∙ drop-drop 1 k tape
taken_more tape k None after h = h.1 ∙ ap (drop 1) (sym h.0) ∙ drop-drop 1 k tape

-- cells written over the top of the shifted stack
placed_by : (shift : Shift) (taken left : ℕ) (cells stack : List ℕ) → ByOne shift taken left → shift ≢ Right → taken ≤ 16 → length cells ≡ left
    → 16 ≤ length stack → cells ++ drop left (shifted shift stack) ≡ filled_up (cells ++ drop taken stack)
placed_by Left taken left cells stack by keeps few count enough =
    let rest : length (drop 1 stack) ≡ length stack - 1 = length-drop 1 stack in
    let low : left ≤ length (drop 1 stack) = omega arith in
    let size : length (cells ++ drop taken stack) ≡ length (drop 1 stack) =
    omega (arith, length-append cells (drop taken stack), length-drop taken stack) in
    let later : drop left (drop 1 stack) ≡ drop taken stack = drop-drop left 1 stack ∙ ap (λ n. drop n stack) (omega arith) in
    rw (size, drop-append-le left (drop 1 stack) (replicate (16 - length (drop 1 stack)) 0) low, later)
    (sym (append_assoc cells (drop taken stack) (replicate (16 - length (drop 1 stack)) 0)))
placed_by Stay taken left cells stack by keeps few count enough =
    let size : 16 ≤ length (cells ++ drop taken stack) = omega (arith, length-append cells (drop taken stack), length-drop taken stack) in
    ap (λ n. cells ++ drop n stack) (sym by) ∙ sym (filled_up-deep (cells ++ drop taken stack) size)
placed_by Right taken left cells stack by keeps few count enough = absurd (keeps refl)

pub placed : (op : Op) (cells stack : List ℕ) → shift_of op ≢ Right → length cells ≡ leaves_of op → 16 ≤ length stack
    → cells ++ drop (length cells) (shifted (shift_of op) stack) ≡ filled_up (cells ++ drop (takes_of op) stack)
placed op cells stack keeps count enough =
    ap (λ n. cells ++ drop n (shifted (shift_of op) stack)) count
    ∙ placed_by (shift_of op) (takes_of op) (leaves_of op) cells stack (shift_of-by_one op) keeps (takes_of-below op) count enough

-- cells written over the top of a stack that a cell was pushed to
grown_by : (taken left v : ℕ) (cells stack : List ℕ) → left ≡ taken + 1 → taken ≤ 16 → length cells ≡ left → 16 ≤ length stack
    → cells ++ drop left (v ∷ stack) ≡ filled_up (cells ++ drop taken stack)
grown_by taken left v cells stack by few count enough =
    let size : 16 ≤ length (cells ++ drop taken stack) = omega (arith, length-append cells (drop taken stack), length-drop taken stack) in
    let more : left ≡ suc taken = omega arith in
    ap (λ n. cells ++ drop n (v ∷ stack)) more ∙ sym (filled_up-deep (cells ++ drop taken stack) size)

grown_shift : (op : Op) (shift : Shift) → ByOne shift (takes_of op) (leaves_of op) → shift ≡ Right → leaves_of op ≡ takes_of op + 1
grown_shift op Left by is = cc
grown_shift op Stay by is = cc
grown_shift op Right by is = by

pub grown : (op : Op) (v : ℕ) (cells stack : List ℕ) → shift_of op ≡ Right → length cells ≡ leaves_of op → 16 ≤ length stack
    → cells ++ drop (length cells) (v ∷ stack) ≡ filled_up (cells ++ drop (takes_of op) stack)
grown op v cells stack grows count enough =
    ap (λ n. cells ++ drop n (v ∷ stack)) count
    ∙ grown_by (takes_of op) (leaves_of op) v cells stack (grown_shift op (shift_of op) (shift_of-by_one op) grows) (takes_of-below op) count enough
