-- The row of a dynamic block shows the zeros that it is hashed from.
use Rattle.complete_rows.proofs.Words
use Words.{◌≡◌, ℕ, true, false, List, ◌++◌, slice_index, refl, sym, ap, ◌∙◌, State, zero_word, is_ordinary_op, Op, h, Mark, StartOpaque, StartDyn, Do, hash_of}
use Words.{op_of_mark, is_op, eight, IsDynRow, off, Decoder, IsLastMoment, IsMoment}
use Words.ops
use Words.flags
use Rattle.complete_rows.proofs.BlockLemmas.{op_same}
use Rattle.complete_rows.proofs.ColumnLemmas.{below_four}
use Rattle.complete_rows.proofs.MomentFacts.{end_op, moment_op}
use Rattle.complete_requests.proofs.MomentCells.{moment_eight}

dyn_opens : (op : Op) → is_op op ops.Dyn ≡ true → is_ordinary_op op ≡ false
dyn_opens op is = rw (op_same op ops.Dyn is) refl

dyn_hash : (mark : Mark) → is_op (op_of_mark mark) ops.Dyn ≡ true → hash_of mark ≡ zero_word ++ zero_word
dyn_hash StartOpaque is = refl
dyn_hash (StartDyn known) is = refl
dyn_hash (Do item) is = refl
dyn_hash mark is = off is

pub moment_dyn : {constants : List ℕ} {kernel : List (List ℕ)} {limit : ℕ} {x y : List ℕ} → IsMoment constants kernel limit x y
    → IsDynRow (flags.op_of x) x
moment_dyn {x = x} m is =
    let same : is_op (op_of_mark m.mark) ops.Dyn ≡ true = ap (λ o. is_op o ops.Dyn) (sym (moment_op m)) ∙ is in
    let cells : eight x ≡ zero_word ++ zero_word
    = moment_eight m (dyn_opens (op_of_mark m.mark) same) ∙ dyn_hash m.mark same in
    below_four (λ j. h x j ≡ 0) (ap (λ l. slice_index l 0) cells) (ap (λ l. slice_index l 1) cells) (ap (λ l. slice_index l 2) cells)
    (ap (λ l. slice_index l 3) cells)

pub end_dyn : {d : Decoder} {u : State} {x : List ℕ} → IsLastMoment d u x → IsDynRow (flags.op_of x) x
end_dyn e is = off (ap (λ o. is_op o ops.Dyn) (sym (end_op e)) ∙ is)
