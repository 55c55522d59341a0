-- The stack of each row of a block, and of the row behind it.
use Rattle.complete_rows.proofs.Words
use Words.{◌≡◌, ℕ, ◌+◌, ◌^◌, ◌<◌, ◌≤◌, true, false, cond, eqb, List, [], length, slice_index, refl, sym, ap, ap₂, ◌∙◌, arith, felt_inv, Core, ◌⊟◌}
use Words.{is_ordinary_op, kind_of, Op, depth, h, inv, core_behind, Mark, StartOpaque, StartSyscall, Do, op_of_mark, shown_between, visible_of, Visible, Event}
use Words.{never, off, IsLimbRow, MovesLimbs, IsStackRow, MovesStack, mover, key_of, Decoder, advance, halted, hash_by, line_of, row_of, Shows}
use Words.ops
use Rattle.vm_field.specs.Field.{felt_add}
use Rattle.block_tree.specs.Cycles.{StartSplit, StartLoop, StartCall, Repeat, End, EndSpan, EndLoop, EndCall, EndSyscall}
use Rattle.facts_main.specs.Blocks.{ends_call}
use Rattle.facts_steps.specs.Lookups.{LooksUpLimbs, LooksUpBits}
use Rattle.complete_rows.proofs.AgreeLemmas.{end_keys}
use Rattle.complete_rows.proofs.BlockLemmas.{behind_digest}
use Rattle.complete_rows.proofs.ColumnLemmas.{col_depth, col_inv}
use Rattle.complete_rows.proofs.PairLemmas.{Known, ticked}
use Rattle.complete_trace.proofs.BlockMoves.{Around, called, kept, popped, returned, stack_row}
use Rattle.complete_trace.proofs.QuietOps.{bits, limb_pair, limb_row, ranges}

-- the facts of the stack and of limbs of a row and the row behind it, and what they look up
pub record StackFacts (op : Op) (x y : List ℕ) : Type 0 where
  pub stack_row : IsStackRow op x
  pub limb_row : IsLimbRow op x
  pub stack_pair : MovesStack op x y
  pub limb_pair : MovesLimbs op x y
  pub ranges : LooksUpLimbs op x
  pub bits : LooksUpBits op x y

-- the flags of an END
end_moves : (x : List ℕ) → h x 4 ≡ 0 → mover ops.End x ≡ ops.End
end_moves x loop = ap (λ n. cond (eqb n 1) ops.Drop ops.End) loop

end_calls : (x : List ℕ) (k l : ℕ) → h x 6 ≡ k → h x 7 ≡ l → ends_call ops.End x ≡ eqb (felt_add k l) 1
end_calls x k l call syscall = ap₂ (λ n m. eqb (felt_add n m) 1) call syscall

-- an END that is no call's
end_stays : (x : List ℕ) → h x 6 ≡ 0 → h x 7 ≡ 0 → ends_call ops.End x ≡ true → depth x ≡ 16
end_stays x call syscall calls = off (sym (end_calls x 0 0 call syscall) ∙ calls)

-- a row of a block by itself, and the row behind it
facts : {constants : List ℕ} {kernel : List (List ℕ)} {mark : Mark} {advice : List ℕ} {c : Core} {d : Decoder} {x y : List ℕ}
    → is_ordinary_op (op_of_mark mark) ≡ false → Known constants kernel mark advice c d → Shows (op_of_mark mark) d c x
    → inv x ≡ felt_inv (length c.stack ⊟ 16) → (ends_call (op_of_mark mark) x ≡ true → depth x ≡ 16)
    → MovesStack (op_of_mark mark) x y → StackFacts (op_of_mark mark) x y
facts {mark = mark} {x = x} {y = y} is k sx inverse returns moves = record {
  stack_row = stack_row (op_of_mark mark) x is (omega (arith, sx.deep, k.formed.deep)) (omega (arith, sx.deep, k.small.depth, k.early))
      (inverse ∙ ap (λ n. felt_inv (n ⊟ 16)) (sym sx.deep)) returns;
  limb_row = limb_row (op_of_mark mark) x is;
  stack_pair = moves;
  limb_pair = limb_pair (op_of_mark mark) x y is;
  ranges = ranges (op_of_mark mark) x is;
  bits = bits (op_of_mark mark) x y is;
}

-- nothing stands below the sixteenth cell
flat_stack : {op : Op} {d : Decoder} {c : Core} {x : List ℕ} → Shows op d c x → length c.stack ≤ 16 → 16 ≤ length c.stack → depth x ≡ 16
flat_stack sx most least = omega (arith, sx.deep, most, least)

around : {op next : Op} {d after : Decoder} {c e : Core} {x y : List ℕ} → Shows op d c x → Shows next after e y → Around op next x y d after c e
around sx sy = record { here = sx; behind = sy }

shallow : {constants : List ℕ} {kernel : List (List ℕ)} {mark : Mark} {advice : List ℕ} {c : Core} {d : Decoder}
    → Known constants kernel mark advice c d → length c.stack < 2 ^ 20
shallow k = omega (arith, k.small.depth, k.early)

module _ {constants : List ℕ} {kernel : List (List ℕ)} {advice : List ℕ} (later : List Event) (b : Core) {d : Decoder} {c : Core}
    {x y : List ℕ} {next : Op} where
  pub block_facts : (mark : Mark) → is_ordinary_op (op_of_mark mark) ≡ false → Known constants kernel mark advice c d
      → length d.keys + 16 ≡ length c.stack → Shows (op_of_mark mark) d c x
      → ((j : ℕ) → j < 8 → h x j ≡ slice_index (hash_by (kind_of (op_of_mark mark)) d (shown_between mark advice c b)) j)
      → inv x ≡ felt_inv (length c.stack ⊟ 16)
      → Shows next (advance d (shown_between mark advice c b) later) (ticked (core_behind constants mark advice c)) y
      → StackFacts (op_of_mark mark) x y
  block_facts StartOpaque is k keyed sx hash inverse sy = absurd k.allowed
  block_facts (StartSplit on_one on_zero) is k keyed sx hash inverse sy =
      facts refl k sx inverse off
      (popped ops.Split (around sx sy) refl refl refl refl refl refl refl refl keyed (shallow k))
  block_facts (StartLoop body) is k keyed sx hash inverse sy =
      facts refl k sx inverse off
      (popped ops.Loop (around sx sy) refl refl refl refl refl refl refl refl keyed (shallow k))
  block_facts (Repeat body) is k keyed sx hash inverse sy =
      facts refl k sx inverse off
      (popped ops.Repeat (around sx sy) refl refl refl refl refl refl refl refl keyed (shallow k))
  block_facts (StartCall callee) is k keyed sx hash inverse sy =
      facts refl k sx inverse off (called (around sx sy) refl refl refl refl refl refl refl refl k.formed.deep)
  block_facts (StartSyscall callee) is k keyed sx hash inverse sy =
      facts refl k sx inverse off (called (around sx sy) refl refl refl refl refl refl refl refl k.formed.deep)
  block_facts (Do item) is k keyed sx hash inverse sy = never (sym k.whole.ordinary ∙ is)
  block_facts (End digest) is k keyed sx hash inverse sy =
      let z = behind_digest digest 0 0 0 0 x k.whole.size hash in
      facts refl k sx inverse (end_stays x z.2 z.3) (kept (around sx sy) refl (end_moves x z.0) refl refl refl refl refl
      (ap key_of (end_keys digest 0 0 0 0 d k.whole.size)))
  block_facts (EndSpan digest) is k keyed sx hash inverse sy =
      let z = behind_digest digest 0 1 0 0 x k.whole.size hash in
      facts refl k sx inverse (end_stays x z.2 z.3) (kept (around sx sy) refl (end_moves x z.0) refl refl refl refl refl
      (ap key_of (end_keys digest 0 1 0 0 d k.whole.size)))
  block_facts (EndLoop digest) is k keyed sx hash inverse sy =
      let z = behind_digest digest 1 0 0 0 x k.whole.size hash in
      facts refl k sx inverse (end_stays x z.2 z.3)
      (popped ops.Drop (around sx sy) refl (ap (λ n. cond (eqb n 1) ops.Drop ops.End) z.0) refl refl refl refl refl
      (end_keys digest 1 0 0 0 d k.whole.size) keyed (shallow k))
  block_facts (EndCall digest frame) is k keyed sx hash inverse sy =
      let z = behind_digest digest 0 0 1 0 x k.whole.0.size hash in
      facts refl k sx inverse (λ e. flat_stack sx k.allowed k.formed.deep)
      (returned frame.hidden (around sx sy) (end_moves x z.0) (end_calls x 1 0 z.2 z.3) refl k.formed.deep)
  block_facts (EndSyscall digest frame) is k keyed sx hash inverse sy =
      let z = behind_digest digest 0 0 0 1 x k.whole.0.size hash in
      facts refl k sx inverse (λ e. flat_stack sx k.allowed k.formed.deep)
      (returned frame.hidden (around sx sy) (end_moves x z.0) (end_calls x 0 1 z.2 z.3) refl k.formed.deep)
  block_facts mark is k keyed sx hash inverse sy =
      facts refl k sx inverse off (kept (around sx sy) refl refl refl refl refl refl refl refl)

-- the row of HALT
pub halt_facts : (d : Decoder) (c : Core) (v : Visible) → v ≡ visible_of c → 16 ≤ length c.stack → length c.stack < 2 ^ 20
    → IsStackRow ops.Halt (row_of d (halted v) v []) × IsLimbRow ops.Halt (row_of d (halted v) v [])
halt_facts d c v is enough few =
    let x : List ℕ = row_of d (halted v) v [] in
    let shown : depth x ≡ v.depth = col_depth (line_of d (halted v) v []) in
    let deep : depth x ≡ length c.stack = shown ∙ ap (λ u. u.depth) is in (
      stack_row ops.Halt x refl (omega (arith, deep, enough)) (omega (arith, deep, few))
          (col_inv (line_of d (halted v) v []) ∙ ap (λ n. felt_inv (n ⊟ 16)) (sym shown)) off,
      limb_row ops.Halt x refl,
    )
