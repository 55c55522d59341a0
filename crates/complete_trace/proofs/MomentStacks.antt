-- What the rows of a moment of a run show of the stack and of limbs.
use Rattle.complete_rows.proofs.Words
use Words.{◌≡◌, ℕ, ◌≤◌, Bool, true, false, List, length, refl, sym, ap, ◌∙◌, subst, arith, most_cycles, number_of_constants, State, Item, is_ordinary_op, inv}
use Words.{lv, Mark, Do, IsWholeMark, op_of_mark, IsCycle, visible_of, IsLimbRow, IsStackRow, Decoder, advance, row_of, IsLastMoment, IsMoment, event_at, Shows}
use Words.{off}
use Words.ops
use Words.flags
use Rattle.facts_steps.specs.Filling.{FillsRows, elsewhere_of}
use Rattle.complete_rows.proofs.MomentFacts.{behind_shows, end_op, end_shows, known, moment_behind, moment_hash, moment_line, moment_op, moment_shows}
use Rattle.complete_rows.proofs.MomentFacts.{place_shows}
use Rattle.complete_rows.proofs.ColumnLemmas.{col_inv}
use Rattle.complete_trace.specs.StackRows.{MomentFills}
use Rattle.complete_trace.proofs.BlockStacks.{StackFacts, block_facts, halt_facts}
use Rattle.complete_trace.proofs.Fillings.{do_fills}

pub moment_fills : MomentFills
moment_fills constants kernel limit x y len within m item is =
    let P : Mark → Type 0 = λ mark. IsCycle constants kernel limit mark m.s m.t → IsWholeMark mark
    → Shows (flags.op_of y) (advance m.d (event_at constants kernel mark m.s) m.later) m.t.core y
    → FillsRows constants item (row_of m.d (event_at constants kernel mark m.s) (visible_of m.t.core) m.later) y
    (elsewhere_of m.s) (elsewhere_of m.t)
    in
    let k = known m within in
    subst (λ z. FillsRows constants item z y (elsewhere_of m.s) (elsewhere_of m.t)) (sym m.row)
    (subst P (sym is) (λ cycle whole shows. do_fills cycle m.d m.later y (flags.op_of y) len whole m.before m.behind
    (omega (arith, k.early)) (omega (arith, k.early, k.small.depth)) m.agrees.keyed shows) m.cycle m.whole (place_shows m.next))

-- a row of an ordinary operation
item_of : (mark : Mark) → is_ordinary_op (op_of_mark mark) ≡ true → (item : Item) × (mark ≡ Do item)
item_of (Do item) is = (item, refl)
item_of mark is = off is

module _ {constants : List ℕ} {kernel : List (List ℕ)} {limit : ℕ} where
  -- the row of a moment, by the operation that its bits spell
  pub moment_facts : {x y : List ℕ} → length constants ≡ number_of_constants → limit ≤ most_cycles → IsMoment constants kernel limit x y → StackFacts (flags.op_of x) x y
  moment_facts {x = x} {y = y} len within m =
      subst (λ op. StackFacts op x y) (sym (moment_op m)) (go (is_ordinary_op (op_of_mark m.mark)) refl)
    where
      go : (b : Bool) → is_ordinary_op (op_of_mark m.mark) ≡ b → StackFacts (op_of_mark m.mark) x y
      go true is =
          let item = item_of m.mark is in
          let f = moment_fills constants kernel limit x y len within m item.0 item.1 in
          subst (λ mark. StackFacts (op_of_mark mark) x y) (sym item.1) (record {
            stack_row = f.stack_row;
            limb_row = f.limb_row;
            stack_pair = f.stack_pair;
            limb_pair = f.limb_pair;
            ranges = f.looks.ranges;
            bits = f.looks.bits;
          })
      go false is =
          block_facts m.later (moment_behind m) m.mark is (known m within) m.agrees.keyed
          (subst (λ op. Shows op m.d m.s.core x) (moment_op m) (moment_shows m)) (moment_hash m) (ap inv m.row ∙ col_inv (moment_line m))
          (behind_shows m)

  -- no more blocks are open than may nest
  pub moment_level : {x y : List ℕ} → IsMoment constants kernel limit x y → lv x ≤ 1024
  moment_level m = omega (arith, (moment_shows m).level, m.small.nesting)

pub end_level : {d : Decoder} {u : State} {x : List ℕ} → IsLastMoment d u x → lv x ≤ 1024
end_level e = omega (arith, (end_shows e).level, e.small.nesting)

-- the row of HALT
pub end_facts : {d : Decoder} {u : State} {x : List ℕ} → IsLastMoment d u x → IsStackRow (flags.op_of x) x × IsLimbRow (flags.op_of x) x
end_facts {d = d} {u = u} {x = x} e =
    let whole = e.bounded.whole in
    let few = e.small.depth in
    let f = halt_facts d u.core (visible_of u.core) refl e.whole.core.deep (omega (arith, whole, few)) in
    subst (λ op. IsStackRow op x × IsLimbRow op x) (sym (end_op e))
    (subst (λ z. IsStackRow ops.Halt z × IsLimbRow ops.Halt z) (sym e.row) f)
