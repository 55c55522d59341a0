use Rattle.fill_chips.proofs.Words.{◌≡◌, ◌+◌, ◌-◌, ◌<◌, ◌++◌, length, sym, ap, subst, ◌∙◌, arith, length_push, AreTimes, allowed_steps, next_asked}
use Rattle.fill_chips.proofs.Words.{step_within, value_behind, limbs_in}
use Rattle.fill_chips.proofs.LimbTimes.{times-below}
use Rattle.fill_chips.proofs.NextLemmas.{next-is}
use Rattle.fill_chips.proofs.RowsFrom.{behind-is, behind-last, behind-on, row-of_times, rows-done, rows-start, rows-step}
use Rattle.fill_chips.proofs.StepLemmas.{step-far, step-on}
use Rattle.fill_chips.proofs.range.range_table.Goals as goal

pub loop-v-init : goal.loop-v-init
loop-v-init c = record {
  low = omega arith;
  turns = omega (arith, ap length c.new-table.ensures.empty);
  rows = rows-start (c.args.asked.now ++ limbs_in c.args.memory.now) c.new-table.result c.new-table.ensures.empty;
}

pub overflow_add-v : goal.overflow_add-v
overflow_add-v c =
    let e = c.step_within-v.ensures in
    let far = step-far allowed_steps (c.next_of.result - c.loop-v.v) in
    omega (arith, e, far, c.next_of.ensures.last)

pub loop-v-smaller : goal.loop-v-smaller
loop-v-smaller c =
    let e = c.step_within-v.ensures in
    let on = step-on (c.next_of.result - c.loop-v.v) (omega (arith, c.next_of.ensures.above)) in
    omega (arith, e, on)

pub loop-v-preserved : goal.loop-v-preserved
loop-v-preserved c =
    let asked = c.args.asked.now ++ limbs_in c.args.memory.now in
    let v = c.loop-v.v in
    let below : v < 65535 = omega arith in
    let times = c.as_slice-in-loop-v.result.now in
    let row_times = c.as_slice.result.now in
    let are : AreTimes asked times = subst (AreTimes asked) (sym c.as_slice-in-loop-v.ensures.value) c.in_ok-times.ensures.times in
    let row_are : AreTimes asked row_times = subst (AreTimes asked) (sym c.as_slice.ensures.value) c.in_ok-times.ensures.times in
    let next : c.next_of.result ≡ next_asked asked v =
    next-is asked times v c.next_of.result are below c.next_of.ensures.above c.next_of.ensures.last c.next_of.ensures.asked c.next_of.ensures.least in
    let is : v + c.step_within-v.result ≡ value_behind asked v
    = ap (λ n. v + n) (c.step_within-v.ensures ∙ ap (λ n. step_within allowed_steps (n - v)) next) ∙ sym (behind-is asked v) in
    let row = row-of_times asked row_times c.row_of.result v row_are (omega (arith, below)) c.row_of.ensures in
    let last = behind-last asked v below in
    let on = behind-on asked v below in
    let longer = ap length c.in_ok-push_row.ensures.ok ∙ length_push c.loop-v.table c.row_of.result in
    record {
      low = omega (arith, is, last);
      turns = omega (arith, is, on, longer, c.loop-v.invariant.turns);
      rows =
          rows-step asked c.loop-v.table c.push_row.new.self c.row_of.result v (v + c.step_within-v.result) below c.loop-v.invariant.turns
          c.in_ok-push_row.ensures.ok row is
          ∙ c.loop-v.invariant.rows;
    }

pub row_of-requires-clause-few : goal.row_of-requires-clause-few
row_of-requires-clause-few c =
    let asked = c.args.asked.now ++ limbs_in c.args.memory.now in
    let are = subst (AreTimes asked) (sym c.as_slice.ensures.value) c.in_ok-times.ensures.times in
    let few = times-below c.args.asked.now c.as_slice.result.now c.args.memory.now c.loop-v.v are in
    omega (arith, few, c.requires.few)

pub row_of-requires-2-clause-few : goal.row_of-requires-2-clause-few
row_of-requires-2-clause-few c =
    let asked = c.args.asked.now ++ limbs_in c.args.memory.now in
    let are = subst (AreTimes asked) (sym c.as_slice-2.ensures.value) c.in_ok-times.ensures.times in
    let few = times-below c.args.asked.now c.as_slice-2.result.now c.args.memory.now 65535 are in
    omega (arith, few, c.requires.few)

pub returns-clause-rows : goal.returns-clause-rows
returns-clause-rows c =
    let asked = c.args.asked.now ++ limbs_in c.args.memory.now in
    let are = subst (AreTimes asked) (sym c.as_slice-2.ensures.value) c.in_ok-times.ensures.times in
    rows-done asked c.loop-v.table c.push_row-2.new.self c.row_of-2.result c.loop-v.v c.loop-v-test.false c.in_ok-push_row-2.ensures.ok
    (row-of_times asked c.as_slice-2.result.now c.row_of-2.result 65535 are (omega arith) c.row_of-2.ensures) c.loop-v.invariant.rows
