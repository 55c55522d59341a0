-- One row after another.
use Rattle.std.proofs.Common.{◌≡◌, ◌+◌, length, option_to_list, sym, ap, subst, ◌∙◌, arith}
use Rattle.std.proofs.lemmas.List.{length-append}
use Rattle.checker.specs.FaultRows.{fault_of_row, kept_with, row_faults}
use Rattle.checker.specs.Settings.{claim_in}
use Rattle.checker.proofs.FaultRowLemmas.{no_rows, one_row_more}
use Rattle.checker.proofs.GivenLemmas.{few_given, kept_two, none_kept}
use Rattle.checker.proofs.fault_rows.add_table.Goals as goal

pub loop-row-init : goal.loop-row-init
loop-row-init c =
    let none = no_rows (claim_in c.args.setting.now) c.args.trace.now c.args.name in
    let long = ap length none in
    record {
      told = none_kept c.args.most c.args.faults.now.told.items _ none;
      rows = omega (arith, long);
      few = omega arith;
    }

pub add_row-requires-clause-room : goal.add_row-requires-clause-room
add_row-requires-clause-room c =
    let few = c.loop-row.invariant.few in
    let room = c.requires.room in
    let in_range = c.loop-row-test.true in
    let rows = c.rows_in-row-end.ensures.few in
    omega (arith, few, room, in_range, rows)

pub loop-row-preserved : goal.loop-row-preserved
loop-row-preserved c =
    let k = claim_in c.args.setting.now in
    let t = c.args.trace.now in
    let more = one_row_more k t c.args.name c.loop-row.row in
    let long =
    ap length more
    ∙ length-append (row_faults k t c.args.name 0 c.loop-row.row) (option_to_list (fault_of_row k t c.args.name c.loop-row.row)) in
    let was = c.loop-row.invariant.rows in
    let low = c.loop-row.invariant.few in
    let is = c.in_ok-add_row.ensures.rows in
    let one = few_given (fault_of_row k t c.args.name c.loop-row.row) in
    record {
      told = kept_two c.args.most c.args.faults.now.told.items c.loop-row.faults.told.items _ _ _ c.loop-row.invariant.told c.in_ok-add_row.ensures.told
          ∙ ap (kept_with c.args.most c.args.faults.now.told.items) (sym more);
      rows = omega (arith, long, was, is);
      few = omega (arith, low, is, one);
    }

pub returns-clause-told : goal.returns-clause-told
returns-clause-told c =
    let last : c.loop-row.row ≡ c.rows_in-row-end.result = omega (arith, c.loop-row-test.false, c.loop-row.auto.row-end) in
    subst (λ n. c.loop-row.faults.told.items
    ≡ kept_with c.args.most c.args.faults.now.told.items (row_faults (claim_in c.args.setting.now) c.args.trace.now c.args.name 0 n))
    (last ∙ c.rows_in-row-end.ensures.is) c.loop-row.invariant.told

pub returns-clause-rows : goal.returns-clause-rows
returns-clause-rows c =
    let last : c.loop-row.row ≡ c.rows_in-row-end.result = omega (arith, c.loop-row-test.false, c.loop-row.auto.row-end) in
    subst (λ n. c.loop-row.faults.rows
    ≡ c.args.faults.now.rows + length (row_faults (claim_in c.args.setting.now) c.args.trace.now c.args.name 0 n))
    (last ∙ c.rows_in-row-end.ensures.is) c.loop-row.invariant.rows

pub returns-clause-few : goal.returns-clause-few
returns-clause-few c =
    let few = c.loop-row.invariant.few in
    let rows = c.rows_in-row-end.ensures.few in
    let end = c.loop-row.auto.row-end in
    omega (arith, few, rows, end)
