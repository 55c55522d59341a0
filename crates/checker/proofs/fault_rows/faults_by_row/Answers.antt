-- All tables, one after another.
use Rattle.std.proofs.Common.{◌≡◌, ◌-◌, [], length, take, slice_get, refl, sym, ap, subst, ◌∙◌, arith}
use Rattle.std.specs.List.{flat_map}
use Rattle.std.proofs.lemmas.List.{length-append}
use Rattle.air_kit.specs.Acceptance.{IsRowsAnswer}
use Rattle.air_kit.specs.Tables.{every_table}
use Rattle.air_kit.specs.Traces.{claim_of}
use Rattle.checker.specs.FaultRows.{faults_of, table_faults}
use Rattle.checker.specs.Settings.{claim_in}
use Rattle.checker.proofs.FaultRowLemmas.{all_tables, first_answer, one_table_more}
use Rattle.checker.proofs.GivenLemmas.{first_taken, kept_of_none, kept_two, take_none}
use Rattle.checker.proofs.TableOrder.{table_at}
use Rattle.checker.proofs.fault_rows.faults_by_row.Goals as goal

pub loop-name-init : goal.loop-name-init
loop-name-init c = record { told = c.new.ensures.items ∙ sym (take_none (c.args.most - 0)); rows = refl; few = omega arith }

pub add_table-requires-clause-room : goal.add_table-requires-clause-room
add_table-requires-clause-room c =
    let few = c.loop-name.invariant.few in
    let in_range = c.loop-name-test.true in
    omega (arith, few, in_range)

pub loop-name-preserved : goal.loop-name-preserved
loop-name-preserved c =
    let k = claim_in c.of-setting.result in
    let t = c.args.trace.now in
    let so_far = flat_map (table_faults k t) (take c.loop-name.name-index every_table) in
    let here = table_faults k t (table_at c.loop-name.name-index) in
    let more = one_table_more k t c.loop-name.name-index c.loop-name-test.true in
    let long = sym (ap length more) ∙ length-append so_far here in
    let was = c.loop-name.invariant.rows in
    let is = c.in_ok-add_table.ensures.rows in
    let low = c.loop-name.invariant.few in
    let few = c.in_ok-add_table.ensures.few in
    record {
      told = kept_two c.args.most [] c.loop-name.faults.told.items _ so_far here c.loop-name.invariant.told c.in_ok-add_table.ensures.told
          ∙ ap (take (c.args.most - 0)) more;
      rows = omega (arith, long, was, is);
      few = omega (arith, low, few);
    }

pub returns-clause-told : goal.returns-clause-told
returns-clause-told c =
    let k = claim_in c.of-setting.result in
    let t = c.args.trace.now in
    let last : c.loop-name.name-index ≡ 7 = omega (arith, c.loop-name-test.false, c.loop-name.auto.name-index-end) in
    subst (λ n. c.loop-name.faults.told.items ≡ take (c.args.most - 0) (flat_map (table_faults k t) (take n every_table))) last
    c.loop-name.invariant.told
    ∙ kept_of_none c.args.most (flat_map (table_faults k t) every_table)
    ∙ ap (take c.args.most) (all_tables k t ∙ ap (λ claim. faults_of claim t) c.of-setting.ensures.claim)

pub returns-clause-rows : goal.returns-clause-rows
returns-clause-rows c =
    let k = claim_in c.of-setting.result in
    let t = c.args.trace.now in
    let last : c.loop-name.name-index ≡ 7 = omega (arith, c.loop-name-test.false, c.loop-name.auto.name-index-end) in
    subst (λ n. c.loop-name.faults.rows ≡ length (flat_map (table_faults k t) (take n every_table))) last c.loop-name.invariant.rows
    ∙ ap length (all_tables k t ∙ ap (λ claim. faults_of claim t) c.of-setting.ensures.claim)

pub returns-clause-first : goal.returns-clause-first
returns-clause-first c some =
    let k = claim_of c.args.public.now c.args.trace.now in
    let t = c.args.trace.now in
    subst (IsRowsAnswer k t) (sym (ap (λ fs. slice_get fs 0) (returns-clause-told c) ∙ first_taken c.args.most (faults_of k t) some)) (first_answer k t)
