-- Where the row has no fault, where it is kept, and where there is no room for it.
use Rattle.std.proofs.Common.{Some, None, length, option_to_list, ap, ◌∙◌, arith, rules}
use Rattle.checker.specs.Settings.{claim_in}
use Rattle.checker.proofs.FaultRowLemmas.{fault_is}
use Rattle.checker.proofs.GivenLemmas.{kept_none, kept_one}
use Rattle.checker.proofs.fault_rows.add_row.Goals as goal

pub returns-in_default-clause-told : goal.returns-in_default-clause-told
returns-in_default-clause-told c =
    kept_none c.args.most c.args.faults.now.told.items _
    (fault_is (claim_in c.args.setting.now) c.args.trace.now c.args.name c.args.row None c.in_default.ensures)

pub returns-in_default-clause-rows : goal.returns-in_default-clause-rows
returns-in_default-clause-rows c =
    let none = ap (λ o. length (option_to_list o)) (fault_is (claim_in c.args.setting.now) c.args.trace.now c.args.name c.args.row None c.in_default.ensures) in
    omega (arith, none)

pub returns-in_ok-push-clause-told : goal.returns-in_ok-push-clause-told
returns-in_ok-push-clause-told c =
    c.in_ok-push.ensures.items
    ∙ kept_one c.args.most c.args.faults.now.told.items _ _
    (fault_is (claim_in c.args.setting.now) c.args.trace.now c.args.name c.args.row (Some (c.in-Some.number, _)) (search rules))
    (let room = c.if-len-most.true in let long = c.len.ensures in omega (arith, room, long))

pub returns-in_ok-push-clause-rows : goal.returns-in_ok-push-clause-rows
returns-in_ok-push-clause-rows c =
    let one =
    ap (λ o. length (option_to_list o))
    (fault_is (claim_in c.args.setting.now) c.args.trace.now c.args.name c.args.row (Some (c.in-Some.number, c.in-Some.value)) c.in-Some.ensures) in
    omega (arith, one)

pub returns-else-len-most-clause-rows : goal.returns-else-len-most-clause-rows
returns-else-len-most-clause-rows c =
    let one =
    ap (λ o. length (option_to_list o))
    (fault_is (claim_in c.args.setting.now) c.args.trace.now c.args.name c.args.row (Some (c.in-Some.number, c.in-Some.value)) c.in-Some.ensures) in
    omega (arith, one)
