use Rattle.std.proofs.Common.{◌≤◌, ap, sym, ◌∙◌, subst, Some}
use Rattle.serde_json.specs.Data.{depth}
use Rattle.serde_json.specs.Written.{compact_text, has_float}
use Rattle.statement.specs.Inputs.{inputs_of}
use Rattle.statement.proofs.InputsText.{has_float-inputs_data, depth-inputs_data, compact_text-inputs_data, given_by-inputs_data, inputs_of-read}
use Rattle.statement.proofs.inputs.write_inputs.Goals as goal

pub returns-clause-text : goal.returns-clause-text
returns-clause-text c =
    let value_is = c.in_ok-value.ensures.data in
    let stack = c.args.inputs.now.stack in
    let advice = c.args.inputs.now.advice in
    c.from_vec.ensures.items ∙ c.in_ok-to_vec.ensures.text (ap has_float value_is ∙ has_float-inputs_data stack advice)
    ∙ ap compact_text value_is ∙ compact_text-inputs_data stack advice

pub returns-clause-back : goal.returns-clause-back
returns-clause-back c =
    let value_is = c.in_ok-value.ensures.data in
    let inputs = c.args.inputs.now in
    let nests = subst (λ d. depth d ≤ 127) (sym value_is) (depth-inputs_data inputs.stack inputs.advice) in
    ap inputs_of c.from_vec.ensures.items
    ∙ inputs_of-read _ _ _ c.in_ok-to_vec.ensures.utf8 (c.in_ok-to_vec.ensures.reads_back nests ∙ ap Some value_is)
    (given_by-inputs_data inputs.stack inputs.advice c.in_ok-value.ensures.stack c.in_ok-value.ensures.advice inputs.few inputs.short)
