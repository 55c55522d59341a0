use Rattle.std.proofs.Common.{◌≤◌, ap, sym, ◌∙◌, subst, Some}
use Rattle.serde_json.specs.Data.{depth}
use Rattle.serde_json.specs.Written.{compact_text, has_float}
use Rattle.statement.specs.Statements.{stated_of, statement_of}
use Rattle.statement.proofs.StatementText.{IsGood, has_float-statement_data, depth-statement_data, compact_text-statement_data, claim_by-statement_data, statement_of-read}
use Rattle.statement.proofs.statements.write_statement.Goals as goal

pub returns-clause-text : goal.returns-clause-text
returns-clause-text c =
    let value_is = c.in_ok-value.ensures in
    let claim = stated_of c.args.statement.now in
    c.from_vec.ensures.items ∙ c.in_ok-to_vec.ensures.text (ap has_float value_is ∙ has_float-statement_data claim)
    ∙ ap compact_text value_is ∙ compact_text-statement_data claim

pub returns-clause-back : goal.returns-clause-back
returns-clause-back c =
    let value_is = c.in_ok-value.ensures in
    let s = c.args.statement.now in
    let nests = subst (λ d. depth d ≤ 127) (sym value_is) (depth-statement_data (stated_of s)) in
    let good : IsGood (stated_of s) = record {
      digest = s.digest_word;
      inputs = s.inputs_below;
      kernel = s.kernel_words;
      outputs = s.outputs_below;
      inputs_few = s.inputs_few;
      kernel_few = s.few;
      outputs_full = s.outputs_full;
      outputs_few = s.outputs_few;
      distinct = s.distinct;
    } in
    ap statement_of c.from_vec.ensures.items
    ∙ statement_of-read _ _ _ c.in_ok-to_vec.ensures.utf8 (c.in_ok-to_vec.ensures.reads_back nests ∙ ap Some value_is)
    (claim_by-statement_data (stated_of s) good)
