-- What stands beside the rows of a run's trace is the claim of the run, so that the entries of all tables are 0.
use Rattle.complete_rows.proofs.Words
use Words.{◌≡◌, ◌≢◌, ℕ, ◌<◌, List, [], ◌∷◌, length, map, slice_index_or, refl, sym, ap, ◌∙◌, subst, length-map, State, Tree, key_of, Trace, ClaimsRun}
use Words.{IsWholeRun, keys_of}
use Words.run
use Words.table
use Rattle.air_kit.specs.Acceptance.{AreZero}
use Rattle.air_kit.specs.Traces.{claim_of, rows_of, value_at}
use Rattle.air_kit.specs.declared.trace.Public.{Public}
use Rattle.air_kit.specs.declared.trace.TableName.{TableName}
use Rattle.chip_columns.specs.LeftColumns.{key}
use Rattle.facts_main.specs.MainRows.{MainIsZero}
use Rattle.facts_main.proofs.ClaimFacts.{claim_low}
use Rattle.complete_rows.proofs.TableLemmas.{keys_asked}
use Rattle.complete_trace.proofs.TableStacks.{has_zeros}
use Rattle.complete_trace.specs.Acceptance.{IsStatementOf, IsTraceOf}

first_key : (rows : List (List ℕ)) → key (slice_index_or rows 0 []) ≡ key_of (map key rows)
first_key [] = refl
first_key (x ∷ rows) = refl

module _ {constants : List ℕ} {kernel : List (List ℕ)} {limit : ℕ} {tree : Tree} {inputs tape : List ℕ} {u : State} {log : List run.Event}
    (r : IsWholeRun constants kernel limit tree inputs tape u log) (p : Public) (t : Trace)
    (is : IsStatementOf constants kernel tree inputs u p) (trace : IsTraceOf constants kernel u log t) where
  keys_are : map key t.left ≡ keys_of constants kernel inputs log
  keys_are = trace.answers.keys ∙ keys_asked r

  claims : ClaimsRun (claim_of p t) inputs (keys_of constants kernel inputs log) u
  claims = record {
    inputs_are = is.inputs_are;
    outputs_are = is.outputs_are;
    kernel_rows = trace.answers.words ∙ sym (ap length is.kernel_is);
    left_rows = sym (length-map t.left key) ∙ ap length keys_are;
    left_key_is = first_key t.left ∙ ap key_of keys_are;
  }

  main_zero : MainIsZero (claim_of p t) t.main
  main_zero =
      subst (MainIsZero (claim_of p t)) (sym trace.main_is)
      (has_zeros constants kernel limit tree inputs tape u log r (claim_of p t) claims (claim_low p t trace.answers.counts trace.left))

  chips_zero : (name : TableName) → name ≢ table.Main → (row number : ℕ) → row < length (rows_of t name)
      → value_at (claim_of p t) t name row number ≡ 0
  chips_zero name apart row number within = trace.answers.zero (claim_of p t) name row number is.constants_are is.kernel_is apart within

  pub trace_zero : AreZero (claim_of p t) t
  trace_zero table.Main row number within = main_zero.zero row number within
  trace_zero name row number within = chips_zero name (λ e. cc) row number within
