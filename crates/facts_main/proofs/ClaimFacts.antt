-- What stands beside the rows of a trace is in the range of elements.
use Rattle.facts_main.proofs.Words.{ℕ, ◌<◌, ◌≤◌, length, slice_index, arith, most_outputs, prime, IsLowClaim, ShowsRows}
use Rattle.vm_field.proofs.Elements.{elements-index}
use Rattle.vm_table.specs.Layout.{IsTable}
use Rattle.air_kit.specs.declared.trace.Public.{Public}
use Rattle.air_kit.specs.declared.trace.TableName.{TableName}
use Rattle.air_kit.specs.declared.trace.TableName.TheVariants as table
use Rattle.air_kit.specs.declared.trace.Trace.{Trace}
use Rattle.air_kit.specs.Acceptance.{AreZero}
use Rattle.air_kit.specs.Traces.{HasCounts, claim_of, lengths_of, most_rows, rows_of}
use Rattle.facts_main.proofs.TableFacts.{rows_shown}
use Rattle.facts_main.proofs.CellFacts.{EachLow, elements_each}
use Rattle.facts_main.proofs.Means.{◌&◌}

few_rows : (name : TableName) (n : ℕ) → n ≤ most_rows name → n < prime
few_rows table.Main n h = omega arith
few_rows name n h = omega arith

lengths_low : (t : Trace) → HasCounts t → (j : ℕ) → slice_index (lengths_of t) j < prime
lengths_low t counts j = elements-index (lengths_of t) j (elements_each (lengths_of t) each)
  where
    low : (name : TableName) → length (rows_of t name) < prime
    low name = few_rows name _ (counts name).most

    each : EachLow (lengths_of t)
    each = low table.Main & low table.Range & low table.Hasher & low table.Bitwise & low table.Memory & low table.Kernel & low table.Left & tt

few_outputs : (n : ℕ) → n ≤ most_outputs → n < prime
few_outputs n h = omega (arith, h)

few_digests : (n : ℕ) → n ≤ 255 → n < prime
few_digests n h = omega (arith, h)

pub claim_low : (public : Public) (trace : Trace) → HasCounts trace → IsTable 1 trace.left → IsLowClaim (claim_of public trace)
claim_low public trace counts left = record {
  inputs = λ j. elements-index public.statement.inputs j public.statement.inputs_below;
  some_inputs = public.statement.inputs_few;
  outputs = λ j. elements-index public.statement.outputs j public.statement.outputs_below;
  lengths = lengths_low trace counts;
  kernel = few_digests (length public.statement.kernel) public.statement.few;
  deep = public.statement.outputs_full;
  few = few_outputs (length public.statement.outputs) public.statement.outputs_few;
  key = left.below 0 0;
}

pub trace_shown : (public : Public) (trace : Trace) → HasCounts trace → IsTable 65 trace.main → IsTable 1 trace.left
    → AreZero (claim_of public trace) trace → ShowsRows (claim_of public trace) trace.main
trace_shown public trace counts main left zero =
    rows_shown (claim_of public trace) trace.main (claim_low public trace counts left) (record { table = main; zero = zero table.Main })
