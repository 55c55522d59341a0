use Rattle.std.proofs.lemmas.Result.{err_from_is_err_and}
use Rattle.rpo_hash.specs.Constants.{constants_of}
use Rattle.statement.specs.Inputs.{given_of}
use Rattle.cmd_kit.specs.Sources.{file_of}
use Rattle.cmd_kit.proofs.LentFiles.{lent_files}
use Rattle.show_trace.proofs.TraceReads.{ends_at_source, ends_at_inputs, ends_at_kernel, ends_tracing}
use Rattle.show_trace.proofs.tracing.read_and_trace.Goals as goal

pub returns-in_err-source : goal.returns-in_err-source
returns-in_err-source g c =
    let p = err_from_is_err_and c.from_residual-in_err-source.result c.from_residual-in_err-source.ensures.1 in
    rw (p.1, p.2)
    (ends_at_source _ _ _ _ _ (constants_of c.in_ok-constants.constants) _ _ c.in_ok-constants.ensures.loads _ _ c.in_err-source.ensures.ends)

pub returns-in_err-inputs : goal.returns-in_err-inputs
returns-in_err-inputs g c =
    let p = err_from_is_err_and c.from_residual-in_err-inputs.result c.from_residual-in_err-inputs.ensures.1 in
    rw (p.1, p.2)
    (ends_at_inputs _ _ _ _ _ (constants_of c.in_ok-constants.constants) _ _ c.in_ok-constants.ensures.loads (file_of c.in_ok-source.source) _
    c.in_ok-source.ensures.loads _ _ c.in_err-inputs.ensures.ends)

pub returns-in_err-kernel : goal.returns-in_err-kernel
returns-in_err-kernel g c =
    let p = err_from_is_err_and c.from_residual-in_err-kernel.result c.from_residual-in_err-kernel.ensures.1 in
    rw (p.1, p.2)
    (ends_at_kernel _ _ _ _ _ (constants_of c.in_ok-constants.constants) _ _ c.in_ok-constants.ensures.loads (file_of c.in_ok-source.source) _
    c.in_ok-source.ensures.loads (given_of c.in_ok-inputs.inputs) _ c.in_ok-inputs.ensures.loads _ _ c.in_err-kernel.ensures.ends)

pub returns : goal.returns
returns g c =
    ends_tracing _ _ _ _ _ (constants_of c.in_ok-constants.constants) _ _ c.in_ok-constants.ensures.loads (file_of c.in_ok-source.source) _
    c.in_ok-source.ensures.loads (given_of c.in_ok-inputs.inputs) _ c.in_ok-inputs.ensures.loads _ _ c.in_ok-kernel.ensures.loads _
    (rw (lent_files c.as_ref.result c.in_ok-kernel.kernel c.as_ref.ensures.value) at c.trace_source.ensures)
