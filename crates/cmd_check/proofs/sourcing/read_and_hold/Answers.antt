use Rattle.std.proofs.lemmas.Result.{err_from_is_err_and}
use Rattle.cmd_check.proofs.Words.{constants_of, stated_of}
use Rattle.cmd_kit.specs.Sources.{file_of}
use Rattle.cmd_kit.proofs.LentFiles.{lent_files}
use Rattle.cmd_check.proofs.SourcingLemmas.{built_ends, unbuilt_ends}
use Rattle.cmd_check.proofs.SourcingReads.{ends_at_kernel, ends_at_source, ends_at_statement, ends_at_table, ends_building}
use Rattle.cmd_check.proofs.sourcing.read_and_hold.Goals as goal

pub returns-in_err-trace : goal.returns-in_err-trace
returns-in_err-trace g c =
    let p = err_from_is_err_and c.from_residual-in_err-trace.result c.from_residual-in_err-trace.ensures.1 in
    rw (p.1, p.2)
    (ends_at_table _ _ _ _ _ _ (constants_of c.in_ok-params.params) _ _ c.in_ok-params.ensures.loads _ _ c.in_err-trace.ensures.ends)

pub returns-in_err-statement : goal.returns-in_err-statement
returns-in_err-statement g c =
    let p = err_from_is_err_and c.from_residual-in_err-statement.result c.from_residual-in_err-statement.ensures.1 in
    rw (p.1, p.2)
    (ends_at_statement _ _ _ _ _ _ (constants_of c.in_ok-params.params) _ _ c.in_ok-params.ensures.loads c.in_ok-trace.trace _
    c.in_ok-trace.ensures.loads _ _ c.in_err-statement.ensures.ends)

pub returns-in_err-source : goal.returns-in_err-source
returns-in_err-source g c =
    let p = err_from_is_err_and c.from_residual-in_err-source.result c.from_residual-in_err-source.ensures.1 in
    rw (p.1, p.2)
    (ends_at_source _ _ _ _ _ _ (constants_of c.in_ok-params.params) _ _ c.in_ok-params.ensures.loads c.in_ok-trace.trace _
    c.in_ok-trace.ensures.loads (stated_of c.in_ok-statement.statement) _ c.in_ok-statement.ensures.loads _ _ c.in_err-source.ensures.ends)

pub returns-in_err-kernel : goal.returns-in_err-kernel
returns-in_err-kernel g c =
    let p = err_from_is_err_and c.from_residual-in_err-kernel.result c.from_residual-in_err-kernel.ensures.1 in
    rw (p.1, p.2)
    (ends_at_kernel _ _ _ _ _ _ (constants_of c.in_ok-params.params) _ _ c.in_ok-params.ensures.loads c.in_ok-trace.trace _
    c.in_ok-trace.ensures.loads (stated_of c.in_ok-statement.statement) _ c.in_ok-statement.ensures.loads (file_of c.in_ok-source.source) _
    c.in_ok-source.ensures.loads _ _ c.in_err-kernel.ensures.ends)

pub returns-in_err-program : goal.returns-in_err-program
returns-in_err-program g c =
    let p = err_from_is_err_and c.from_residual-in_err-program.result c.from_residual-in_err-program.ensures.1 in
    rw (p.1, p.2)
    (ends_building _ _ _ _ _ _ (constants_of c.in_ok-params.params) _ _ c.in_ok-params.ensures.loads c.in_ok-trace.trace _
    c.in_ok-trace.ensures.loads (stated_of c.in_ok-statement.statement) _ c.in_ok-statement.ensures.loads (file_of c.in_ok-source.source) _
    c.in_ok-source.ensures.loads _ _ c.in_ok-kernel.ensures.loads _ _
    (unbuilt_ends _ _ _ _ _ _ _ _
    (rw (lent_files c.as_ref.result c.in_ok-kernel.kernel c.as_ref.ensures.value) at c.in_err-program.ensures.unbuilt)))

pub returns : goal.returns
returns g c =
    ends_building _ _ _ _ _ _ (constants_of c.in_ok-params.params) _ _ c.in_ok-params.ensures.loads c.in_ok-trace.trace _
    c.in_ok-trace.ensures.loads (stated_of c.in_ok-statement.statement) _ c.in_ok-statement.ensures.loads (file_of c.in_ok-source.source) _
    c.in_ok-source.ensures.loads _ _ c.in_ok-kernel.ensures.loads _ _
    (built_ends _ _ _ _ _ _ c.in_ok-program.program _ _ _
    (rw (lent_files c.as_ref.result c.in_ok-kernel.kernel c.as_ref.ensures.value) at c.in_ok-program.ensures.built) c.judge_for.ensures)
