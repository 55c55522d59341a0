use Rattle.std.proofs.lemmas.Result.{err_from_is_err_and}
use Rattle.rpo_hash.specs.Constants.{constants_of}
use Rattle.cmd_kit.specs.Sources.{file_of}
use Rattle.cmd_kit.proofs.LentFiles.{lent_files}
use Rattle.cmd_assemble.proofs.AssemblyReads.{ends_assembled, ends_at_kernel}
use Rattle.cmd_assemble.proofs.assembly.read_and_assemble.Goals as goal

pub returns-in_err-kernel : goal.returns-in_err-kernel
returns-in_err-kernel g c =
    let p = err_from_is_err_and c.from_residual-in_err-kernel.result c.from_residual-in_err-kernel.ensures.1 in
    rw (p.1, p.2)
    (ends_at_kernel _ _ _ (constants_of c.in_ok-constants.constants) _ _ c.in_ok-constants.ensures.loads (file_of c.in_ok-source.source) _
    c.in_ok-source.ensures.loads _ _ c.in_err-kernel.ensures.ends)

pub returns : goal.returns
returns g c =
    ends_assembled _ _ _ (constants_of c.in_ok-constants.constants) _ _ c.in_ok-constants.ensures.loads (file_of c.in_ok-source.source) _
    c.in_ok-source.ensures.loads _ _ _ c.in_ok-kernel.ensures.loads
    (rw (lent_files c.as_ref.result c.in_ok-kernel.kernel c.as_ref.ensures.value) at c.answer.ensures)
