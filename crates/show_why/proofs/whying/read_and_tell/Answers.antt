use Rattle.std.proofs.lemmas.Result.{err_from_is_err_and}
use Rattle.cmd_kit.specs.Sources.{file_of}
use Rattle.cmd_kit.proofs.LentFiles.{lent_files}
use Rattle.show_why.proofs.WhyLemmas.{ends_at_kernel, ends_told}
use Rattle.show_why.proofs.whying.read_and_tell.Goals as goal

pub returns-in_err-kernel : goal.returns-in_err-kernel
returns-in_err-kernel g c =
    let p = err_from_is_err_and c.from_residual-in_err-kernel.result c.from_residual-in_err-kernel.ensures.1 in
    rw (p.1, p.2) (ends_at_kernel _ _ (file_of c.in_ok-source.source) _ _ _ _ c.in_ok-source.ensures.loads c.in_err-kernel.ensures.ends)

pub returns : goal.returns
returns g c =
    ends_told _ _ (file_of c.in_ok-source.source) _ _ _ _ c.in_ok-source.ensures.loads _ c.in_ok-kernel.ensures.loads
    (rw (lent_files c.as_ref.result c.in_ok-kernel.kernel c.as_ref.ensures.value) at c.tell.ensures _)
