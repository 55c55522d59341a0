use Rattle.std.proofs.Common.{[], true, Some, Ok, Err, refl, subst}
use Rattle.masm_link.specs.Programs.{LinksIn}
use Rattle.masm_link.proofs.Assembled.{kernel_linked, kernel_stopped}
use Rattle.masm_link.proofs.assembling.text_exports.Goals as goal

pub returns-in-Ok-clause-exports : goal.returns-in-Ok-clause-exports
returns-in-Ok-clause-exports c =
    let constants = c.args.digests.now.permutations in
    let text = c.args.text.now in
    kernel_linked constants text c.in-Ok.linked
    (subst (λ library. LinksIn constants true library text [] (Ok c.in-Ok.linked)) c.new-library.ensures.empty c.in-Ok.ensures.links)
    c.in-Ok.ensures.main (Some text) refl

pub returns-clause-exports : goal.returns-clause-exports
returns-clause-exports c =
    let constants = c.args.digests.now.permutations in
    let text = c.args.text.now in
    kernel_stopped constants text c.in-Err.error
    (subst (λ library. LinksIn constants true library text [] (Err c.in-Err.error)) c.new-library.ensures.empty c.in-Err.ensures.links)
    (Some text) refl
