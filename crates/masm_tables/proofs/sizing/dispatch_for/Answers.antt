use Rattle.masm_tables.proofs.Words.{sym, ◌∙◌, body_of}
use Rattle.masm_tables.proofs.Prepared.{prepares_kept, prepares_none, prepares_made}
use Rattle.masm_tables.proofs.sizing.dispatch_for.Goals as goal

pub returns-then-is_some : goal.returns-then-is_some
returns-then-is_some c = prepares_kept _ (body_of c.args.body.now) c.args.known (sym c.is_some.ensures ∙ c.if-is_some.true)

pub returns-then-not-has_dynexec : goal.returns-then-not-has_dynexec
returns-then-not-has_dynexec c = prepares_none _ (body_of c.args.body.now) c.args.known (sym c.is_some.ensures ∙ c.if-is_some.false)
    (sym c.has_dynexec.ensures ∙ c.if-not-has_dynexec.true)

pub returns : goal.returns
returns c = prepares_made _ (body_of c.args.body.now) c.args.known c.dispatch_extent.result (sym c.is_some.ensures ∙ c.if-is_some.false)
    (sym c.has_dynexec.ensures ∙ c.if-not-has_dynexec.false) c.dispatch_extent.ensures
