use Rattle.masm_tables.proofs.Words.{sym, ap, ◌∙◌, dispatch_of, body_of}
use Rattle.masm_tables.proofs.Prepared.{prepares_kept, prepares_none, prepares_made}
use Rattle.masm_tables.proofs.listing.Listings.prepare.Goals as goal

pub returns-then-is_some-clause-dispatch : goal.returns-then-is_some-clause-dispatch
returns-then-is_some-clause-dispatch c =
    prepares_kept _ (body_of c.args.body.now) c.args.self.now.dispatch (sym c.is_some.ensures ∙ c.if-is_some.true)

pub returns-then-not-has_dynexec-clause-dispatch : goal.returns-then-not-has_dynexec-clause-dispatch
returns-then-not-has_dynexec-clause-dispatch c =
    prepares_none _ (body_of c.args.body.now) c.args.self.now.dispatch (sym c.is_some.ensures ∙ c.if-is_some.false)
    (sym c.has_dynexec.ensures ∙ c.if-not-has_dynexec.true)

pub returns-clause-dispatch : goal.returns-clause-dispatch
returns-clause-dispatch c =
    prepares_made _ (body_of c.args.body.now) c.args.self.now.dispatch c.in_ok-tree.tree (sym c.is_some.ensures ∙ c.if-is_some.false)
    (sym c.has_dynexec.ensures ∙ c.if-not-has_dynexec.false)
    (c.in_ok-tree.ensures ∙ ap (λ xs. dispatch_of xs c.args.targets.now) c.deref.ensures.value)
