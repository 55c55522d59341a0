use Rattle.std.proofs.Common.{sym, ◌∙◌}
use Rattle.masm_names.proofs.NameLemmas.{place-added}
use Rattle.masm_names.proofs.names.Names.add.Goals as goal

pub returns : goal.returns
returns c = λ text.
    place-added c.args.self.now.places c.insert.new.self c.in_ok-key.key c.args.name.now text c.args.place c.in_ok-key.ensures.items
    c.in_ok-insert.ensures.entries (sym c.contains_key.ensures ∙ c.if-contains_key.false)
