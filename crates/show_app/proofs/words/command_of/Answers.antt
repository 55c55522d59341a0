use Rattle.std.proofs.Common.{◌∙◌, rules, sym, ap, subst, map}
use Rattle.cmd_reading.specs.Meaning.{MayBeMeant, Says}
use Rattle.show_app.specs.Forms.{asked_in}
use Rattle.show_app.proofs.FormLaws.{asked_by_texts, unmeant_is_nothing}
use Rattle.show_app.proofs.words.command_of.Goals as goal

pub returns-in-Ok-clause-asks : goal.returns-in-Ok-clause-asks
returns-in-Ok-clause-asks c =
    let says = subst (λ f. Says f (map (λ s. s.now) c.args.words.now) c.in-Ok.read) c.names_of-names.ensures c.in-Ok.ensures.ok in
    c.command_in.ensures.asks ∙ ap (asked_in c.args.form) says.texts ∙ sym (asked_by_texts c.args.form _ says.form)

pub returns-in-Err-Usage-clause-asks : goal.returns-in-Err-Usage-clause-asks
returns-in-Err-Usage-clause-asks c =
    sym (unmeant_is_nothing c.args.form _
    (λ m. c.in-Err-Usage.ensures.usage (search rules) (subst (λ f. MayBeMeant f (map (λ s. s.now) c.args.words.now)) (sym c.names_of-names.ensures) m)))
