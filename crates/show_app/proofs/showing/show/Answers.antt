use Rattle.std.proofs.Common.{◌∙◌, rules, map, subst, sym}
use Rattle.cmd_reading.specs.Form.{AllText}
use Rattle.show_app.proofs.FormLaws.{untexts_are_nothing}
use Rattle.show_app.proofs.ShowLemmas.{gives_up_first, nothing_ends}
use Rattle.show_app.proofs.showing.show.Goals as goal

pub returns-in-Err-Usage : goal.returns-in-Err-Usage
returns-in-Err-Usage g c =
    nothing_ends _ _ _ (c.in-Some.ensures ∙ untexts_are_nothing c.in-Some.name _ (c.in-Err-Usage.ensures.usage (search rules)))
    c.usage-in-Err-Usage.ensures

pub returns-in-Err-Memory : goal.returns-in-Err-Memory
returns-in-Err-Memory g c = gives_up_first _ _

pub named_command-requires : goal.named_command-requires
named_command-requires g c = record { text = subst (λ xs. AllText (map (λ s. s.now) xs)) (sym c.as_slice.ensures.value) c.in-Ok.ensures.text }

pub returns : goal.returns
returns g c = gives_up_first _ _
