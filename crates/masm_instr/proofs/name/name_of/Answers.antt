use Rattle.std.proofs.Common.{sym, ◌∙◌}
use Rattle.masm_instr.proofs.NameLemmas.{guessed, not_guessed, differs, none_differs}
use Rattle.masm_instr.proofs.name.name_of.Goals as goal

pub returns-in-Some : goal.returns-in-Some
returns-in-Some c = guessed c.in-Some.name c.args.text.now c.text.result.now c.text.ensures (sym c.eq.ensures ∙ c.if-eq.true)

pub returns-in_default : goal.returns-in_default
returns-in_default c =
    not_guessed c.guess.result c.args.text.now c.guess.ensures
    (differs c.guess.result c.in-Some.name c.args.text.now c.text.result.now c.in-Some.is c.text.ensures (sym c.eq.ensures ∙ c.if-eq.false))

pub returns-in_default-2 : goal.returns-in_default-2
returns-in_default-2 c =
    not_guessed c.guess.result c.args.text.now c.guess.ensures (none_differs c.guess.result c.args.text.now c.in_default.is)
