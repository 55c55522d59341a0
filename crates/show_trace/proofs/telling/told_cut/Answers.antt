use Rattle.std.proofs.Common.{◌≡◌, ℕ, List, IfOk, subst}
use Rattle.masm_places.specs.Indexed.{texts_in}
use Rattle.show_trace.proofs.TellLemmas.{cut_told}
use Rattle.show_trace.proofs.telling.told_cut.Goals as goal

pub returns-in-Ok : goal.returns-in-Ok
returns-in-Ok c =
    subst (λ (t : List ℕ). IfOk c.halt_of.result (λ text. text ≡ t))
    (cut_told c.args.params.now (texts_in c.args.sources.now) c.args.program.now c.args.inputs.now c.args.limit c.in-Ok.progress c.in-Ok.ensures
    c.requires.cut)
    c.halt_of.ensures
