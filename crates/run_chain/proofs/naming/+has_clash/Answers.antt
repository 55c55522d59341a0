use Rattle.std.proofs.Common.{◌||◌, sym, ap, ◌∙◌}
use Rattle.run_chain.specs.Names.{has_clash}
use Rattle.run_chain.specs.Reads.{named_as}
use Rattle.std.proofs.Common.{map}
use Rattle.run_chain.proofs.NameLemmas.{clash-first}
use Rattle.run_chain.proofs.naming.+has_clash.Goals as goal

pub returns-then-clashes_with : goal.returns-then-clashes_with
returns-then-clashes_with t c =
    rw c.if-clashes_with.true (sym (clash-first c.args.names.now c.in-Some.others.now c.in-Some.first.now c.in-Some.ensures.cases.0
    ∙ ap (λ b. b || has_clash (map named_as c.in-Some.others.now)) (sym c.if-clashes_with.ensures)))

pub returns-else-clashes_with : goal.returns-else-clashes_with
returns-else-clashes_with t c =
    rw c.has_clash.ensures (sym (clash-first c.args.names.now c.in-Some.others.now c.in-Some.first.now c.in-Some.ensures.cases.0
    ∙ ap (λ b. b || has_clash (map named_as c.in-Some.others.now)) (sym c.if-clashes_with.ensures)))
