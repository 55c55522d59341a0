use Rattle.std.proofs.Common.{◌≡◌, get_or, [], ◌∙◌, sym, subst, ap₂}
use Rattle.std.proofs.lemmas.List.Elements.{All-get_or}
use lib.Pointwise.{bytes_decides}
use Rattle.rpo_hash.specs.Constants.{constants_of}
use Rattle.perm_memo.specs.RoundStates.{AreRounds, round_states}
use Rattle.perm_memo.proofs.permutations.Permutations.found.Goals as goal

pub returns-then-eq : goal.returns-then-eq
returns-then-eq c =
    let constants = constants_of c.self.inside.params in
    let states = c.in_ok-states.states.now in
    let first : get_or states 0 [] ≡ c.args.state.now = (bytes_decides _ _).0 (sym c.eq.ensures ∙ c.if-eq.true) in
    let found = c.in_ok-states.ensures.lookup in
    let are : AreRounds constants states =
    subst (AreRounds constants) (sym found.1)
    (All-get_or (AreRounds constants) _ c.in_ok-get.field-0.now _ found.3.0 (rw c.deref.ensures.value c.self.invariant)) in
    are ∙ ap₂ round_states c.self.view_is first
