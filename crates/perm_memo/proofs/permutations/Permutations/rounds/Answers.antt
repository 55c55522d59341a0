use Rattle.std.proofs.Common.{◌≡◌, [], get_or, subst}
use Rattle.perm_memo.specs.RoundStates.{round_states}
use Rattle.perm_memo.proofs.StateLemmas.{round_states-AreRounds}
use Rattle.perm_memo.proofs.permutations.Permutations.rounds.Goals as goal

pub keep-requires : goal.keep-requires
keep-requires c =
    let states = c.computed-states.result in
    subst (λ constants. states ≡ round_states constants (get_or states 0 [])) c.self.view_is
    (round_states-AreRounds _ _ _ c.computed-states.ensures)
