use Rattle.fill_chips.proofs.Words.{◌≡◌, ◌≤◌, ◌∙◌, [], length, sym, arith, length-map, ext_get_or, round_states, states_of}
use Rattle.fill_chips.proofs.rounds.fill.Goals as goal

pub returns : goal.returns
returns c =
    let perms = c.args.perms.now in
    let constants = c.args.permutations.now in
    let all : length perms ≤ c.loop-k.k = omega arith in
    let same : length c.loop-k.states ≡ length (states_of constants perms) = c.loop-k.invariant.0 ∙ sym (length-map perms (λ p. round_states constants p.start)) in
    ext_get_or [] c.loop-k.states (states_of constants perms) same
    (λ j h. c.loop-k.invariant.1 j (omega (arith, h, all, c.loop-k.invariant.0)))
