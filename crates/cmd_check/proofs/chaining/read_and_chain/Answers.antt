use Rattle.cmd_check.proofs.Words.{[], refl, constants_of}
use Rattle.cmd_check.proofs.ChainLemmas.{ends_behind_list}
use Rattle.cmd_check.proofs.chaining.read_and_chain.Goals as goal

pub returns : goal.returns
returns g c =
    ends_behind_list _ _ _ (constants_of c.in_ok-constants.constants) _ _ c.in_ok-constants.ensures.loads c.in_ok-bytes.bytes _
    c.in_ok-bytes.ensures.found c.in_ok-links.links (rw c.as_slice.ensures.items at c.in_ok-links.ensures.lines) _ _
    (c.links_from.ensures [] refl (record { evidence = []; are_evidence = tt; text = c.new.ensures.empty }))
