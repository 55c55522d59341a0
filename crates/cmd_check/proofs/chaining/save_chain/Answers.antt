use Rattle.cmd_check.proofs.Words.{says_line}
use Rattle.cmd_check.proofs.ChainLemmas.{saved_chain}
use Rattle.cmd_check.proofs.chaining.save_chain.Goals as goal

pub returns-in-Ok : goal.returns-in-Ok
returns-in-Ok g c constants judged left count so =
    saved_chain constants c.args.name.now c.args.text.now judged left c.args.number _ _ _ count so
    (rw c.as_slice.ensures.items at c.in-Ok.ensures.written) (says_line _ _ _ _ c.answered.ensures c.accepted_text.ensures)
