use Rattle.cmd_kit.proofs.ServingLemmas.{missing_ends, too_long_ends, read_fault_ends}
use Rattle.cmd_kit.proofs.loading.unread.Goals as goal

pub returns-in-Missing : goal.returns-in-Missing
returns-in-Missing c = λ old new most next step.
    let h = rw c.in-Missing.is at step in
    missing_ends _ _ next _ _ _ h.0 h.1 c.named_answer.ensures

pub returns-in-TooLong : goal.returns-in-TooLong
returns-in-TooLong c = λ old new most next step.
    let h = rw c.in-TooLong.is at step in
    too_long_ends _ _ next _ _ _ h.0 h.1 c.named_answer-in-TooLong.ensures

pub returns-in-Failed : goal.returns-in-Failed
returns-in-Failed c = λ old new most next step.
    let h = rw c.in-Failed.is at step in
    read_fault_ends _ _ next _ _ _ c.requires h c.named_answer-in-Failed.ensures
