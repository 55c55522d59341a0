-- From a command's work and the printing of its line to what `serve` leaves.
use Rattle.cmd_kit.proofs.Words.{Option, Some, None, inl, inr, Files, ShelfState, SinkState, Status, Answer, StatusKind, planned, no_command, failed_read}
use Rattle.cmd_kit.proofs.Words.{failed_write, failed_print, kind_of, Steps, ComesWhere, Works, GivesUp, Prints, ServesAs}
use Rattle.cmd_kit.specs.declared.outcome.Outcome.{Outcome}
use Rattle.cmd_kit.specs.declared.outcome.Outcome.TheVariants as outcome
use Rattle.cmd_kit.specs.Statuses.{no_memory}
use Rattle.cmd_kit.specs.Outcomes.{EndsIn, PrintStep, printed, refused, given_up}

weaker : (told : Option Files) (steps : Steps) (P Q : Steps → Option Files → Type 0) → ((left : Steps) (now : Option Files) → P left now → Q left now)
    → ComesWhere steps P told → ComesWhere steps Q told
weaker told steps P Q from h = record { left = h.left; now = h.now; passes = h.passes; there = from h.left h.now h.there }

-- With the work done and no memory to print with, what was read and written stands.
works_left : (steps : Option Steps) (kind : StatusKind) (a : Answer) (old new : ShelfState) → Works steps kind a old new → GivesUp steps old new
works_left None no_command a old new h = h.1
works_left None kind a old new h = absurd h
works_left (Some steps) planned a old new h =
    inl (record { counts = h.counts; files = weaker old.files steps _ _ (λ left now there. there.1) h.files })
works_left (Some steps) failed_read a old new h = inr (inl (h.0, h.1))
works_left (Some steps) failed_write a old new h = inr (inr (h.0, h.1))
works_left (Some steps) kind a old new h = absurd h

outcome_left : (steps : Option Steps) (o : Outcome) (old new : ShelfState) → EndsIn steps o old new → GivesUp steps old new
outcome_left steps (outcome.Ends a) old new h = works_left steps (kind_of a.status) a old new h
outcome_left steps outcome.Memory old new h = h

-- no work answers that its line was not printed
prints : (kind : StatusKind) (steps : Option Steps) (a : Answer) (s : Status) (old new : ShelfState) (before now : SinkState) → Works steps kind a old new
    → Prints steps s old new before now → ServesAs kind steps s old new before now
prints failed_print None a s old new before now works h = absurd works
prints failed_print (Some steps) a s old new before now works h = absurd works
prints no_memory None a s old new before now works h = absurd works
prints no_memory (Some steps) a s old new before now works h = absurd works
prints planned steps a s old new before now works h = h
prints no_command steps a s old new before now works h = h
prints failed_read steps a s old new before now works h = h
prints failed_write steps a s old new before now works h = h

-- A command's work and then its printing.
pub serves_steps : (steps : Option Steps) (o : Outcome) (s : Status) (old new : ShelfState) (before now : SinkState) → EndsIn steps o old new
    → PrintStep o s before now
    → ServesAs (kind_of s) steps s old new before now
serves_steps steps o s old new before now h (printed a taken) =
    prints (kind_of a.status) steps a a.status old new before now h (record { line = a.line; works = h; taken = taken })
serves_steps steps o s old new before now h (refused a failed) = record { answer = a; works = h; failed = failed }
serves_steps steps o s old new before now h (given_up p taken) = record { gives_up = outcome_left steps p old new h; taken = taken }
