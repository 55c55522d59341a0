-- `make` is never refused.
use Rattle.cmd_kit.proofs.Words.{◌≡◌, ◌≢◌, ℕ, List, Option, Some, None, Result, Ok, Err, refl, sym, ap, subst, ◌∙◌, most_cycles, parameters_of, ParamError}
use Rattle.cmd_kit.proofs.Words.{Files, with_file, Status, Answer, kind_of, MadeNames, make, asked, EndsAs, Finds, steps_of, make_steps, making_steps}
use Rattle.cmd_kit.proofs.Words.{made_course_steps, made_source, made_given, IsCourse, halted, trapped, unended, Passes, past_read, past_write, past_finding}
use Rattle.cmd_kit.proofs.Words.{Concludes, Prints, ServesAs, with_params, Course, Finding, Steps, reading, writing, asking, ending, ends_with}
use Rattle.cmd_kit.specs.declared.status.Status.TheVariants as status
use Rattle.cmd_kit.specs.MakeLaws.{MakeIsNotRefused}
use Rattle.cmd_kit.specs.RunEnds as ends
use Rattle.cmd_kit.specs.Serving.{none_yet, RefusesFile, Ends}

-- no end that the steps may come to is a refusal
abbrev NeverRefuses : Steps → Type 0
NeverRefuses (reading name most next) = (bytes : List ℕ) → NeverRefuses (next bytes)
NeverRefuses (writing name right next) = (bytes : List ℕ) → NeverRefuses (next bytes)
NeverRefuses (asking question next) = (finding : Finding question) → Finds question finding → NeverRefuses (next finding)
NeverRefuses (ending end) = (a : Answer) → EndsAs end a → a.status ≢ status.Refused

-- an answer of another status
other : (s : Status) (line : List ℕ) (a : Answer) → s ≢ status.Refused → a ≡ ends_with s line → a.status ≢ status.Refused
other s line a apart is same = apart (sym (ap (λ (b : Answer). b.status) is) ∙ same)

-- so it is of the steps that are left
never_left : (steps left : Steps) (told now : Option Files) → Passes steps told left now → NeverRefuses steps → NeverRefuses left
never_left steps left told now none_yet never = never
never_left steps left told now (past_read name most next bytes held short rest) never = never_left (next bytes) left told now rest (never bytes)
never_left steps left told now (past_write name right next bytes fit rest) never =
    never_left (next bytes) left (with_file told name bytes) now rest (never bytes)
never_left steps left told now (past_finding question next finding found rest) never =
    never_left (next finding) left told now rest (never finding found)

not_concluded : (left : Steps) (now : Option Files) (line : List ℕ) → NeverRefuses left → Concludes left now (ends_with status.Refused line) → ⊥
not_concluded (reading name most next) now line never h = of h.0 h.2
  where
    of : (file : Option (List ℕ)) → RefusesFile name most file (ends_with status.Refused line) → ⊥
    of None is = other status.Missing _ (ends_with status.Refused line) (λ same. cc) is refl
    of (Some bytes) is = other status.TooLong _ (ends_with status.Refused line) (λ same. cc) is.1 refl
not_concluded (writing name right next) now line never h = h
not_concluded (asking question next) now line never h = h
not_concluded (ending end) now line never h = never (ends_with status.Refused line) h refl

module _ (params : List ℕ) (turns : ℕ) (names : MadeNames) where
  course_never : (constants : List ℕ) (c : Course) → IsCourse constants (made_source names.source turns) None (made_given turns) most_cycles c
      → NeverRefuses (made_course_steps names turns c)
  course_never constants c (ends.refused in_kernel line column cause bad) = λ a. other status.Source _ a (λ same. cc)
  course_never constants c (halted program is b (trapped clock cause traps)) = λ a. other status.Trap _ a (λ same. cc)
  course_never constants c (halted program is b (unended out)) = λ a. other status.OutOfCycles _ a (λ same. cc)
  course_never constants c (ends.ended program is last log r) = λ source inputs a. other status.Ok _ a (λ same. cc)

  make_never : NeverRefuses (make_steps params turns names)
  make_never bytes = by (parameters_of bytes)
    where
      by : (read : Result (List ℕ) ParamError) → NeverRefuses (with_params params (making_steps names turns) read)
      by (Ok constants) = course_never constants
      by (Err e) = λ a. other status.Malformed _ a (λ same. cc)

pub make_is_not_refused : MakeIsNotRefused
make_is_not_refused words s old new before now params turns names serves command same =
    printed (subst (λ c. Prints (steps_of c) status.Refused old new before now) command
    (subst (λ t. ServesAs (kind_of t) (steps_of (asked words)) t old new before now) same serves))
  where
    ended : (line : List ℕ) → Ends (make_steps params turns names) (ends_with status.Refused line) old new → ⊥
    ended line h =
        not_concluded h.files.left h.files.now line
        (never_left (make_steps params turns names) h.files.left old.files h.files.now h.files.passes (make_never params turns names)) h.files.there.0

    printed : Prints (steps_of (make params turns names)) status.Refused old new before now → ⊥
    printed h = ended h.line h.works
