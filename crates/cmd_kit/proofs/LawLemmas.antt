-- The laws of `specs/Laws`.
use Rattle.cmd_kit.proofs.Words.{◌≡◌, ◌⊎◌, ℕ, List, Option, Some, None, refl, sym, ap, subst, inl, inr, ◌∙◌, Contains, take, insert, Files, ShelfState}
use Rattle.cmd_kit.proofs.Words.{with_file, SinkState, get_beside, Status, Answer, StatusKind, planned, no_command, failed_read, failed_write, failed_print}
use Rattle.cmd_kit.proofs.Words.{kind_of, asked, Steps, reading, writing, asking, ending}
use Rattle.cmd_kit.proofs.Words.{steps_of, Passes, past_read, past_write, past_finding, ComesWhere, Works, GivesUp, Prints, ServesAs}
use Rattle.cmd_kit.specs.declared.status.Status.TheVariants as status
use Rattle.cmd_kit.specs.Statuses.{no_memory}
use Rattle.cmd_kit.specs.Asked.{Asked, nothing}
use Rattle.cmd_kit.specs.Serving.{Holds, none_yet, IsWriting, FrontWritten}
use Rattle.cmd_kit.specs.Laws.{WritesOnly, StayBeside, OtherFilesStay, UsageMeansNothing, NothingGivesUsage}

-- the files of m stay in what is told now
abbrev Stayed : List (List ℕ) → Files → Option Files → Type 0
Stayed outputs m now = (n : Files) × (now ≡ Some n) × StayBeside outputs m n

put_beside : (outputs : List (List ℕ)) (m n : Files) (name bytes : List ℕ) → Contains outputs name → StayBeside outputs m n
    → StayBeside outputs m (insert n name bytes)
put_beside outputs m n name bytes within stay other out = get_beside n name bytes other (λ same. out (subst (Contains outputs) (sym same) within))
    ∙ stay other out

-- and what is left of the steps writes no others
abbrev Kept : List (List ℕ) → Files → Steps → Option Files → Type 0
Kept outputs m left now = (n : Files) × (now ≡ Some n) × StayBeside outputs m n × WritesOnly outputs left n

-- Steps without a fault.
passes_stay : (outputs : List (List ℕ)) (first m : Files) (steps left : Steps) (told now : Option Files)
    → Passes steps told left now → WritesOnly outputs steps m
    → told ≡ Some m → StayBeside outputs first m → Kept outputs first left now
passes_stay outputs first m steps left told now none_yet only is stay = (m, is, stay, only)
passes_stay outputs first m steps left told now (past_read name most next bytes held short rest) only is stay =
    passes_stay outputs first m (next bytes) left told now rest (only bytes (subst (λ o. Holds o name (Some bytes)) is held)) is stay
passes_stay outputs first m steps left told now (past_finding question next finding found rest) only is stay =
    passes_stay outputs first m (next finding) left told now rest (only finding) is stay
passes_stay outputs first m steps left told now (past_write name right next bytes fit rest) only is stay =
    passes_stay outputs first (insert m name bytes) (next bytes) left (with_file told name bytes) now rest (only.1 bytes)
    (ap (λ files. with_file files name bytes) is)
    (put_beside outputs first m name bytes only.0 stay)

-- a front of a file that is written
front_stays : (outputs : List (List ℕ)) (m : Files) (name : List ℕ) (left : Steps) (before now : Option Files) → FrontWritten name left before now
    → Kept outputs m left before → Stayed outputs m now
front_stays outputs m name left before now front (n, is, stay, only) =
    let bytes = take front.front front.bytes in (
      insert n name bytes,
      front.files ∙ ap (λ files. with_file files name bytes) is,
      put_beside outputs m n name bytes (its left front.right only) stay,
    )
  where
    its : (left : Steps) → IsWriting name front.bytes left → WritesOnly outputs left n → Contains outputs name
    its (reading n most next) writes only = absurd writes
    its (writing n right next) writes only = subst (Contains outputs) (sym writes.0) only.0
    its (asking question next) writes only = absurd writes
    its (ending end) writes only = absurd writes

module _ (outputs : List (List ℕ)) (steps : Steps) (m : Files) (only : WritesOnly outputs steps m) (old new : ShelfState)
    (is : old.files ≡ Some m) where
  led : (P : Steps → Option Files → Type 0)
      → ((left : Steps) (now : Option Files) → P left now → Kept outputs m left now → Stayed outputs m new.files)
      → ComesWhere steps P old.files → Stayed outputs m new.files
  led P so h = so h.left h.now h.there (passes_stay outputs m m steps h.left old.files h.now h.passes only is (λ name out. refl))

  same : (left : Steps) (now : Option Files) → new.files ≡ now → Kept outputs m left now → Stayed outputs m new.files
  same left now eq (n, told, stay, only) = (n, eq ∙ told, stay)

  works_stay : (kind : StatusKind) (a : Answer) → Works (Some steps) kind a old new → Stayed outputs m new.files
  works_stay planned a h = led _ (λ left now there k. same left now there.1 k) h.files
  works_stay failed_read a h = led _ (λ left now there k. same left now there.1 k) h.1.files
  works_stay failed_write a h = led _ (λ left now there k. front_stays outputs m h.0 left now new.files there k) h.1.files
  works_stay kind a h = absurd h

  gives_up_stays : GivesUp (Some steps) old new → Stayed outputs m new.files
  gives_up_stays (inl h) = led _ (λ left now there k. same left now there k) h.files
  gives_up_stays (inr (inl h)) = led _ (λ left now there k. same left now there.1 k) h.1.files
  gives_up_stays (inr (inr h)) = led _ (λ left now there k. front_stays outputs m h.0 left now new.files there k) h.1.files

  answers_stay : (kind : StatusKind) (s : Status) (before now : SinkState) → ServesAs kind (Some steps) s old new before now → Stayed outputs m new.files
  answers_stay failed_print s before now h = works_stay (kind_of h.answer.status) h.answer h.works
  answers_stay no_memory s before now h = gives_up_stays h.gives_up
  answers_stay kind s before now h = works_stay (kind_of s) _ h.works

pub other_files_stay : OtherFilesStay
other_files_stay words s old new before now steps outputs m serves command only is =
    answers_stay outputs steps m only old new is (kind_of s) s before now (subst (λ c. ServesAs (kind_of s) c s old new before now) command serves)

no_steps : (command : Asked) → steps_of command ≡ None → command ≡ nothing
no_steps nothing none = refl
no_steps command none = absurd (cc)

pub usage_means_nothing : UsageMeansNothing
usage_means_nothing words old new before now serves = no_steps (asked words) (go (steps_of (asked words)) serves)
  where
    go : (steps : Option Steps) → Prints steps status.Usage old new before now → steps ≡ None
    go None h = refl
    go (Some steps) h = absurd h.works

pub nothing_gives_usage : NothingGivesUsage
nothing_gives_usage words s old new before now serves none =
    answers s (subst (λ c. ServesAs (kind_of s) (steps_of c) s old new before now) none serves)
  where
    answers : (s : Status) → ServesAs (kind_of s) None s old new before now
        → (new ≡ old) × ((s ≡ status.Usage) ⊎ ((s ≡ status.SinkFault) ⊎ (s ≡ status.Memory)))
    answers status.Usage h = (h.works.1, inl refl)
    answers status.SinkFault h = (work h.answer h.works, inr (inl refl))
      where
        work : (a : Answer) → Works None (kind_of a.status) a old new → new ≡ old
        work a w = of (kind_of a.status) w
          where
            of : (kind : StatusKind) → Works None kind a old new → new ≡ old
            of no_command v = v.1
            of kind v = absurd v
    answers status.Memory h = (h.gives_up, inr (inr refl))
    answers s h = absurd h.works

pub ruleset usage_laws = (usage_means_nothing, nothing_gives_usage)
