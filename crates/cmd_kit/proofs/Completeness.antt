-- Commands over good files, walked step by step to their ends.
use Rattle.cmd_kit.proofs.Words.{stop}
use Rattle.cmd_kit.proofs.Words.{◌≡◌, ◌⊎◌, ℕ, List, Option, Some, None, Ok, refl, sym, ap, subst, inl, inr}
use Rattle.cmd_kit.proofs.Words.{Program, Files, ShelfState, SinkState, Status, Answer, StatusKind, planned, no_command}
use Rattle.cmd_kit.proofs.Words.{kind_of, MadeNames, Outputs, hash, assemble, check, check_source, make, chain, runs, member}
use Rattle.cmd_kit.proofs.Words.{asked, SourceFile, Steps, ending, ends_with, AssemblesFiles}
use Rattle.cmd_kit.proofs.Words.{EndsAs, steps_of}
use Rattle.cmd_kit.proofs.Words.{hash_steps}
use Rattle.cmd_kit.proofs.Words.{assemble_steps, run_steps, check_steps, make_steps}
use Rattle.cmd_kit.proofs.Words.{ComesWhere, ServesAs, Works, IsGood}
use Rattle.cmd_kit.proofs.Words.{IsGoodHash, IsGoodAssembly, IsGoodRun, IsGoodCheck, IsGoodMake, IsFault, GoodIsOk}
use Rattle.cmd_kit.specs.declared.status.Status.TheVariants as status
use Rattle.cmd_kit.specs.Asked.{Asked, nothing, run}
use Rattle.cmd_kit.specs.AssembleEnds as assembling
use Rattle.cmd_kit.specs.AssembleEnds.{AnswersAssembly, assembled}
use Rattle.cmd_kit.specs.HashEnds.{hash_end}
use Rattle.cmd_kit.specs.Serving.{Ends}
use Rattle.cmd_kit.proofs.ChainComplete.{chained_well}
use Rattle.cmd_kit.proofs.Courses.{bad_or_program}
use Rattle.cmd_kit.proofs.MemberComplete.{walked_well}
use Rattle.cmd_kit.proofs.RunsComplete.{runs_well}
use Rattle.cmd_kit.proofs.SourceComplete.{sourced_well}
use Rattle.cmd_kit.proofs.Walks.{Done, Went, course_good, ended, inputs_good, kernel_good, params_good, read_on, statement_good, table_good, verdict_good, was_written}

-- steps over these files that ended with an answer
module _ (a : Answer) (new : Option Files) (m : Files) where
  abbrev Goes : Steps → Type 0
  Goes steps = Went a new steps m

  is_ok : {line : List ℕ} {n : Files} → Went a new (ending (stop status.Ok line)) n → a.status ≡ status.Ok
  is_ok goes = ap (λ (b : Answer). b.status) (ended goes).0

  hashed : (params numbers : List ℕ) → IsGoodHash m params numbers → Goes (hash_steps params numbers) → a.status ≡ status.Ok
  hashed params numbers h goes =
      let n = h.numbers_say in
      let end = (ended (read_on n.stands n.short (params_good _ h.params_say goes))).0 in
      ap (λ (b : Answer). b.status) (subst (λ r. EndsAs (hash_end h.constants numbers r) a) n.says end)

  assembled_ok : (constants : List ℕ) (source : SourceFile) (kernel : Option SourceFile) (program : Program) (b : Answer)
      → AssemblesFiles constants source kernel (Ok program) → AnswersAssembly constants source kernel b → b.status ≡ status.Ok
  assembled_ok constants source kernel program b is (assembled other h) = refl
  assembled_ok constants source kernel program b is (assembling.refused in_kernel line column cause bad) =
      absurd (bad_or_program constants source kernel program in_kernel line column cause is bad)

  assembled_well : (params source : List ℕ) (name : Option (List ℕ)) → IsGoodAssembly m params source name
      → Goes (assemble_steps params source name) → a.status ≡ status.Ok
  assembled_well params source name h goes =
      let text = read_on h.source_stands.stands h.source_stands.short (params_good _ h.params_say goes) in
      assembled_ok h.constants (record { name = source; text = h.text }) h.kernel h.program a h.assembled
      (ended (kernel_good name h.kernel _ h.kernel_stands text)).0

  ran_well : (params source inputs : List ℕ) (outputs : Outputs) (name : Option (List ℕ)) (limit : ℕ) → IsGoodRun m params source inputs name limit
      → Goes (run_steps params source inputs outputs name limit) → a.status ≡ status.Ok
  ran_well params source inputs outputs name limit h goes =
      let text = read_on h.source_stands.stands h.source_stands.short (params_good _ h.params_say goes) in
      let kernel = kernel_good name h.kernel _ h.kernel_stands (inputs_good _ h.inputs_say text) in
      is_ok (was_written (was_written (course_good h.program h.last h.log h.assembled h.done kernel).went).2).2

  checked_well : (params table statement evidence : List ℕ) → IsGoodCheck m params table statement
      → Goes (check_steps params table statement evidence) → a.status ≡ status.Ok
  checked_well params table statement evidence h goes =
      let judged = statement_good _ h.statement_says (table_good _ h.table_says (params_good _ h.params_say goes)) in
      ap (λ (b : Answer). b.status) (ended (was_written (verdict_good h.found judged)).2).0.is

  made_well : (params : List ℕ) (turns : ℕ) (names : MadeNames) → IsGoodMake m params names.source turns → Goes (make_steps params turns names)
      → a.status ≡ status.Ok
  made_well params turns names h goes =
      is_ok (was_written (was_written (course_good h.program h.last h.log h.assembled h.done (params_good _ h.params_say goes)).went).2).2

  -- a command over good files that went to its end
  abbrev WentAs : Option Steps → Type 0
  WentAs None = ⊥
  WentAs (Some steps) = Goes steps

  good_goes : (c : Asked) → IsGood m c → WentAs (steps_of c) → a.status ≡ status.Ok
  good_goes nothing good went = absurd good
  good_goes (hash params numbers) good went = hashed params numbers good went
  good_goes (assemble params source kernel) good went = assembled_well params source kernel good went
  good_goes (run params source inputs outputs kernel limit) good went = ran_well params source inputs outputs kernel limit good went
  good_goes (check params table statement evidence) good went = checked_well params table statement evidence good went
  good_goes (check_source params table statement evidence source kernel) good went =
      sourced_well params table statement evidence source kernel good went
  good_goes (make params turns names) good went = made_well params turns names good went
  good_goes (chain params list evidence) good went = chained_well params list evidence good went
  good_goes (runs params list) good went = runs_well a new m params list good went
  good_goes (member params table statement evidence depth) good went = walked_well params table statement evidence depth good went

good_ends : (c : Asked) (s : Status) (line : List ℕ) (old new : ShelfState) (m : Files) (steps : Steps) → steps_of c ≡ Some steps
    → old.files ≡ Some m → IsGood m c → Ends steps (ends_with s line) old new → s ≡ status.Ok
good_ends c s line old new m steps are is good h =
    let went : Went (ends_with s line) new.files steps m
    = record { comes = subst (ComesWhere steps (Done (ends_with s line) new.files)) is h.files } in
    good_goes (ends_with s line) new.files m c good (subst (WentAs (ends_with s line) new.files m) (sym are) went)

-- and has steps
good_steps : (m : Files) (c : Asked) → IsGood m c → (steps : Steps) × (steps_of c ≡ Some steps)
good_steps m nothing good = absurd good
good_steps m c good = (_, refl)

-- whatever is answered
good_answers : (kind : StatusKind) (c : Asked) (s : Status) (old new : ShelfState) (before now : SinkState) (m : Files) (steps : Steps)
    → steps_of c ≡ Some steps → old.files ≡ Some m → IsGood m c → kind ≡ kind_of s → ServesAs kind (Some steps) s old new before now
    → (s ≡ status.Ok) ⊎ IsFault kind
good_answers planned c s old new before now m steps are is good of h =
    inl (good_ends c s h.line old new m steps are is good (subst (λ k. Works (Some steps) k (ends_with s h.line) old new) (sym of) h.works))
good_answers no_command c s old new before now m steps are is good of h =
    absurd (subst (λ k. Works (Some steps) k (ends_with s h.line) old new) (sym of) h.works)
good_answers kind c s old new before now m steps are is good of h = inr tt

pub good_is_ok : GoodIsOk
good_is_ok words s old new before now m is good h =
    let steps = good_steps m (asked words) good in
    good_answers (kind_of s) (asked words) s old new before now m steps.0 steps.1 is good refl
    (subst (λ x. ServesAs (kind_of s) x s old new before now) steps.1 h)
