-- Runs over good files, walked link by link to their end.
use Rattle.cmd_kit.proofs.Words.{◌≡◌, ℕ, ◌+◌, true, false, nat_lt, if◌then◌else◌, List, [], ◌∷◌, length, map, Option, Some, None, refl, sym, ap, subst, ◌∙◌}
use Rattle.cmd_kit.proofs.Words.{arith, get, insert, AllByRecursion, nat_tests, most_inputs, State, Given, Count, Files, get_beside, Answer}
use Rattle.cmd_kit.proofs.Words.{BeginsWith, IsGoodRuns, LinkRuns, LinksRun, MayGoOn, broken, bad_inputs, AreLinksApart}
use Rattle.cmd_kit.proofs.Words.{IsBeside, RunLink, given_steps, has_no_cells, is_none_left, left_steps, link_running_steps, run_link}
use Rattle.cmd_kit.proofs.Words.{run_link_steps, runs_from, runs_given, runs_steps, SourceFile, Steps}
use Rattle.cmd_kit.proofs.Words.{ending}
use Rattle.cmd_kit.specs.declared.status.Status.TheVariants as status
use Rattle.cmd_kit.proofs.RunsNames.{lines_apart}
use Rattle.cmd_kit.proofs.Walks.{Went, course_good, ended, inputs_good, list_good, params_good, read_on, was_written}

-- what a link reads stands in n as it does in m
pub record StandsAs (m n : Files) (link : RunLink) : Type 0 where
  pub source : get n link.source ≡ get m link.source
  pub inputs : get n link.inputs ≡ get m link.inputs

pub all_stand : (m : Files) (links : List RunLink) → AllByRecursion (StandsAs m m) links
all_stand m [] = tt
all_stand m (link ∷ links) = (record { source = refl; inputs = refl }, all_stand m links)

-- a file that is written leaves what the others read
pub still_stand : (m n : Files) (name bytes : List ℕ) (links : List RunLink) → AllByRecursion (IsBeside name) links
    → AllByRecursion (StandsAs m n) links → AllByRecursion (StandsAs m (insert n name bytes)) links
still_stand m n name bytes [] apart stand = tt
still_stand m n name bytes (link ∷ links) apart stand = (
  record {
    source = get_beside n name bytes link.source (λ same. apart.0.source (sym same)) ∙ stand.0.source;
    inputs = get_beside n name bytes link.inputs (λ same. apart.0.inputs (sym same)) ∙ stand.0.inputs;
  },
  still_stand m n name bytes links apart.1 stand.1,
)

-- steps that ended with an answer
module _ (a : Answer) (new : Option Files) where
  abbrev Goes : Steps → Files → Type 0
  Goes steps n = Went a new steps n

  -- what a later link begins with
  begun : (name : List ℕ) (left : Option (List ℕ)) (given begin : Given) (next : Given → Steps) (n : Files) → BeginsWith left given begin
      → Goes (given_steps name left next given) n → Goes (next begin) n
  begun name None given begin next n is goes = subst (λ g. Goes (next g) n) (sym is) goes
  begun name (Some left) given begin next n is goes =
      let none : has_no_cells given.stack ≡ true = ap has_no_cells is.0 in
      let went = subst (λ b. Goes (if b then next (record { stack = left; advice = given.advice }) else ending (bad_inputs name Count)) n) none goes in
      subst (λ g. Goes (next g) n) (sym is.1) went

  -- a link that may be gone on from
  goes_on : (number : ℕ) (links : List RunLink) (next : List ℕ → Steps) (last : State) (n : Files) → MayGoOn links last
      → Goes (left_steps number (is_none_left links) next last.core.stack) n → Goes (next last.core.stack) n
  goes_on number [] next last n may goes = goes
  goes_on number (link ∷ links) next last n may goes =
      let few : nat_lt most_inputs (length last.core.stack) ≡ false = grind (arith, nat_tests, may) in
      subst (λ b. Goes (if b then ending (broken number) else next last.core.stack) n) few goes

  -- one link, whose files stand in n as in m
  record Behind (link : RunLink) (next : List ℕ → Steps) (last : State) (n : Files) : Type 0 where
    table : List ℕ
    statement : List ℕ
    went : Goes (next last.core.stack) (insert (insert n link.outputs.table table) link.outputs.statement statement)

  link_goes : (m n : Files) (constants : List ℕ) (before : ℕ) (left : Option (List ℕ)) (link : RunLink) (last : State) (next : List ℕ → Steps)
      → LinkRuns m constants left link last → StandsAs m n link → Goes (run_link_steps constants before left link next) n → Behind link next last n
  link_goes m n constants before left link last next run stand goes =
      let i = run.inputs_say in
      let source : SourceFile = record { name = link.source; text = run.text } in
      let text = read_on (stand.source ∙ run.source_stands.stands) run.source_stands.short goes in
      let given = inputs_good _ (record { bytes = i.bytes; stands = stand.inputs ∙ i.stands; short = i.short; says = i.says }) text in
      let begin = begun link.inputs left run.given run.begin (link_running_steps constants before link.outputs next source) n run.begins given in
      let r = course_good run.program last run.log run.assembled run.done begin in
      let table = was_written r.went in
      let statement = was_written table.2 in
      record {
        table = table.0;
        statement = statement.0;
        went = subst (λ (s : State). Goes (next s.core.stack) (insert (insert n link.outputs.table table.0) link.outputs.statement statement.0)) r.same
            statement.2;
      }

  links_go : (m n : Files) (constants : List ℕ) (links : List RunLink) (before : ℕ) (left : Option (List ℕ)) (ends : List State)
      → AreLinksApart links → AllByRecursion (StandsAs m n) links → LinksRun m constants left links ends
      → Goes (runs_from constants before left links) n → a.status ≡ status.Ok
  links_go m n constants [] before left [] apart stand run goes = ap (λ (b : Answer). b.status) (ended goes).0
  links_go m n constants [] before left (last ∷ ends) apart stand run goes = absurd run
  links_go m n constants (link ∷ links) before left [] apart stand run goes = absurd run
  links_go m n constants (link ∷ links) before left (last ∷ ends) apart stand run goes =
      let later : List ℕ → Steps = λ it. runs_from constants (before + 1) (Some it) links in
      let b = link_goes m n constants before left link last (left_steps (before + 1) (is_none_left links) later) run.0 stand.0 goes in
      let with_table = still_stand m n link.outputs.table b.table links apart.1 stand.1 in
      let now : Files = insert (insert n link.outputs.table b.table) link.outputs.statement b.statement in
      links_go m now constants links (before + 1) (Some last.core.stack) ends apart.3
      (still_stand m (insert n link.outputs.table b.table) link.outputs.statement b.statement links apart.2 with_table) run.2
      (goes_on (before + 1) links later last now run.1 b.went)

  pub runs_well : (m : Files) (params list : List ℕ) → IsGoodRuns m params list → Goes (runs_steps params list) m → a.status ≡ status.Ok
  runs_well m params list h goes =
      let l = h.list_says in
      links_go m m h.constants (map run_link h.lines) 0 None h.ends (lines_apart params list l.bytes h.lines l.says)
      (all_stand m (map run_link h.lines)) h.links_run (list_good (runs_given params list) _ l (params_good _ h.params_say goes))
