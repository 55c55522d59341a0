-- What stands where `runs` answers `Ok`: its steps, walked link by link.
use Rattle.cmd_kit.proofs.Words.{◌≡◌, ℕ, suc, ◌+◌, ◌≤◌, Bool, true, false, nat_lt, if◌then◌else◌, List, [], ◌∷◌, length, map, Option, Some, None, unwrap_or}
use Rattle.cmd_kit.proofs.Words.{refl, sym, ap, ◌∙◌, arith, insert, AllByRecursion, nat_tests, tree_of, files_accepted}
use Rattle.cmd_kit.proofs.Words.{most_cycles, most_inputs, State, Given, Count}
use Rattle.cmd_kit.proofs.Words.{Files, runs, BeginsWith, LinkRuns, LinksRun, MayGoOn, broken}
use Rattle.cmd_kit.proofs.Words.{bad_inputs, AreLinksApart, RunLink, given_steps}
use Rattle.cmd_kit.proofs.Words.{has_no_cells, is_none_left, left_steps, links_lines, run_link, run_link_steps}
use Rattle.cmd_kit.proofs.Words.{runs_from, runs_given}
use Rattle.cmd_kit.proofs.Words.{Steps, ending, ends_with}
use Rattle.cmd_kit.specs.declared.status.Status.TheVariants as status
use Rattle.cmd_kit.specs.RunsLaws.{LinkWritten, LinksWritten, none_yet, one_more, AnsweredRunsStand}
use Rattle.cmd_kit.proofs.RunsComplete.{StandsAs, all_stand, still_stand}
use Rattle.cmd_kit.proofs.RunsNames.{lines_apart}
use Rattle.cmd_kit.proofs.Walks.{Went, answered_ok, course_said, ended, ended_ok, inputs_said, list_said, params_said, printed_as, was_read, was_written}

-- what a link reads stands in m too
moved : (m n : Files) (constants : List ℕ) (left : Option (List ℕ)) (link : RunLink) (last : State) → StandsAs m n link
    → LinkRuns n constants left link last → LinkRuns m constants left link last
moved m n constants left link last stand run = record {
  text = run.text;
  given = run.given;
  source_stands = record { stands = sym stand.source ∙ run.source_stands.stands; short = run.source_stands.short };
  inputs_say =
      record {
        bytes = run.inputs_say.bytes;
        stands = sym stand.inputs ∙ run.inputs_say.stands;
        short = run.inputs_say.short;
        says = run.inputs_say.says;
      };
  begin = run.begin;
  begins = run.begins;
  program = run.program;
  log = run.log;
  assembled = run.assembled;
  done = run.done;
}

pub no_cells : (cells : List ℕ) → has_no_cells cells ≡ true → cells ≡ []
no_cells [] is = refl
no_cells (x ∷ cells) is = absurd (cc (is))

-- the steps of `runs`, which ended with `Ok` and this line
module _ (line : List ℕ) (new : Option Files) where
  abbrev Walked : Steps → Files → Type 0
  Walked steps n = Went (ends_with status.Ok line) new steps n

  begun : (name : List ℕ) (left : Option (List ℕ)) (next : Given → Steps) (given : Given) (n : Files) → Walked (given_steps name left next given) n
      → (begin : Given) × BeginsWith left given begin × Walked (next begin) n
  begun name None next given n h = (given, refl, h)
  begun name (Some left) next given n h = by (has_no_cells given.stack) refl h
    where
      begin : Given
      begin = record { stack = left; advice = given.advice }

      by : (b : Bool) → has_no_cells given.stack ≡ b → Walked (if b then next begin else ending (bad_inputs name Count)) n
          → (x : Given) × BeginsWith (Some left) given x × Walked (next x) n
      by true is h = (begin, (no_cells given.stack is, refl), h)
      by false is h = absurd (let no = ended_ok h in cc)

  went_on : (number : ℕ) (links : List RunLink) (next : List ℕ → Steps) (last : State) (n : Files)
      → Walked (left_steps number (is_none_left links) next last.core.stack) n → MayGoOn links last × Walked (next last.core.stack) n
  went_on number [] next last n h = (tt, h)
  went_on number (link ∷ links) next last n h = by (nat_lt most_inputs (length last.core.stack)) refl h
    where
      by : (b : Bool) → nat_lt most_inputs (length last.core.stack) ≡ b → Walked (if b then ending (broken number) else next last.core.stack) n
          → (length last.core.stack ≤ most_inputs) × Walked (next last.core.stack) n
      by true is h = absurd (let no = ended_ok h in cc)
      by false is h = (grind (arith, nat_tests, is), h)

  -- one link was run, and its files written
  record OneRan (n : Files) (constants : List ℕ) (left : Option (List ℕ)) (link : RunLink) (next : List ℕ → Steps) : Type 0 where
    last : State
    table : List ℕ
    statement : List ℕ
    written : LinkWritten n constants left link last table statement
    went : Walked (next last.core.stack) (insert (insert n link.outputs.table table) link.outputs.statement statement)

  link_ran : (n : Files) (constants : List ℕ) (before : ℕ) (left : Option (List ℕ)) (link : RunLink) (next : List ℕ → Steps)
      → Walked (run_link_steps constants before left link next) n → OneRan n constants left link next
  link_ran n constants before left link next h =
      let code = was_read h in
      let g = inputs_said _ code.3 in
      let begin = begun link.inputs left _ g.0 n g.2 in
      let r = course_said begin.2 (λ b w. ended_ok w) in
      let table = was_written r.went in
      let statement = was_written table.2 in
      record {
        last = r.last;
        table = table.0;
        statement = statement.0;
        written =
            record {
              ran =
                  record {
                    text = code.0;
                    given = g.0;
                    source_stands = record { stands = code.1; short = code.2 };
                    inputs_say = g.1;
                    begin = begin.0;
                    begins = begin.1;
                    program = r.program;
                    log = r.log;
                    assembled = r.assembled;
                    done = r.is_run.done;
                  };
              shows = table.1;
              claims = statement.1;
              accepted = λ p params_are claims.
                  files_accepted constants r.program.kernel most_cycles (tree_of r.program.tree) begin.0.stack begin.0.advice r.last r.log r.is_run p
                  params_are claims table.0 table.1;
            };
        went = statement.2;
      }

  -- the links from here on
  record Left (m n : Files) (constants : List ℕ) (before : ℕ) (left : Option (List ℕ)) (links : List RunLink) : Type 0 where
    ends : List State
    run : LinksRun m constants left links ends
    behind : Option (List ℕ)
    files_now : Files
    written : LinksWritten constants links left n behind files_now
    files : new ≡ Some files_now
    told : ends_with status.Ok line ≡ ends_with status.Ok (links_lines (before + length links) (unwrap_or behind []))

  one_further : (before : ℕ) (rest : List RunLink) → before + 1 + length rest ≡ before + suc (length rest)
  one_further before rest = omega arith

  walked : (m n : Files) (constants : List ℕ) (links : List RunLink) (before : ℕ) (left : Option (List ℕ)) → AreLinksApart links
      → AllByRecursion (StandsAs m n) links → Walked (runs_from constants before left links) n → Left m n constants before left links
  walked m n constants [] before left apart stand h =
      let e = ended h in
      let count : before ≡ before + 0 = omega arith in
      record {
        ends = [];
        run = tt;
        behind = left;
        files_now = n;
        written = none_yet;
        files = e.1;
        told = e.0 ∙ ap (λ (k : ℕ). ends_with status.Ok (links_lines k (unwrap_or left []))) count;
      }
  walked m n constants (link ∷ links) before left apart stand h =
      let later : List ℕ → Steps = λ it. runs_from constants (before + 1) (Some it) links in
      let one = link_ran n constants before left link (left_steps (before + 1) (is_none_left links) later) h in
      let with_table = still_stand m n link.outputs.table one.table links apart.1 stand.1 in
      let now : Files = insert (insert n link.outputs.table one.table) link.outputs.statement one.statement in
      let on = went_on (before + 1) links later one.last now one.went in
      let rest =
      walked m now constants links (before + 1) (Some one.last.core.stack) apart.3
      (still_stand m (insert n link.outputs.table one.table) link.outputs.statement one.statement links apart.2 with_table) on.1 in
      record {
        ends = one.last ∷ rest.ends;
        run = (moved m n constants left link one.last stand.0 one.written.ran, on.0, rest.run);
        behind = rest.behind;
        files_now = rest.files_now;
        written = one_more link one.last one.table one.statement one.written rest.written;
        files = rest.files;
        told = rest.told ∙ ap (λ (k : ℕ). ends_with status.Ok (links_lines k (unwrap_or rest.behind []))) (one_further before links);
      }

lines_count : (lines : List (List (List ℕ))) → 0 + length (map run_link lines) ≡ length lines
lines_count [] = refl
lines_count (names ∷ lines) = let rest = lines_count lines in omega (arith, rest)

pub answered_runs_stand : AnsweredRunsStand
answered_runs_stand words old new before now params list m serves command is =
    let h = answered_ok words (runs params list) old serves command refl is in
    let c = params_said _ h.went in
    let l = list_said (runs_given params list) _ c.2 in
    let links : List RunLink = map run_link l.0 in
    let w = walked h.line new.files m m c.0 links 0 None (lines_apart params list l.1.bytes l.0 l.1.says) (all_stand m links) l.2 in
    record {
      good =
          record {
            constants = c.0;
            lines = l.0;
            ends = w.ends;
            params_say = c.1;
            list_says = l.1;
            links_run = w.run;
          };
      left = w.behind;
      files_now = w.files_now;
      written = w.written;
      files = w.files;
      taken = printed_as before h.taken (w.told ∙ ap (λ (k : ℕ). ends_with status.Ok (links_lines k (unwrap_or w.behind []))) (lines_count l.0));
    }
