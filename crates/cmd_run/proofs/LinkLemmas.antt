-- How the steps of `runs` go on and end, read after read.
use Rattle.std.proofs.Common.{◌≡◌, ℕ, ◌+◌, ◌≤◌, Bool, true, false, not, ◌&&◌, nat_lt, if◌then◌else◌, List, [], ◌∷◌, drop, length, length-drop, map, Bor, ◌-◌, ◌<◌, arith, Option, Some, None, unwrap_or, Result, Ok, Err, refl, sym, subst, ◌∙◌}
use Rattle.std.proofs.lemmas.List.{drop_all, length-map}
use Rattle.std.proofs.lemmas.Bool.Decides.{nat_tests}
use Rattle.std.specs.Option.{option_copied, option_map}
use Rattle.std.specs.Result.{IfErr, IfOk}
use Rattle.cmd_run.proofs.Words.{constants_of, Params, tree_of, Program, most_cycles, most_inputs, state_of, Run, Given, ShelfState, Outcome, Outputs}
use Rattle.cmd_run.proofs.Words.{Continues, EndsIn, EndsThere, Loads, SaysStatus, ended, Came, Stopped}
use Rattle.vm_field.specs.declared.lists.Felts.{Felts}
use Rattle.fill_files.specs.RunFiles.{IsFileOfRun, IsStatementFileOf, claim_of_run}
use Rattle.run_chain.specs.Lists.{Links, links_of}
use Rattle.statement.specs.declared.refusal.TextCause.TheVariants.{Count}
use Rattle.cmd_run.specs.declared.course.Course as held
use Rattle.cmd_kit.specs.declared.outcome.Outcome.TheVariants as outcome
use Rattle.cmd_kit.specs.declared.status.Status.TheVariants as status
use Rattle.cmd_kit.specs.Links.{broken, broken_line, line_of_link, list_steps, most_list_bytes, with_lines}
use Rattle.cmd_kit.specs.Malformed.{bad_inputs, malformed_text_line}
use Rattle.cmd_kit.specs.RunsSteps.{RunLink, given_steps, has_no_cells, is_none_left, left_steps, link_course_steps, link_running_steps, links_lines, run_link, run_link_steps, runs_from, runs_given, runs_steps, saved_steps}
use Rattle.cmd_kit.specs.Starts.{params_steps, source_steps, inputs_steps}
use Rattle.cmd_kit.specs.Steps.{SourceFile, course, ran, stop, stopped, Steps, reading, ending}
use Rattle.cmd_kit.proofs.ServingLemmas.{goes_past_finding, same_again, says_comes, work_ends}
use Rattle.cmd_run.specs.Linking.{EndsSaving, EndsTwo, LinkSays, SavesLink, SavesTwo}

-- what holds whatever is answered
pub on_ok : {A : Type 0} (r : Result A Outcome) (P Q : A → Type 0) → ((x : A) → P x → Q x) → IfOk r P → IfOk r Q
on_ok (Ok x) P Q from h = from x h
on_ok (Err end) P Q from h = tt

pub on_err : {A : Type 0} (r : Result A Outcome) (P Q : Outcome → Type 0) → ((end : Outcome) → P end → Q end) → IfErr r P → IfErr r Q
on_err (Ok x) P Q from h = tt
on_err (Err end) P Q from h = from end h

pub both_ok : {A : Type 0} (r : Result A Outcome) (P Q R : A → Type 0) → IfOk r P → IfOk r Q → ((x : A) → P x → Q x → R x) → IfOk r R
both_ok (Ok x) P Q R p q from = from x p q
both_ok (Err end) P Q R p q from = tt

-- cells that are lent are those that are held
pub lent_cells : (lent : Option (Bor Felts)) (cells : Option Felts) → option_copied lent ≡ cells → option_map (λ x. x.now) lent ≡ cells
lent_cells None cells is = is
lent_cells (Some k) cells is = is

-- the parameters and the list
module _ (params list : List ℕ) (constants : List ℕ) (old first : ShelfState) (params_say : Loads (params_steps params) constants old first) where
  abbrev from : List ℕ → List (List (List ℕ)) → Steps
  from constants lines = runs_from constants 0 None (map run_link lines)

  abbrev with_constants : List ℕ → Steps
  with_constants constants = list_steps (runs_given params list) (from constants)

  module _ (bytes : List ℕ) (second : ShelfState)
      (list_says : (next : List ℕ → Steps) → Continues (reading list most_list_bytes next) (next bytes) first second) where
    pub ends_behind_list : (end : Outcome) (new : ShelfState)
        → EndsIn (Some (with_lines list (from constants) (links_of (runs_given params list) bytes))) end second new
        → EndsIn (Some (runs_steps params list)) end old new
    ends_behind_list end new ends =
        params_say with_constants end new
        (list_says (λ bytes. with_lines list (from constants) (links_of (runs_given params list) bytes)) end new ends)

-- the lines of a list
pub ends_in_lines : (constants name : List ℕ) (read : Links) (lines : List (List (List ℕ))) → read ≡ Ok lines → (end : Outcome) (old new : ShelfState)
    → EndsIn (Some (runs_from constants 0 None (map run_link lines))) end old new
    → EndsIn (Some (with_lines name (λ lines. runs_from constants 0 None (map run_link lines)) read)) end old new
ends_in_lines constants name read lines says end old new ends =
    subst (λ (r : Links). EndsIn (Some (with_lines name (λ lines. runs_from constants 0 None (map run_link lines)) r)) end old new) (sym says) ends

-- one link
module _ (constants : List ℕ) (before : ℕ) (left : Option (List ℕ)) (link : RunLink) where
  abbrev running : (List ℕ → Steps) → SourceFile → Given → Steps
  running next source = link_running_steps constants before link.outputs next source

  abbrev with_source : (List ℕ → Steps) → SourceFile → Steps
  with_source next source = inputs_steps link.inputs (given_steps link.inputs left (running next source))

  module _ (source : SourceFile) (old mid : ShelfState) (source_says : Loads (source_steps link.source) source old mid) (given : Given)
      (third : ShelfState) (inputs_say : Loads (inputs_steps link.inputs) given mid third) where
    from_inputs : (next : List ℕ → Steps) (end : Outcome) (new : ShelfState)
        → EndsIn (Some (given_steps link.inputs left (running next source) given)) end third new
        → EndsIn (Some (run_link_steps constants before left link next)) end old new
    from_inputs next end new ends =
        source_says (with_source next) end new (inputs_say (given_steps link.inputs left (running next source)) end new ends)

    module _ (begin : Given)
        (begins : (s : ShelfState) (next : Given → Steps) → Continues (given_steps link.inputs left next given) (next begin) s s) where
      pub ends_running : (end : Outcome) (new : ShelfState)
          → ((next : List ℕ → Steps) → EndsIn (Some (running next source begin)) end third new)
          → EndsThere (run_link_steps constants before left link) end old new
      ends_running end new ends next = from_inputs next end new (begins third (running next source) end new (ends next))

      pub goes_running : (outputs : List ℕ) (new : ShelfState)
          → ((next : List ℕ → Steps) → Continues (running next source begin) (next outputs) third new)
          → Loads (run_link_steps constants before left link) outputs old new
      goes_running outputs new goes next end last rest =
          from_inputs next end last (begins third (running next source) end last (goes next end last rest))

module _ (name : List ℕ) (cells : List ℕ) (given : Given) where
  abbrev begin : Given
  begin = record { stack = cells; advice = given.advice }

  some_cells : (xs : List ℕ) → (xs ≡ [] → ⊥) → has_no_cells xs ≡ false
  some_cells [] other = absurd (other refl)
  some_cells (x ∷ xs) other = refl

  pub two_stacks : (given.stack ≡ [] → ⊥) → (end : Outcome) → SaysStatus end status.Malformed (malformed_text_line name Count) → (s : ShelfState)
      (next : Given → Steps) → EndsIn (Some (given_steps name (Some cells) next given)) end s s
  two_stacks other end says s next =
      subst (λ b. EndsIn (Some (if b then next begin else ending (bad_inputs name Count))) end s s) (sym (some_cells given.stack other))
      (work_ends (bad_inputs name Count) end s (says_comes status.Malformed (malformed_text_line name Count) end refl says))

-- a run that came to its end, and both of its files
module _ (params : Params) (before : ℕ) (outputs : Outputs) (source : SourceFile) (given : Given) (made : held.Course)
    (came : Came params source None given most_cycles made) where
  abbrev after : (List ℕ → Steps) → Steps
  after next = link_running_steps (constants_of params) before outputs next source given

  found : (next : List ℕ → Steps) (end : Outcome) (old new : ShelfState)
      → EndsIn (Some (saved_steps outputs (constants_of params) given made.program (state_of made.run.state) came.run.log (next made.run.state.stack)))
      end old new → EndsIn (Some (after next)) end old new
  found next end old new ends =
      goes_past_finding (course (constants_of params) source None given most_cycles)
      (link_course_steps (constants_of params) before outputs next given) (ran made.program (state_of made.run.state) came.run.log) old
      (ended made.program came.assembled (state_of made.run.state) came.run.log came.run.is_run) end new ends

  pub came_goes : (left : List ℕ) (old new : ShelfState) → left ≡ made.run.state.stack
      → SavesLink params made.program made.run outputs given old new
      → (next : List ℕ → Steps) → Continues (after next) (next left) old new
  came_goes left old new is saves next end last rest =
      found next end old last
      (saves came.run.log came.run.events (next made.run.state.stack) end last
      (subst (λ xs. EndsIn (Some (next xs)) end new last) is rest))

  pub came_ends_saving : (end : Outcome) (old new : ShelfState) → EndsSaving params made.program made.run outputs given end old new
      → (next : List ℕ → Steps) → EndsIn (Some (after next)) end old new
  came_ends_saving end old new ends next = found next end old new (ends came.run.log came.run.events (next made.run.state.stack))

-- one that did not
pub stopped_of_link : (constants : List ℕ) (before : ℕ) (outputs : Outputs) (source : SourceFile) (given : Given) (end told : Outcome)
    (s : ShelfState) → Stopped constants source None given most_cycles end → LinkSays (before + 1) end told
    → (next : List ℕ → Steps) → EndsIn (Some (link_running_steps constants before outputs next source given)) told s s
stopped_of_link constants before outputs source given (outcome.Ends a) told s h says next =
    goes_past_finding (course constants source None given most_cycles) (link_course_steps constants before outputs next given) (stopped a) s h.0 told s
    (work_ends (stop a.status (line_of_link (before + 1) a.line)) told s (says_comes a.status (line_of_link (before + 1) a.line) told h.1 says))
stopped_of_link constants before outputs source given outcome.Memory told s h says next =
    subst (λ (o : Outcome). EndsIn (Some (link_running_steps constants before outputs next source given)) o s s) (sym says)
    (same_again (link_running_steps constants before outputs next source given) s)

-- the files of a run are those that its steps write
module _ (params : Params) (program : Program) (answer : Run) (outputs : Outputs) (given : Given) (table statement : List ℕ)
    (tables : IsFileOfRun params program answer table)
    (claims : IsStatementFileOf (claim_of_run (constants_of params) (tree_of program.tree) program.kernel given.stack answer.state.stack) statement) where
  pub link_saved : (old new : ShelfState) → SavesTwo table statement outputs old new → SavesLink params program answer outputs given old new
  link_saved old new saves log events next = saves _ _ (tables log events) claims next

  pub link_unsaved : (end : Outcome) (old new : ShelfState) → EndsTwo table statement outputs end old new
      → EndsSaving params program answer outputs given end old new
  link_unsaved end old new ends log events next = ends _ _ (tables log events) claims next

pub no_memory_saves : (params : Params) (program : Program) (answer : Run) (outputs : Outputs) (given : Given) (s : ShelfState)
    → EndsSaving params program answer outputs given outcome.Memory s s
no_memory_saves params program answer outputs given s log events next = same_again _ s

-- behind a link: the next one, or the end
module _ (constants : List ℕ) (before : ℕ) (left : Option (List ℕ)) (link : RunLink) (links all : List RunLink) (first : all ≡ link ∷ links)
    (old : ShelfState) where
  abbrev later : List ℕ → Steps
  later it = runs_from constants (before + 1) (Some it) links

  abbrev on : List ℕ → Steps
  on = left_steps (before + 1) (is_none_left links) later

  from_link : (end : Outcome) (new : ShelfState) → EndsIn (Some (run_link_steps constants before left link on)) end old new
      → EndsIn (Some (runs_from constants before left all)) end old new
  from_link end new ends = subst (λ ls. EndsIn (Some (runs_from constants before left ls)) end old new) (sym first) ends

  chosen : (b c : Bool) (x y : Steps) (end : Outcome) (s new : ShelfState) → b ≡ c → EndsIn (Some (if c then x else y)) end s new
      → EndsIn (Some (if b then x else y)) end s new
  chosen b c x y end s new is ends = subst (λ b. EndsIn (Some (if b then x else y)) end s new) (sym is) ends

  module _ (outputs : List ℕ) (mid : ShelfState) (went : Loads (run_link_steps constants before left link) outputs old mid) where
    pub goes_to_next : (not (is_none_left links) && nat_lt most_inputs (length outputs)) ≡ false → (end : Outcome) (new : ShelfState)
        → EndsIn (Some (later outputs)) end mid new → EndsIn (Some (runs_from constants before left all)) end old new
    goes_to_next may end new rest =
        from_link end new (went on end new
        (chosen (not (is_none_left links) && nat_lt most_inputs (length outputs)) false (ending (broken (before + 1))) (later outputs) end mid new may rest))

    pub breaks_here : (not (is_none_left links) && nat_lt most_inputs (length outputs)) ≡ true → (end : Outcome)
        → SaysStatus end status.Broken (broken_line (before + 1)) → EndsIn (Some (runs_from constants before left all)) end old mid
    breaks_here many end says =
        from_link end mid (went on end mid
        (chosen (not (is_none_left links) && nat_lt most_inputs (length outputs)) true (ending (broken (before + 1))) (later outputs) end mid mid many
        (work_ends (broken (before + 1)) end mid (says_comes status.Broken (broken_line (before + 1)) end refl says))))

left_length : (lines : List (List (List ℕ))) (i : ℕ) → length (map run_link (drop i lines)) ≡ length lines - i
left_length lines i = length-map (drop i lines) run_link ∙ length-drop i lines

pub may_go_on : (lines : List (List (List ℕ))) (i : ℕ) (outputs : List ℕ) → (i < length lines → length outputs ≤ most_inputs)
    → (not (is_none_left (map run_link (drop i lines))) && nat_lt most_inputs (length outputs)) ≡ false
may_go_on lines i outputs few = by (map run_link (drop i lines)) (left_length lines i)
  where
    by : (ls : List RunLink) → length ls ≡ length lines - i → (not (is_none_left ls) && nat_lt most_inputs (length outputs)) ≡ false
    by [] count = refl
    by (l ∷ ls) count = let short = few (omega (arith, count)) in grind (arith, nat_tests, short)

pub has_many : (lines : List (List (List ℕ))) (i : ℕ) (outputs : List ℕ) → i < length lines → most_inputs < length outputs
    → (not (is_none_left (map run_link (drop i lines))) && nat_lt most_inputs (length outputs)) ≡ true
has_many lines i outputs within many = by (map run_link (drop i lines)) (left_length lines i)
  where
    by : (ls : List RunLink) → length ls ≡ length lines - i → (not (is_none_left ls) && nat_lt most_inputs (length outputs)) ≡ true
    by [] count = absurd (omega (arith, count, within))
    by (l ∷ ls) count = grind (arith, nat_tests, many)

pub no_links : (constants : List ℕ) (before : ℕ) (left : Option (List ℕ)) (lines : List (List (List ℕ))) (o : Outcome) (s : ShelfState)
    → before ≡ length lines → SaysStatus o status.Ok (links_lines before (unwrap_or left []))
    → EndsIn (Some (runs_from constants before left (map run_link (drop before lines)))) o s s
no_links constants before left lines o s all says =
    let line = links_lines before (unwrap_or left []) in
    subst (λ ls. EndsIn (Some (runs_from constants before left (map run_link ls))) o s s) (sym (drop_all before lines (omega (arith, all))))
    (work_ends (stop status.Ok line) o s (says_comes status.Ok line o refl says))
