-- Which files each command writes.
use Rattle.cmd_kit.proofs.Words.{ℕ, suc, ◌+◌, Bool, true, false, if◌then◌else◌, List, [], ◌∷◌, ◌++◌, length, rules, map, Option, Some, None, refl, sym}
use Rattle.cmd_kit.proofs.Words.{subst, Contains, Result, Ok, Err, arith, AllByRecursion, bytes_eq, tree_of, parameters_of, walk_tree, Links}
use Rattle.cmd_kit.proofs.Words.{links_of, Given, inputs_of, Stated, statement_of, Trace, trace_of, FileError, Files, MadeNames, Outputs, hash}
use Rattle.cmd_kit.proofs.Words.{assemble, check, check_source, make, chain, runs, member, Build, Course, Verdict, SourceFile, Judged, Steps}
use Rattle.cmd_kit.proofs.Words.{asking, ending, accepted, built, ran, checked, with_params, with_inputs, with_trace, with_statement, params_steps}
use Rattle.cmd_kit.proofs.Words.{kernel_steps, inputs_steps, trace_steps, statement_steps}
use Rattle.cmd_kit.proofs.Words.{course_steps, found_steps, built_steps}
use Rattle.cmd_kit.proofs.Words.{held_steps, sourced_steps, ran_line, made_course_steps}
use Rattle.cmd_kit.proofs.Words.{member_line, broken, with_lines, ChainLink, chain_from, chain_given, chain_link}
use Rattle.cmd_kit.proofs.Words.{follows_on, judged_steps, link_steps, RunLink, given_steps, has_no_cells, is_none_left}
use Rattle.cmd_kit.proofs.Words.{left_steps, link_course_steps, link_running_steps, run_link, run_link_steps, runs_from, runs_given, runs_steps}
use Rattle.cmd_kit.proofs.Words.{reading, steps_of, most_params_bytes, most_inputs_bytes, most_table_bytes, most_statement_bytes, most_list_bytes}
use Rattle.block_tree.specs.Trees.{Tree, tree_digest}
use Rattle.run_chain.specs.Names as names
use Rattle.table_file.specs.declared.cause.FileError.TheVariants as file_error
use Rattle.table_file.specs.declared.cause.FileError.TheVariants.{Bad}
use Rattle.cmd_kit.specs.Asked.{Asked, nothing, run}
use Rattle.cmd_kit.specs.Steps.{refused, unbuilt, stopped}
use Rattle.cmd_kit.specs.Laws.{WritesOnly, CommandsWrite, listed_outputs, names_of_outputs, outputs_of}

-- Steps that begin with a file write what those behind it do.
module _ (outputs : List (List ℕ)) (m : Files) where
  abbrev Only : Steps → Type 0
  Only steps = WritesOnly outputs steps m

  only_behind : {X E : Type 0} (says : List ℕ → Result X E) (after : Result X E → Steps) (name : List ℕ) (most : ℕ) → ((x : X) → Only (after (Ok x)))
      → ((e : E) → Only (after (Err e))) → Only (reading name most (λ bytes. after (says bytes)))
  only_behind {X} {E} says after name most only bad bytes held = by (says bytes)
    where
      by : (read : Result X E) → Only (after read)
      by (Ok x) = only x
      by (Err e) = bad e

  params_only : (name : List ℕ) (next : List ℕ → Steps) → ((constants : List ℕ) → Only (next constants)) → Only (params_steps name next)
  params_only name next only = only_behind parameters_of (with_params name next) name most_params_bytes only (λ e. tt)

  kernel_only : (kernel : Option (List ℕ)) (next : Option SourceFile → Steps) → ((k : Option SourceFile) → Only (next k)) → Only (kernel_steps kernel next)
  kernel_only None next only = only None
  kernel_only (Some name) next only = λ text held. only (Some (record { name = name; text = text }))

  inputs_only : (name : List ℕ) (next : Given → Steps) → ((given : Given) → Only (next given)) → Only (inputs_steps name next)
  inputs_only name next only = only_behind inputs_of (with_inputs name next) name most_inputs_bytes only (λ e. tt)

  table_only : (name : List ℕ) (next : Trace → Steps) → ((t : Trace) → Only (next t)) → Only (trace_steps name next)
  table_only name next only = only_behind trace_of (with_trace name next) name most_table_bytes only bad
    where
      bad : (e : FileError) → Only (with_trace name next (Err e))
      bad (Bad offset cause) = tt
      bad file_error.Memory = tt

  statement_only : (name : List ℕ) (next : Stated → Steps) → ((claim : Stated) → Only (next claim)) → Only (statement_steps name next)
  statement_only name next only = only_behind statement_of (with_statement name next) name most_statement_bytes only (λ e. tt)

  either_only : (b : Bool) (x y : Steps) → Only x → Only y → Only (if b then x else y)
  either_only true x y h k = h
  either_only false x y h k = k

-- what is found of a trace decides whether evidence is written
only_evidence : (name constants : List ℕ) (claim : Stated) (t : Trace) (finding : Verdict) (m : Files)
    → WritesOnly (name ∷ []) (found_steps name constants claim t finding) m
only_evidence name constants claim t accepted m = (search rules, λ bytes. tt)
only_evidence name constants claim t (refused why) m = tt

-- a run that came to its end has its tables and its statement written
only_of_run : (outputs : Outputs) (constants : List ℕ) (given : Given) (course : Course) (m : Files)
    → WritesOnly (outputs.table ∷ outputs.statement ∷ []) (course_steps outputs constants given course) m
only_of_run outputs constants given (ran program last log) m = ((0, omega arith, refl), λ _. ((1, omega arith, refl), λ _. tt))
only_of_run outputs constants given (stopped a) m = tt

-- so have the source and the inputs that were made, where their run did
only_of_make : (names : MadeNames) (turns : ℕ) (course : Course) (m : Files)
    → WritesOnly (names.source ∷ names.inputs ∷ []) (made_course_steps names turns course) m
only_of_make names turns (ran program last log) m = ((0, omega arith, refl), λ _. ((1, omega arith, refl), λ _. tt))
only_of_make names turns (stopped a) m = tt

module _ (name : List ℕ) (m : Files) where
  -- so it does where a tree stands beside it
  only_for_tree : (constants : List ℕ) (claim : Stated) (t : Trace) (tree : Tree) (line : List ℕ) (finding : Verdict)
      → WritesOnly (name ∷ []) (held_steps name constants claim t tree line finding) m
  only_for_tree constants claim t tree line accepted =
      either_only (name ∷ []) m (bytes_eq claim.digest (tree_digest constants tree)) (sourced_steps name constants claim t tree line) _
      (search rules, λ bytes. tt) tt
  only_for_tree constants claim t tree line (refused why) = tt

  only_of_build : (constants : List ℕ) (claim : Stated) (t : Trace) (found : Build)
      → WritesOnly (name ∷ []) (built_steps name constants claim t found) m
  only_of_build constants claim t (built program) = λ finding. only_for_tree constants claim t (tree_of program.tree) ran_line finding
  only_of_build constants claim t (unbuilt a) = tt

  -- the evidence of a chain is written behind its last link
  only_of_judged : (before : ℕ) (claim : Stated) (t : Trace) (next : Judged → Steps) → ((judged : Judged) → Only (name ∷ []) m (next judged))
      → (finding : Verdict) → Only (name ∷ []) m (judged_steps before claim t next finding)
  only_of_judged before claim t next only accepted = only (record { claim = claim; trace = t })
  only_of_judged before claim t next only (refused why) = tt

  only_of_link : (constants : List ℕ) (before : ℕ) (left : Option (List ℕ)) (link : ChainLink) (next : Judged → Steps)
      → ((judged : Judged) → Only (name ∷ []) m (next judged)) → Only (name ∷ []) m (link_steps constants before left link next)
  only_of_link constants before left link next only =
      table_only (name ∷ []) m _ _ (λ t. statement_only (name ∷ []) m _ _ (λ claim.
      either_only (name ∷ []) m (follows_on left claim) (asking (checked constants claim t) (judged_steps before claim t next)) (ending (broken before))
      (only_of_judged before claim t next only) tt))

  only_of_chain : (constants : List ℕ) (links : List ChainLink) (judged : List Judged) (left : Option (List ℕ))
      → Only (name ∷ []) m (chain_from constants name judged left links)
  only_of_chain constants [] judged left = (search rules, λ bytes. tt)
  only_of_chain constants (link ∷ links) judged left =
      only_of_link constants (length judged) left link (λ it. chain_from constants name (judged ++ it ∷ []) (Some it.claim.outputs) links)
      (λ it. only_of_chain constants links (judged ++ it ∷ []) (Some it.claim.outputs))

-- The files of runs are written link by link, under the names that the list gives.
module _ (outputs : List (List ℕ)) where
  abbrev IsNamed : RunLink → Type 0
  IsNamed link = Contains outputs link.outputs.table × Contains outputs link.outputs.statement

  module _ (constants : List ℕ) (before : ℕ) (link : RunLink) (next : List ℕ → Steps) (named : IsNamed link)
      (only : (left : List ℕ) (n : Files) → WritesOnly outputs (next left) n) where
    only_of_course : (given : Given) (m : Files) (course : Course)
        → WritesOnly outputs (link_course_steps constants before link.outputs next given course) m
    only_of_course given m (ran program last log) = (named.0, λ table. (named.1, λ statement. only last.core.stack _))
    only_of_course given m (stopped a) = tt

    only_of_begin : (left : Option (List ℕ)) (source : SourceFile) (given : Given) (m : Files)
        → WritesOnly outputs (given_steps link.inputs left (link_running_steps constants before link.outputs next source) given) m
    only_of_begin None source given m = λ course. only_of_course given m course
    only_of_begin (Some left) source given m =
        either_only outputs m (has_no_cells given.stack) _ _
        (λ course. only_of_course (record { stack = left; advice = given.advice }) m course) tt

    only_of_run_link : (left : Option (List ℕ)) (m : Files) → WritesOnly outputs (run_link_steps constants before left link next) m
    only_of_run_link left m text held =
        inputs_only outputs m _ _ (λ given. only_of_begin left (record { name = link.source; text = text }) given m)

  only_of_runs : (constants : List ℕ) (links : List RunLink) (before : ℕ) (left : Option (List ℕ)) (m : Files) → AllByRecursion IsNamed links
      → WritesOnly outputs (runs_from constants before left links) m
  only_of_runs constants [] before left m named = tt
  only_of_runs constants (link ∷ links) before left m named =
      let later : List ℕ → Steps = λ it. runs_from constants (before + 1) (Some it) links in
      only_of_run_link constants before link (left_steps (before + 1) (is_none_left links) later) named.0
      (λ it n. either_only outputs n _ (ending (broken (before + 1))) (later it) tt (only_of_runs constants links (before + 1) (Some it) n named.1)) left m

-- names in front take no name away
one_more_name : (name : List ℕ) (outputs : List (List ℕ)) (links : List RunLink) → AllByRecursion (IsNamed outputs) links
    → AllByRecursion (IsNamed (name ∷ outputs)) links
one_more_name name outputs [] named = tt
one_more_name name outputs (link ∷ links) named =
    ((behind named.0.0, behind named.0.1), one_more_name name outputs links named.1)
  where
    behind : {x : List ℕ} → Contains outputs x → Contains (name ∷ outputs) x
    behind (i, within, is) = (suc i, omega (arith, within), is)

lines_are_named : (lines : List (List (List ℕ))) → AllByRecursion (IsNamed (names_of_outputs (Ok lines))) (map run_link lines)
lines_are_named [] = tt
lines_are_named (names ∷ lines) =
    let link = run_link names in (
      ((0, omega arith, refl), (1, omega arith, refl)),
      one_more_name link.outputs.table (link.outputs.statement ∷ names_of_outputs (Ok lines)) (map run_link lines)
          (one_more_name link.outputs.statement (names_of_outputs (Ok lines)) (map run_link lines) (lines_are_named lines)),
    )

runs_write : (params list : List ℕ) (m : Files) → WritesOnly (outputs_of m (runs params list)) (runs_steps params list) m
runs_write params list m =
    params_only outputs m _ _ (λ constants bytes held.
    subst (λ o. WritesOnly (listed_outputs params list o) (with_lines list (from constants) (links_of given bytes)) m) (sym held)
    (behind_lines constants (links_of given bytes)))
  where
    given : names.Given
    given = runs_given params list

    outputs : List (List ℕ)
    outputs = outputs_of m (runs params list)

    from : List ℕ → List (List (List ℕ)) → Steps
    from constants lines = runs_from constants 0 None (map run_link lines)

    behind_lines : (constants : List ℕ) (read : Links) → WritesOnly (names_of_outputs read) (with_lines list (from constants) read) m
    behind_lines constants (Ok lines) =
        only_of_runs (names_of_outputs (Ok lines)) constants (map run_link lines) 0 None m (lines_are_named lines)
    behind_lines constants (Err fault) = tt

abbrev OnlyAs : List (List ℕ) → Option Steps → Files → Type 0
OnlyAs outputs None m = Unit {0}
OnlyAs outputs (Some steps) m = WritesOnly outputs steps m

writes : (c : Asked) (m : Files) → OnlyAs (outputs_of m c) (steps_of c) m
writes nothing m = tt
writes (hash params numbers) m = params_only [] m _ _ (λ constants text held. tt)
writes (assemble params source kernel) m = params_only [] m _ _ (λ constants text held. kernel_only [] m kernel _ (λ k. tt))
writes (run params source inputs outputs kernel limit) m =
    let names = outputs.table ∷ outputs.statement ∷ [] in
    params_only names m _ _ (λ constants text held. inputs_only names m _ _ (λ given. kernel_only names m kernel _
    (λ k course. only_of_run outputs constants given course m)))
writes (check params table statement evidence) m =
    params_only (evidence ∷ []) m _ _ (λ constants. table_only (evidence ∷ []) m _ _ (λ t. statement_only (evidence ∷ []) m _ _
    (λ claim finding. only_evidence evidence constants claim t finding m)))
writes (check_source params table statement evidence source kernel) m =
    params_only (evidence ∷ []) m _ _ (λ constants. table_only (evidence ∷ []) m _ _ (λ t. statement_only (evidence ∷ []) m _ _
    (λ claim text held. kernel_only (evidence ∷ []) m kernel _ (λ k found. only_of_build evidence m constants claim t found))))
writes (make params turns names) m =
    params_only (names.source ∷ names.inputs ∷ []) m _ _ (λ constants course. only_of_make names turns course m)
writes (chain params list evidence) m =
    params_only (evidence ∷ []) m _ _ (λ constants. only_behind (evidence ∷ []) m (links_of (chain_given params list evidence)) (with_lines list _) list
    most_list_bytes (λ lines. only_of_chain evidence m constants (map chain_link lines) [] None) (λ e. tt))
writes (runs params list) m = runs_write params list m
writes (member params table statement evidence depth) m =
    params_only (evidence ∷ []) m _ _ (λ constants. table_only (evidence ∷ []) m _ _ (λ t. statement_only (evidence ∷ []) m _ _
    (λ claim finding. only_for_tree evidence m constants claim t (walk_tree depth) (member_line claim) finding)))

pub commands_write : CommandsWrite
commands_write c steps m is = subst (λ o. OnlyAs (outputs_of m c) o m) is (writes c m)
