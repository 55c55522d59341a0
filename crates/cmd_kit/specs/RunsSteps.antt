-- The steps of `runs`: link by link, each run from the stack that the one before left, and both files of each.
use Rattle.std.specs.Prelude.{ℕ, ◌+◌, ◌&&◌, not, nat_lt, Bool, true, false, if◌then◌else◌, List, [], ◌∷◌, ◌++◌, codes, decimal, length, map, get_or, Option, Some, None, unwrap_or}
use Rattle.std.specs.List.{flat_map}
use Rattle.block_tree.specs.Execution as execution
use Rattle.block_tree.specs.TreeView.{tree_of}
use Rattle.block_tree.specs.declared.program.Program.{Program}
use Rattle.decimal_text.specs.Decimals.{element_text}
use Rattle.vm_field.specs.Limits.{most_cycles, most_inputs}
use Rattle.vm_field.specs.Machine.{State}
use Rattle.run_chain.specs.Names as names
use Rattle.statement.specs.Inputs.{Given}
use Rattle.statement.specs.declared.refusal.TextCause.TheVariants.{Count}
use Rattle.fill_files.specs.RunFiles.{claim_of_run}
use Rattle.cmd_kit.specs.declared.status.Status.TheVariants as status
use Rattle.cmd_kit.specs.Asked.{Outputs}
use Rattle.cmd_kit.specs.Links.{broken, line_of_link, list_steps}
use Rattle.cmd_kit.specs.Malformed.{bad_inputs}
use Rattle.cmd_kit.specs.Starts.{params_steps, source_steps, inputs_steps}
use Rattle.cmd_kit.specs.Steps.{SourceFile, stop, tables_of, statement_of, course, Course, ran, stopped, Steps, writing, asking, ending}

-- the names of a link: its source, its inputs, and the files that are written of its run
pub record RunLink : Type 0 where
  pub source : List ℕ
  pub inputs : List ℕ
  pub outputs : Outputs

abbrev pub run_link : List (List ℕ) → RunLink
run_link names = record {
  source = get_or names 0 [];
  inputs = get_or names 1 [];
  outputs = record { table = get_or names 2 []; statement = get_or names 3 [] };
}

-- the words behind which the list of runs is read
abbrev pub runs_given : List ℕ → List ℕ → names.Given
runs_given params list = record { params = params; list = list; evidence = None }

abbrev pub has_no_cells : List ℕ → Bool
has_no_cells [] = true
has_no_cells (cell ∷ cells) = false

-- The first run starts with the stack of its inputs. The inputs of a later one have none: it starts with what the one before left.
abbrev pub given_steps : List ℕ → Option (List ℕ) → (Given → Steps) → Given → Steps
given_steps name None next given = next given
given_steps name (Some left) next given =
    if has_no_cells given.stack then next (record { stack = left; advice = given.advice }) else ending (bad_inputs name Count)

abbrev pub is_none_left : List RunLink → Bool
is_none_left [] = true
is_none_left (link ∷ links) = false

-- A run that left more than a run may begin with breaks the chain, where another is to go on from it.
abbrev pub left_steps : ℕ → Bool → (List ℕ → Steps) → List ℕ → Steps
left_steps number final next left = if not final && nat_lt most_inputs (length left) then ending (broken number) else next left

-- Both files of a run are written before anything behind it is looked at.
abbrev pub saved_steps : Outputs → List ℕ → Given → Program → State → List execution.Event → Steps → Steps
saved_steps outputs constants given program last log next =
    writing outputs.table (tables_of constants program.kernel last log) (λ _.
    writing outputs.statement (statement_of (claim_of_run constants (tree_of program.tree) program.kernel given.stack last.core.stack)) (λ _.
    next))

-- how the source of a link runs, behind so many links, decides
abbrev pub link_course_steps : List ℕ → ℕ → Outputs → (List ℕ → Steps) → Given → Course → Steps
link_course_steps constants before outputs next given (ran program last log) =
    saved_steps outputs constants given program last log (next last.core.stack)
link_course_steps constants before outputs next given (stopped a) = ending (stop a.status (line_of_link (before + 1) a.line))

abbrev pub link_running_steps : List ℕ → ℕ → Outputs → (List ℕ → Steps) → SourceFile → Given → Steps
link_running_steps constants before outputs next source given =
    asking (course constants source None given most_cycles) (link_course_steps constants before outputs next given)

-- one link, behind so many, the last of which left this
abbrev pub run_link_steps : List ℕ → ℕ → Option (List ℕ) → RunLink → (List ℕ → Steps) → Steps
run_link_steps constants before left link next =
    source_steps link.source (λ source. inputs_steps link.inputs (given_steps link.inputs left
    (link_running_steps constants before link.outputs next source)))

-- the number of the runs, and the whole stack that the last one left
abbrev pub links_lines : ℕ → List ℕ → List ℕ
links_lines number outputs = codes "links " ++ decimal number ++ codes "\noutputs" ++ flat_map element_text outputs ++ codes "\n"

-- the links behind so many, the last of which left this
abbrev pub runs_from : List ℕ → ℕ → Option (List ℕ) → List RunLink → Steps
runs_from constants before left [] = ending (stop status.Ok (links_lines before (unwrap_or left [])))
runs_from constants before left (link ∷ links) =
    run_link_steps constants before left link
    (left_steps (before + 1) (is_none_left links) (λ outputs. runs_from constants (before + 1) (Some outputs) links))

abbrev pub runs_steps : List ℕ → List ℕ → Steps
runs_steps params list =
    params_steps params (λ constants. list_steps (runs_given params list) (λ lines. runs_from constants 0 None (map run_link lines)))
