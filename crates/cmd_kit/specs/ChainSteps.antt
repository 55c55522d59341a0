-- The steps of `chain`: link by link, each statement against the one before it, and each trace against its statement.
use Rattle.std.specs.Prelude.{ℕ, ◌+◌, Bool, true, if◌then◌else◌, List, [], ◌∷◌, ◌++◌, length, map, get_or, Option, Some, None}
use Rattle.std.specs.Str.{bytes_eq}
use Rattle.air_kit.specs.declared.trace.Trace.{Trace}
use Rattle.run_chain.specs.Following.{first_stack}
use Rattle.run_chain.specs.Names.{Given}
use Rattle.statement.specs.Statements.{Stated}
use Rattle.cmd_kit.specs.declared.status.Status.TheVariants as status
use Rattle.cmd_kit.specs.ChainEnds.{accepted_links_line}
use Rattle.cmd_kit.specs.Links.{broken, line_of_link, list_steps}
use Rattle.cmd_kit.specs.RefusalLines.{refused_line}
use Rattle.cmd_kit.specs.Starts.{params_steps, trace_steps, statement_steps}
use Rattle.cmd_kit.specs.Steps.{stop, chain_evidence, checked, Judged, Verdict, accepted, refused, Steps, writing, asking, ending}

-- the names of a link: its table file and its statement
pub record ChainLink : Type 0 where
  pub table : List ℕ
  pub statement : List ℕ

abbrev pub chain_link : List (List ℕ) → ChainLink
chain_link names = record { table = get_or names 0 []; statement = get_or names 1 [] }

-- the words behind which the list of a chain is read
abbrev pub chain_given : List ℕ → List ℕ → List ℕ → Given
chain_given params list evidence = record { params = params; list = list; evidence = Some evidence }

-- What the link before left is the stack with which a run on the claim's inputs starts. The first link follows none.
abbrev pub follows_on : Option (List ℕ) → Stated → Bool
follows_on None claim = true
follows_on (Some left) claim = bytes_eq left (first_stack claim.inputs)

-- a link that is accepted, behind so many, is gone on from; one that is refused is refused by name
abbrev pub judged_steps : ℕ → Stated → Trace → (Judged → Steps) → Verdict → Steps
judged_steps before claim trace next accepted = next (record { claim = claim; trace = trace })
judged_steps before claim trace next (refused why) = ending (stop status.Refused (line_of_link (before + 1) (refused_line why)))

abbrev pub claimed_steps : List ℕ → ℕ → Option (List ℕ) → (Judged → Steps) → Trace → Stated → Steps
claimed_steps constants before left next trace claim =
    if follows_on left claim then asking (checked constants claim trace) (judged_steps before claim trace next) else ending (broken before)

-- one link, behind so many, the last of which left this
abbrev pub link_steps : List ℕ → ℕ → Option (List ℕ) → ChainLink → (Judged → Steps) → Steps
link_steps constants before left link next =
    trace_steps link.table (λ trace. statement_steps link.statement (claimed_steps constants before left next trace))

-- the links behind those that were judged
abbrev pub chain_from : List ℕ → List ℕ → List Judged → Option (List ℕ) → List ChainLink → Steps
chain_from constants evidence judged left [] =
    writing evidence (chain_evidence constants judged) (λ _. ending (stop status.Ok (accepted_links_line (length judged))))
chain_from constants evidence judged left (link ∷ links) =
    link_steps constants (length judged) left link (λ it. chain_from constants evidence (judged ++ it ∷ []) (Some it.claim.outputs) links)

abbrev pub chain_steps : List ℕ → List ℕ → List ℕ → Steps
chain_steps params list evidence =
    params_steps params (λ constants. list_steps (chain_given params list evidence) (λ lines.
    chain_from constants evidence [] None (map chain_link lines)))
