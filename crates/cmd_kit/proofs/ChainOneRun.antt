-- The runs that are the evidence of a chain are one run through all of their trees.
use Rattle.cmd_kit.proofs.Words.{ℕ, List, [], ◌∷◌, Some, None, refl, sym, subst, tree_of, Trace, constants_of, first_stack, Stated, stated_of, Files}
use Rattle.cmd_kit.proofs.Words.{ChainLink, IsEvidenceFor, LinksSay, Judged}
use Rattle.block_tree.specs.Trees as trees
use Rattle.block_tree.specs.declared.evidence.Evidence.{Evidence}
use Rattle.block_tree.specs.declared.evidence.Evidence.TheVariants.{Run, Pair}
use Rattle.block_tree.specs.declared.tree.Tree.{Tree}
use Rattle.run_chain.specs.Chains.{Ends, Leg, Link, RunsThrough, fresh}
use Rattle.run_chain.proofs.ChainLemmas.{chain-is-run}
use Rattle.cmd_kit.specs.ChainEnds.{AreEvidence}
use Rattle.cmd_kit.specs.ChainLaws.{AreRuns, legs_of, stack_before, stack_behind}

-- what is run at a link, and from the stack with which its inputs start to its outputs
abbrev leg : Stated → ℕ → trees.Tree → List ℕ → Leg
leg claim cycles tree tape = record { kernel = claim.kernel; cycles = cycles; tree = tree; tape = tape }

abbrev IsRunOf : List ℕ → Stated → ℕ → trees.Tree → List ℕ → Type 0
IsRunOf constants claim cycles tree tape =
    Ends constants (leg claim cycles tree tape) (fresh (first_stack claim.inputs) tape) claim.outputs

-- the evidence of one link
one_leg : (constants : List ℕ) (claim : Stated) (trace : Trace) (cycles : ℕ) (tree : Tree) (tape : List ℕ)
    → IsEvidenceFor constants claim trace (Run cycles tree tape) → IsRunOf constants claim cycles (tree_of tree) tape
one_leg constants claim trace cycles tree tape e =
    let p = e.against in
    let run = e.is_evidence in
    let link : Link = record { statement = p.statement; cycles = cycles; tree = tree_of tree; tape = tape } in
    let through = chain-is-run (constants_of p.params) link [] tt
    (record { state = run.state; events = run.events; done = run.done; stands = run.stands }, tt) in
    let ends : IsRunOf (constants_of p.params) (stated_of p.statement) cycles (tree_of tree) tape
    = subst (Ends (constants_of p.params) (leg (stated_of p.statement) cycles (tree_of tree) tape) (fresh (first_stack p.statement.inputs) tape))
    through.2 through.1 in
    subst (λ c. IsRunOf constants c cycles (tree_of tree) tape) e.is_public.statement
    (subst (λ k. IsRunOf k (stated_of p.statement) cycles (tree_of tree) tape) e.is_public.params ends)

module _ (m : Files) (constants : List ℕ) where
  -- behind links that left this
  later_run : (links : List ChainLink) (judged : List Judged) (evidence : List Evidence) (left : List ℕ) → LinksSay m constants (Some left) links judged
      → AreEvidence constants judged evidence → AreRuns evidence → RunsThrough constants (legs_of judged evidence) left (stack_behind left judged)
  later_run [] [] [] left say are runs = refl
  later_run [] [] (e ∷ later) left say are runs = absurd are
  later_run [] (it ∷ judged) evidence left say are runs = absurd say
  later_run (link ∷ links) [] evidence left say are runs = absurd say
  later_run (link ∷ links) (it ∷ judged) [] left say are runs = absurd are
  later_run (link ∷ links) (it ∷ judged) (Pair first second ∷ later) left say are runs = absurd runs
  later_run (link ∷ links) (it ∷ judged) (Run cycles tree tape ∷ later) left say are runs =
      let ends = one_leg constants it.claim it.trace cycles tree tape are.0 in
      let from : Ends constants (leg it.claim cycles (tree_of tree) tape) (fresh left tape) it.claim.outputs
      = subst (λ s. Ends constants (leg it.claim cycles (tree_of tree) tape) (fresh s tape) it.claim.outputs) (sym say.0.follows) ends in
      (it.claim.outputs, from, later_run links judged later it.claim.outputs say.1 are.1 runs)

  pub one_run : (links : List ChainLink) (judged : List Judged) (evidence : List Evidence) → LinksSay m constants None links judged
      → AreEvidence constants judged evidence → AreRuns evidence
      → RunsThrough constants (legs_of judged evidence) (stack_before judged) (stack_behind [] judged)
  one_run [] [] [] say are runs = refl
  one_run [] [] (e ∷ later) say are runs = absurd are
  one_run [] (it ∷ judged) evidence say are runs = absurd say
  one_run (link ∷ links) [] evidence say are runs = absurd say
  one_run (link ∷ links) (it ∷ judged) [] say are runs = absurd are
  one_run (link ∷ links) (it ∷ judged) (Pair first second ∷ later) say are runs = absurd runs
  one_run (link ∷ links) (it ∷ judged) (Run cycles tree tape ∷ later) say are runs =
      (it.claim.outputs, one_leg constants it.claim it.trace cycles tree tape are.0, later_run links judged later it.claim.outputs say.1 are.1 runs)
