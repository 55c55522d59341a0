-- A chain over good files, walked link by link to its end.
use Rattle.cmd_kit.proofs.Words.{◌≡◌, ℕ, true, if◌then◌else◌, List, [], ◌∷◌, ◌++◌, length, map, Option, Some, None, refl, ap, subst}
use Rattle.cmd_kit.proofs.Words.{bytes_eq-Decides, first_stack, Stated, Files, Answer, ChainLink, chain_from, chain_given, chain_link, chain_steps}
use Rattle.cmd_kit.proofs.Words.{follows_on, judged_steps, link_steps, FollowsOn, LinkSays, LinksSay, IsGoodChain}
use Rattle.cmd_kit.proofs.Words.{broken}
use Rattle.cmd_kit.proofs.Words.{checked, Judged, Steps, asking, ending}
use Rattle.cmd_kit.specs.declared.status.Status.TheVariants as status
use Rattle.cmd_kit.proofs.Walks.{Went, ended, list_good, params_good, statement_good, table_good, verdict_good, was_written}

-- what the test of a claim says
pub follows_by_test : (left : Option (List ℕ)) (claim : Stated) → follows_on left claim ≡ true → FollowsOn left claim
follows_by_test None claim is = tt
follows_by_test (Some left) claim is = (bytes_eq-Decides left (first_stack claim.inputs)).0 is

pub test_of_follows : (left : Option (List ℕ)) (claim : Stated) → FollowsOn left claim → follows_on left claim ≡ true
test_of_follows None claim is = refl
test_of_follows (Some left) claim is = (bytes_eq-Decides left (first_stack claim.inputs)).1 is

module _ {a : Answer} {new : Option Files} {m : Files} where
  -- a link whose files are good
  link_read : (constants : List ℕ) (before : ℕ) (left : Option (List ℕ)) (link : ChainLink) (judged : Judged) (next : Judged → Steps)
      → LinkSays m constants left link judged → Went a new (link_steps constants before left link next) m → Went a new (next judged) m
  link_read constants before left link judged next says goes =
      let judging : Steps = asking (checked constants judged.claim judged.trace) (judged_steps before judged.claim judged.trace next) in
      verdict_good says.found
      (subst (λ b. Went a new (if b then judging else ending (broken before)) m) (test_of_follows left judged.claim says.follows)
      (statement_good _ says.statement_says (table_good _ says.table_says goes)))

  links_read : (constants evidence : List ℕ) (links : List ChainLink) (before : List Judged) (left : Option (List ℕ)) (judged : List Judged)
      → LinksSay m constants left links judged → Went a new (chain_from constants evidence before left links) m → a.status ≡ status.Ok
  links_read constants evidence [] before left [] say goes = ap (λ (b : Answer). b.status) (ended (was_written goes).2).0
  links_read constants evidence [] before left (it ∷ later) say goes = absurd say
  links_read constants evidence (link ∷ links) before left [] say goes = absurd say
  links_read constants evidence (link ∷ links) before left (it ∷ later) say goes =
      let next : Judged → Steps = λ j. chain_from constants evidence (before ++ j ∷ []) (Some j.claim.outputs) links in
      links_read constants evidence links (before ++ it ∷ []) (Some it.claim.outputs) later say.1
      (link_read constants (length before) left link it next say.0 goes)

  pub chained_well : (params list evidence : List ℕ) → IsGoodChain m params list evidence → Went a new (chain_steps params list evidence) m
      → a.status ≡ status.Ok
  chained_well params list evidence h goes =
      links_read h.constants evidence (map chain_link h.lines) [] None h.judged h.links_say
      (list_good (chain_given params list evidence) _ h.list_says (params_good _ h.params_say goes))
