-- What `check` finds of a trace decides how its steps go on.
use Rattle.cmd_check.proofs.Words.{◌≡◌, ℕ, List, Some, refl, subst, sym, constants_of, Evidence, stated_of, evidence_text, IsAccepted, Public, Trace}
use Rattle.cmd_check.proofs.Words.{IsRefusal, Refused, refused_line, ShelfState, Outcome, IsRight, EndsIn, SaysStatus, Steps, accepted, refused, checked}
use Rattle.cmd_check.proofs.Words.{ending, evidence_for, telling, goes_past_finding, same_again, says_comes, says_ends, work_ends}
use Rattle.checker.specs.declared.refusal.Refused.TheVariants as why
use Rattle.tree_merge.specs.Evidences.{IsEvidence}
use Rattle.cmd_kit.specs.declared.outcome.Outcome.TheVariants as outcome
use Rattle.cmd_kit.specs.declared.status.Status.TheVariants as status
use Rattle.cmd_kit.specs.CheckEnds.{IsEvidenceFor, IsWhy, accepted_line, refusal}
use Rattle.cmd_kit.specs.CheckSteps.{found_steps, judging_steps}

-- what is shown against a statement and constants is shown of what they say
evidence_for_public : (p : Public) (t : Trace) (e : Evidence) → IsEvidence p t e → IsEvidenceFor (constants_of p.params) (stated_of p.statement) t e
evidence_for_public p t e is = record { against = p; is_public = record { params = refl; statement = refl }; is_evidence = is }

-- the text of evidence is right
pub evidence_is_right : (p : Public) (t : Trace) (e : Evidence) (bytes : List ℕ) → IsEvidence p t e → bytes ≡ evidence_text e
    → IsRight (evidence_for (constants_of p.params) (stated_of p.statement) t) bytes
evidence_is_right p t e bytes is text = record { evidence = e; is_evidence = evidence_for_public p t e is; text = text }

-- it is told which evidence was written
pub told_ends : (p : Public) (t : Trace) (e : Evidence) (bytes : List ℕ) (o : Outcome) (s : ShelfState) → IsEvidence p t e → bytes ≡ evidence_text e
    → SaysStatus o status.Ok (accepted_line e) → EndsIn (Some (ending (telling (constants_of p.params) (stated_of p.statement) t bytes))) o s s
told_ends p t e bytes o s is text says =
    let end = telling (constants_of p.params) (stated_of p.statement) t bytes in
    work_ends end o s (says_ends end status.Ok (accepted_line e) o refl
    (record { evidence = e; is_evidence = evidence_for_public p t e is; text = text; is = refl }) says)

-- a trace that is accepted
pub accepted_goes : (p : Public) (t : Trace) (name : List ℕ) (o : Outcome) (old new : ShelfState) → IsAccepted p t
    → EndsIn (Some (found_steps name (constants_of p.params) (stated_of p.statement) t accepted)) o old new
    → EndsIn (Some (judging_steps name (constants_of p.params) t (stated_of p.statement))) o old new
accepted_goes p t name o old new is ends =
    goes_past_finding (checked (constants_of p.params) (stated_of p.statement) t)
    (found_steps name (constants_of p.params) (stated_of p.statement) t) accepted old
    (record { against = p; is_public = record { params = refl; statement = refl }; found = is }) o new ends

-- one that is refused, where want of memory is answered by itself
pub refused_ends : (p : Public) (t : Trace) (name : List ℕ) (r : Refused) (o : Outcome) (s : ShelfState) → IsRefusal p t r
    → (r ≡ why.Memory → o ≡ outcome.Memory) → SaysStatus o status.Refused (refused_line r)
    → EndsIn (Some (judging_steps name (constants_of p.params) t (stated_of p.statement))) o s s
refused_ends p t name r o s is wants says = by r is wants says
  where
    steps : Steps
    steps = judging_steps name (constants_of p.params) t (stated_of p.statement)

    goes : (r : Refused) → IsWhy p t r → SaysStatus o status.Refused (refused_line r) → EndsIn (Some steps) o s s
    goes r is says =
        goes_past_finding (checked (constants_of p.params) (stated_of p.statement) t)
        (found_steps name (constants_of p.params) (stated_of p.statement) t)
        (refused r) s (record { against = p; is_public = record { params = refl; statement = refl }; found = is }) o s
        (work_ends (refusal r) o s (says_comes status.Refused (refused_line r) o refl says))

    by : (r : Refused) → IsRefusal p t r → (r ≡ why.Memory → o ≡ outcome.Memory) → SaysStatus o status.Refused (refused_line r) → EndsIn (Some steps) o s s
    by (why.Fault f) is wants says = goes (why.Fault f) is says
    by (why.Bus bus tuple asked given) is wants says = goes (why.Bus bus tuple asked given) is says
    by why.Memory is wants says = subst (λ x. EndsIn (Some steps) x s s) (sym (wants refl)) (same_again steps s)
