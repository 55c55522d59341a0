-- What is found of a trace decides how the steps of `explain` go on.
use Rattle.std.proofs.Common.{◌≡◌, ℕ, List, ◌++◌, codes, Some, Result, IfOk, refl, sym, subst, ◌∙◌}
use Rattle.vm_field.specs.declared.refusal.Memory.{Memory}
use Rattle.buses.specs.declared.bus.Bus.{Bus}
use Rattle.air_kit.specs.Places.{Claim}
use Rattle.rpo_hash.specs.Constants.{constants_of}
use Rattle.statement.specs.Statements.{stated_of}
use Rattle.air_kit.specs.Acceptance.{AreZero, IsAccepted, IsFirstFault}
use Rattle.air_kit.specs.Traces.{claim_of}
use Rattle.air_kit.specs.declared.fault.Fault.{Fault}
use Rattle.air_kit.specs.declared.trace.Public.{Public}
use Rattle.air_kit.specs.declared.trace.Trace.{Trace}
use Rattle.checker.specs.Refusals.{IsRefusal}
use Rattle.checker.specs.declared.refusal.Refused.{Refused}
use Rattle.checker.specs.declared.refusal.Refused.TheVariants as why
use Rattle.vm_io.specs.Shelf.{ShelfState}
use Rattle.cmd_kit.specs.declared.outcome.Outcome.{Outcome}
use Rattle.cmd_kit.specs.declared.outcome.Outcome.TheVariants as outcome
use Rattle.cmd_kit.specs.declared.status.Status.TheVariants as status
use Rattle.cmd_kit.specs.CheckEnds.{IsVerdictOf}
use Rattle.cmd_kit.specs.Outcomes.{EndsIn, SaysLine, SaysStatus}
use Rattle.cmd_kit.specs.RefusalLines.{refused_line}
use Rattle.cmd_kit.proofs.OutcomeLemmas.{says_line}
use Rattle.cmd_kit.specs.Steps.{Verdict, accepted, refused, checked, stop}
use Rattle.cmd_kit.proofs.ServingLemmas.{goes_past_finding, same_again, says_comes, work_ends}
use Rattle.show_app.specs.ShowSteps.{IsNoFault, explained, explained_text, faulty_text, judging_steps, tuple_lines}

module _ (p : Public) (t : Trace) (o : Outcome) (s : ShelfState) where
  abbrev Ended : Type 0
  Ended = EndsIn (Some (judging_steps (constants_of p.params) t (stated_of p.statement))) o s s

  goes : (verdict : Verdict) → IsVerdictOf p t verdict → EndsIn (Some (explained (claim_of p t) t verdict)) o s s → Ended
  goes verdict is ends =
      goes_past_finding (checked (constants_of p.params) (stated_of p.statement) t) (explained (claim_of p t) t) verdict s
      (record { against = p; is_public = record { params = refl; statement = refl }; found = is }) o s ends

  -- a trace that is accepted
  pub accepted_ends : IsAccepted p t → SaysStatus o status.Ok (codes "accepted\n") → Ended
  accepted_ends is says = goes accepted is (work_ends (stop status.Ok (codes "accepted\n")) o s (says_comes status.Ok (codes "accepted\n") o refl says))

  -- one with an entry that is not 0
  pub faulty_ends : (fault : Fault) → IsFirstFault (claim_of p t) t fault → SaysStatus o status.Refused (faulty_text (claim_of p t) t fault)
      → Ended
  faulty_ends fault is says =
      goes (refused (why.Fault fault)) is
      (work_ends (stop status.Refused (faulty_text (claim_of p t) t fault)) o s
      (says_comes status.Refused (faulty_text (claim_of p t) t fault) o refl says))

  -- one that is refused otherwise, where want of memory is answered by itself
  pub otherwise_ends : (r : Refused) → IsRefusal p t r → IsNoFault r → (r ≡ why.Memory → o ≡ outcome.Memory)
      → SaysStatus o status.Refused (explained_text (claim_of p t) t r) → Ended
  otherwise_ends (why.Fault fault) is other wants says = absurd other
  otherwise_ends (why.Bus bus tuple asked given) is other wants says =
      let text = explained_text (claim_of p t) t (why.Bus bus tuple asked given) in
      goes (refused (why.Bus bus tuple asked given)) is
      (work_ends (stop status.Refused text) o s (says_comes status.Refused text o refl says))
  otherwise_ends why.Memory is other wants says =
      subst (λ x. EndsIn (Some (judging_steps (constants_of p.params) t (stated_of p.statement))) x s s) (sym (wants refl))
      (same_again (judging_steps (constants_of p.params) t (stated_of p.statement)) s)

-- where all entries are 0 there is no first one that is not
pub no_fault : (p : Public) (t : Trace) (r : Refused) → AreZero (claim_of p t) t → IsRefusal p t r → IsNoFault r
no_fault p t (why.Fault fault) zero is = is.nonzero (is.value_is ∙ zero fault.table fault.row fault.number is.within)
no_fault p t (why.Bus bus tuple asked given) zero is = tt
no_fault p t why.Memory zero is = tt

-- the lines of a bus whose tuple is lent
pub bus_says : (o : Outcome) (made : Result (List ℕ) Memory) (claim : Claim) (t : Trace) (r : Refused) (bus : Bus) (tuple lent : List ℕ)
    (asked given : ℕ) → r ≡ why.Bus bus tuple asked given → lent ≡ tuple → SaysLine o status.Refused made
    → IfOk made (λ line. line ≡ refused_line r ++ tuple_lines claim t bus lent)
    → SaysStatus o status.Refused (explained_text claim t r)
bus_says o made claim t r bus tuple lent asked given is same says made_is =
    subst (λ x. SaysStatus o status.Refused (explained_text claim t x)) (sym is)
    (says_line o status.Refused made (explained_text claim t (why.Bus bus tuple asked given)) says
    (subst (λ x. IfOk made (λ line. line ≡ refused_line x ++ tuple_lines claim t bus tuple)) is
    (subst (λ x. IfOk made (λ line. line ≡ refused_line r ++ tuple_lines claim t bus x)) same made_is)))
