-- How the steps of `check --source` go on and end behind their reads. What follows a program is said for any tree.
use Rattle.cmd_check.proofs.Words.{◌≡◌, ℕ, List, Option, Some, Ok, refl, sym, subst, constants_of, Program, Stated, stated_of, IsAccepted, Public, Trace}
use Rattle.cmd_check.proofs.Words.{IsRefusal, Refused, ShelfState, Outcome, building_steps, built_steps, held_steps, sourced_steps, IsRight, EndsIn}
use Rattle.cmd_check.proofs.Words.{SaysStatus, refused_line, SourceFile, stop, Steps, accepted, refused, checked, asking, ending, source_evidence_for}
use Rattle.cmd_check.proofs.Words.{telling_source, goes_past_finding, same_again, says_comes, says_ends, work_ends, EndsApart, Unbuilt}
use Rattle.std.proofs.Common.{Bool, true, false, if◌then◌else◌, Err}
use Rattle.std.specs.Str.{bytes_eq}
use Rattle.std.proofs.lemmas.Slice.Eq.{bytes_eq-Decides}
use Rattle.block_tree.specs.Trees.{Tree, tree_digest}
use Rattle.masm_link.specs.declared.refusal.AsmCause.{AsmCause}
use Rattle.masm_link.specs.declared.refusal.AsmError.TheVariants.{Bad}
use Rattle.source_check.specs.SourceEvidences.{IsSourceEvidence}
use Rattle.source_check.specs.SourceText.{source_evidence_text}
use Rattle.source_check.specs.declared.evidence.SourceEvidence.{SourceEvidence}
use Rattle.checker.specs.declared.refusal.Refused.TheVariants as why
use Rattle.cmd_kit.specs.declared.answer.Answer.{Answer}
use Rattle.cmd_kit.specs.declared.outcome.Outcome.TheVariants as outcome
use Rattle.cmd_kit.specs.declared.status.Status.TheVariants as status
use Rattle.cmd_kit.specs.CheckEnds.{IsWhy, refusal}
use Rattle.cmd_kit.specs.CheckSourceEnds as ends
use Rattle.cmd_kit.specs.CheckSourceEnds.{IsSourceEvidenceFor, accepted_source_line, other_program_line}
use Rattle.cmd_kit.specs.SourceEnds.{AssemblesFiles, name_of_place, source_line}
use Rattle.cmd_kit.specs.Steps.{built, unbuilt, sourced}

-- ---- sources
-- a source that is refused
pub refused_build : (constants : List ℕ) (source : SourceFile) (kernel : Option SourceFile) (in_kernel : Bool) (line column : ℕ) (cause : AsmCause)
    (o : Outcome) → AssemblesFiles constants source kernel (Err (Bad in_kernel line column cause))
    → SaysStatus o status.Source (source_line (name_of_place in_kernel source kernel) line column cause) → Unbuilt constants source kernel o
refused_build constants source kernel in_kernel line column cause (outcome.Ends a) bad says =
    let is = ends.refused in_kernel line column cause bad in
    subst (λ (b : Answer). Unbuilt constants source kernel (outcome.Ends b)) (sym says) (is, refl)
refused_build constants source kernel in_kernel line column cause outcome.Memory bad says = tt

module _ (name constants : List ℕ) (claim : Stated) (t : Trace) (source : SourceFile) (kernel : Option SourceFile) where
  pub unbuilt_ends : (o : Outcome) (s : ShelfState) → Unbuilt constants source kernel o
      → EndsIn (Some (building_steps name constants claim t source kernel)) o s s
  unbuilt_ends (outcome.Ends a) s h =
      goes_past_finding (sourced constants source kernel) (built_steps name constants claim t) (unbuilt a) s h.0 (outcome.Ends a) s
      (work_ends (stop a.status a.line) (outcome.Ends a) s (record { ends = refl; kind = h.1 }))
  unbuilt_ends outcome.Memory s h = same_again (building_steps name constants claim t source kernel) s

  pub built_ends : (program : Program) (o : Outcome) (old new : ShelfState) → AssemblesFiles constants source kernel (Ok program)
      → EndsIn (Some (built_steps name constants claim t (built program))) o old new
      → EndsIn (Some (building_steps name constants claim t source kernel)) o old new
  built_ends program o old new is end =
      goes_past_finding (sourced constants source kernel) (built_steps name constants claim t) (built program) old (ends.assembled program is) o new end

-- ---- traces
module _ (p : Public) (t : Trace) (name : List ℕ) (tree : Tree) (ran : List ℕ) where
  abbrev constants : List ℕ
  constants = constants_of p.params

  abbrev claim : Stated
  claim = stated_of p.statement

  abbrev judged : Steps
  judged = asking (checked constants claim t) (held_steps name constants claim t tree ran)

  pub accepted_for : (o : Outcome) (old new : ShelfState) → IsAccepted p t → EndsIn (Some (held_steps name constants claim t tree ran accepted)) o old new
      → EndsIn (Some judged) o old new
  accepted_for o old new is end =
      goes_past_finding (checked constants claim t) (held_steps name constants claim t tree ran) accepted old
      (record { against = p; is_public = record { params = refl; statement = refl }; found = is }) o new end

  refused_by : (r : Refused) (o : Outcome) (s : ShelfState) → IsWhy p t r → SaysStatus o status.Refused (refused_line r)
      → EndsIn (Some judged) o s s
  refused_by r o s is says =
      goes_past_finding (checked constants claim t) (held_steps name constants claim t tree ran) (refused r) s
      (record { against = p; is_public = record { params = refl; statement = refl }; found = is }) o s
      (work_ends (refusal r) o s (says_comes status.Refused (refused_line r) o refl says))

  pub refused_for : (r : Refused) (o : Outcome) (s : ShelfState) → IsRefusal p t r → (r ≡ why.Memory → o ≡ outcome.Memory)
      → SaysStatus o status.Refused (refused_line r) → EndsIn (Some judged) o s s
  refused_for (why.Fault f) o s is wants says = refused_by (why.Fault f) o s is says
  refused_for (why.Bus bus tuple asked given) o s is wants says = refused_by (why.Bus bus tuple asked given) o s is says
  refused_for why.Memory o s is wants says =
      subst (λ x. EndsIn (Some judged) x s s) (sym (wants refl))
      (same_again judged s)

  -- ---- digests
  abbrev own : List ℕ
  own = tree_digest constants tree

  either_steps : Bool → Steps
  either_steps b =
      if b then sourced_steps name constants claim t tree ran else ending (stop status.OtherProgram (other_program_line claim.digest own))

  not_same : (b : Bool) → (b ≡ true → ⊥) → b ≡ false
  not_same true f = absurd (f refl)
  not_same false f = refl

  pub apart_ends : (o : Outcome) (s : ShelfState) → EndsApart p tree o
      → EndsIn (Some (held_steps name constants claim t tree ran accepted)) o s s
  unfolding either_steps
  apart_ends (outcome.Ends a) s h =
      let apart : bytes_eq claim.digest own ≡ false
      = not_same (bytes_eq claim.digest own) (λ same. h.0 ((bytes_eq-Decides claim.digest own).0 same)) in
      subst (λ b. EndsIn (Some (either_steps b)) (outcome.Ends a) s s) (sym apart)
      (work_ends (stop status.OtherProgram (other_program_line claim.digest own)) (outcome.Ends a) s
      (says_comes status.OtherProgram (other_program_line claim.digest own) (outcome.Ends a) refl h.1))
  apart_ends outcome.Memory s h = same_again (held_steps name constants claim t tree ran accepted) s

  -- ---- evidence
  for_public : (e : SourceEvidence) → IsSourceEvidence p t tree e → IsSourceEvidenceFor constants claim t tree e
  for_public e is = record { against = p; is_public = record { params = refl; statement = refl }; is_evidence = is }

  pub right_text : (e : SourceEvidence) (bytes : List ℕ) → IsSourceEvidence p t tree e → bytes ≡ source_evidence_text e
      → IsRight (source_evidence_for constants claim t tree) bytes
  right_text e bytes is text = record { evidence = e; is_evidence = for_public e is; text = text }

  pub told_source : (e : SourceEvidence) (bytes : List ℕ) (o : Outcome) (s : ShelfState) → IsSourceEvidence p t tree e
      → bytes ≡ source_evidence_text e → SaysStatus o status.Ok (accepted_source_line ran e)
      → EndsIn (Some (ending (telling_source constants claim t tree ran bytes))) o s s
  told_source e bytes o s is text says =
      let end = telling_source constants claim t tree ran bytes in
      work_ends end o s (says_ends end status.Ok (accepted_source_line ran e) o refl
      (record { evidence = e; is_evidence = for_public e is; text = text; is = refl }) says)
