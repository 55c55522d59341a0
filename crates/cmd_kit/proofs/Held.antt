-- An accepted trace that is held against a tree: what stands where that ended with `Ok`, and where it ends so.
use Rattle.cmd_kit.proofs.Words.{◌≡◌, ℕ, Bool, true, false, if◌then◌else◌, List, Option, Some, refl, ap, subst, insert, Files, bytes_eq, bytes_eq-Decides}
use Rattle.cmd_kit.proofs.Words.{Answer, Steps, Stated, Trace, asking, ending, stop, ends_with, checked, IsAcceptedFor, SourceEvidence}
use Rattle.cmd_kit.proofs.Words.{IsSourceEvidenceFor, accepted_source_line, held_steps, other_program_line, sourced_steps}
use Rattle.block_tree.specs.Trees.{Tree, tree_digest}
use Rattle.source_check.specs.SourceText.{source_evidence_text}
use Rattle.cmd_kit.specs.declared.status.Status.TheVariants as status
use Rattle.cmd_kit.proofs.Verdicts.{one_verdict}
use Rattle.cmd_kit.proofs.Walks.{Went, ended, ended_ok, verdict_good, verdict_said, was_written, written_as}

module _ (name constants : List ℕ) (claim : Stated) (trace : Trace) (tree : Tree) (ran : List ℕ) (m : Files) where
  -- the trace was accepted, the digests agreed, and this was written and told
  pub record WasHeld (line : List ℕ) (new : Option Files) : Type 0 where
    pub found : IsAcceptedFor constants claim trace
    pub digest : claim.digest ≡ tree_digest constants tree
    pub evidence : SourceEvidence
    pub is_evidence : IsSourceEvidenceFor constants claim trace tree evidence
    pub files : new ≡ Some (insert m name (source_evidence_text evidence))
    pub told : ends_with status.Ok line ≡ ends_with status.Ok (accepted_source_line ran evidence)

  abbrev by_digest : Bool → Steps
  by_digest agree =
      if agree then sourced_steps name constants claim trace tree ran
      else ending (stop status.OtherProgram (other_program_line claim.digest (tree_digest constants tree)))

  abbrev judging : Steps
  judging = asking (checked constants claim trace) (held_steps name constants claim trace tree ran)

  pub was_held : {line : List ℕ} {new : Option Files} → Went (ends_with status.Ok line) new judging m → WasHeld line new
  was_held {line} {new} h =
      let v = verdict_said h (λ why w. let no = ended_ok w in cc) in
      of (bytes_eq claim.digest (tree_digest constants tree)) refl (one_verdict constants claim trace v.0) v.1
    where
      of : (b : Bool) → bytes_eq claim.digest (tree_digest constants tree) ≡ b → IsAcceptedFor constants claim trace
          → Went (ends_with status.Ok line) new (by_digest b) m → WasHeld line new
      of true agree is h =
          let written = was_written h in
          let end = ended written.2 in
          record {
            found = is;
            digest = (bytes_eq-Decides claim.digest (tree_digest constants tree)).0 agree;
            evidence = end.0.evidence;
            is_evidence = end.0.is_evidence;
            files = written_as m name end.1 end.0.text;
            told = end.0.is;
          }
      of false agree is h = absurd (let no = ended_ok h in cc)

  -- a trace that is accepted, for a claim of the tree's digest
  pub held_ok : {a : Answer} {new : Option Files} → IsAcceptedFor constants claim trace → claim.digest ≡ tree_digest constants tree
      → Went a new judging m → a.status ≡ status.Ok
  held_ok {a} {new} is digest goes =
      let agree : bytes_eq claim.digest (tree_digest constants tree) ≡ true = (bytes_eq-Decides claim.digest (tree_digest constants tree)).1 digest in
      let written = was_written (subst (λ b. Went a new (by_digest b) m) agree (verdict_good is goes)) in
      ap (λ (b : Answer). b.status) (ended written.2).0.is
