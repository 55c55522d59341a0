-- What stands where `chain` answers `Ok`: its steps, walked link by link.
use Rattle.cmd_kit.proofs.Words.{◌≡◌, ℕ, Bool, true, false, if◌then◌else◌, List, [], ◌∷◌, ◌++◌, length, map, append_assoc, append-nil, Option, Some, None}
use Rattle.cmd_kit.proofs.Words.{refl, sym, ap, subst, ◌∙◌, insert}
use Rattle.cmd_kit.proofs.Words.{Files, chain, ChainLink, chain_from, chain_given}
use Rattle.cmd_kit.proofs.Words.{chain_link, follows_on, link_steps, LinkSays, LinksSay, broken}
use Rattle.cmd_kit.proofs.Words.{Judged, Steps, ending, ends_with}
use Rattle.cmd_kit.specs.declared.status.Status.TheVariants as status
use Rattle.cmd_kit.specs.ChainEnds.{IsChainText, accepted_links_line}
use Rattle.cmd_kit.specs.ChainLaws.{ChainHasEvidence}
use Rattle.cmd_kit.proofs.ChainComplete.{follows_by_test}
use Rattle.cmd_kit.proofs.ChainOneRun.{one_run}
use Rattle.cmd_kit.proofs.Verdicts.{one_verdict}
use Rattle.cmd_kit.proofs.Walks.{Went, answered_ok, ended, ended_ok, list_said, params_said, printed_as, statement_said, table_said, verdict_said, was_written}

-- the steps of `chain`, which ended with `Ok` and this line
module _ (line : List ℕ) (new : Option Files) (m : Files) where
  abbrev Walked : Steps → Type 0
  Walked steps = Went (ends_with status.Ok line) new steps m

  followed : (before : ℕ) (b : Bool) (steps : Steps) → Walked (if b then steps else ending (broken before)) → (b ≡ true) × Walked steps
  followed before true steps h = (refl, h)
  followed before false steps h = absurd (let no = ended_ok h in cc)

  -- one link was accepted
  record Judges (constants : List ℕ) (left : Option (List ℕ)) (link : ChainLink) (next : Judged → Steps) : Type 0 where
    judged : Judged
    says : LinkSays m constants left link judged
    went : Walked (next judged)

  link_judged : (constants : List ℕ) (before : ℕ) (left : Option (List ℕ)) (link : ChainLink) (next : Judged → Steps)
      → Walked (link_steps constants before left link next) → Judges constants left link next
  link_judged constants before left link next h =
      let t = table_said _ h in
      let s = statement_said _ t.2 in
      let f = followed before (follows_on left s.0) _ s.2 in
      let v = verdict_said f.1 (λ why w. let no = ended_ok w in cc) in
      record {
        judged = record { claim = s.0; trace = t.0 };
        says =
            record {
              table_says = t.1;
              statement_says = s.1;
              follows = follows_by_test left s.0 f.0;
              found = one_verdict constants s.0 t.0 v.0;
            };
        went = v.1;
      }

  -- the links from here on, behind those that were judged
  record Left (constants evidence : List ℕ) (before : List Judged) (left : Option (List ℕ)) (links : List ChainLink) : Type 0 where
    judged : List Judged
    say : LinksSay m constants left links judged
    text : List ℕ
    right : IsChainText constants (before ++ judged) text
    files : new ≡ Some (insert m evidence text)
    told : ends_with status.Ok line ≡ ends_with status.Ok (accepted_links_line (length (before ++ judged)))

  walked : (constants evidence : List ℕ) (links : List ChainLink) (before : List Judged) (left : Option (List ℕ))
      → Walked (chain_from constants evidence before left links) → Left constants evidence before left links
  walked constants evidence [] before left h =
      let w = was_written h in
      let e = ended w.2 in
      let whole : before ++ [] ≡ before = append-nil before in
      record {
        judged = [];
        say = tt;
        text = w.0;
        right = subst (λ js. IsChainText constants js w.0) (sym whole) w.1;
        files = e.1;
        told = e.0 ∙ ap (λ (js : List Judged). ends_with status.Ok (accepted_links_line (length js))) (sym whole);
      }
  walked constants evidence (link ∷ links) before left h =
      let next : Judged → Steps = λ it. chain_from constants evidence (before ++ it ∷ []) (Some it.claim.outputs) links in
      let one = link_judged constants (length before) left link next h in
      let it = one.judged in
      let rest = walked constants evidence links (before ++ it ∷ []) (Some it.claim.outputs) one.went in
      let moved : (before ++ it ∷ []) ++ rest.judged ≡ before ++ it ∷ rest.judged = append_assoc before (it ∷ []) rest.judged in
      record {
        judged = it ∷ rest.judged;
        say = (one.says, rest.say);
        text = rest.text;
        right = subst (λ js. IsChainText constants js rest.text) moved rest.right;
        files = rest.files;
        told = rest.told ∙ ap (λ (js : List Judged). ends_with status.Ok (accepted_links_line (length js))) moved;
      }

pub chain_has_evidence : ChainHasEvidence
chain_has_evidence words old new before now params list output m serves command is =
    let h = answered_ok words (chain params list output) old serves command refl is in
    let c = params_said _ h.went in
    let l = list_said (chain_given params list output) _ c.2 in
    let links : List ChainLink = map chain_link l.0 in
    let w = walked h.line new.files m c.0 output links [] None l.2 in
    record {
      good =
          record {
            constants = c.0;
            lines = l.0;
            judged = w.judged;
            params_say = c.1;
            list_says = l.1;
            links_say = w.say;
          };
      evidence = w.right.evidence;
      are_evidence = w.right.are_evidence;
      one_run = one_run m c.0 links w.judged w.right.evidence w.say w.right.are_evidence;
      files = w.files ∙ ap (λ (bytes : List ℕ). Some (insert m output bytes)) w.right.text;
      taken = printed_as before h.taken w.told;
    }
