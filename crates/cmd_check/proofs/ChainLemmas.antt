-- How the steps of `chain` go on and end, read after read.
use Rattle.cmd_check.proofs.Words.{◌≡◌, ℕ, ◌+◌, List, [], length, map, arith, Option, Some, Ok, refl, sym, subst, ◌∙◌, constants_of, Evidence, IsAccepted}
use Rattle.cmd_check.proofs.Words.{Public, Trace, IsRefusal, Refused, evidence_text, Stated, stated_of, ShelfState, Outcome, IsRight, Continues, EndsIn}
use Rattle.cmd_check.proofs.Words.{EndsThere, Loads, SaysStatus, refused_line, stop, checked, accepted, refused, Steps, asking, ending, goes_past_finding}
use Rattle.cmd_check.proofs.Words.{same_again, says_comes, work_ends, EndsHere, GoesOn, LinkGoesOn, TextGrew}
use Rattle.std.proofs.Common.{suc, Bool, true, false, if◌then◌else◌, ◌∷◌, ◌++◌, drop, Bor, append_assoc, append-nil, None, Result, Err, ap}
use Rattle.std.proofs.lemmas.List.{drop_all, length_push}
use Rattle.std.specs.Option.{option_copied, option_map}
use Rattle.std.specs.Result.{IfErr, IfOk}
use Rattle.vm_field.specs.declared.lists.Felts.{Felts}
use Rattle.checker.specs.declared.refusal.Refused.TheVariants as why
use Rattle.run_chain.specs.Lists.{Links, links_of}
use Rattle.cmd_kit.specs.declared.outcome.Outcome.TheVariants as outcome
use Rattle.cmd_kit.specs.declared.status.Status.TheVariants as status
use Rattle.cmd_kit.specs.ChainEnds.{AreEvidence, IsChainText, accepted_links_line, chain_text}
use Rattle.cmd_kit.specs.ChainSteps.{ChainLink, chain_from, chain_given, chain_link, chain_steps, claimed_steps, follows_on, judged_steps, link_steps}
use Rattle.cmd_kit.specs.CheckEnds.{IsEvidenceFor, IsVerdictFor, IsVerdictOf, IsWhy}
use Rattle.cmd_kit.specs.Links.{broken, broken_line, line_of_link, link_line, list_steps, most_list_bytes, with_lines}
use Rattle.cmd_kit.specs.Starts.{params_steps, statement_steps, trace_steps}
use Rattle.cmd_kit.specs.Steps.{chain_evidence, Judged, Right, Verdict, reading, writing}

-- one link
module _ (constants : List ℕ) (before : ℕ) (left : Option (List ℕ)) (link : ChainLink) where
  abbrev with_table : (Judged → Steps) → Trace → Steps
  with_table next trace = statement_steps link.statement (claimed_steps constants before left next trace)

  module _ (trace : Trace) (old mid : ShelfState) (table_says : Loads (trace_steps link.table) trace old mid) where
    module _ (claim : Stated) (new : ShelfState) (statement_says : Loads (statement_steps link.statement) claim mid new) where
      pub ends_judged : (end : Outcome) → EndsHere constants before left (record { claim = claim; trace = trace }) end
          → EndsThere (link_steps constants before left link) end old new
      ends_judged end ends next =
          table_says (with_table next) end new (statement_says (claimed_steps constants before left next trace) end new (ends new next))

-- the parameters and the list
module _ (params list evidence : List ℕ) (constants : List ℕ) (old first : ShelfState) (params_say : Loads (params_steps params) constants old first) where
  abbrev from : List ℕ → List (List (List ℕ)) → Steps
  from constants lines = chain_from constants evidence [] None (map chain_link lines)

  abbrev with_constants : List ℕ → Steps
  with_constants constants = list_steps (chain_given params list evidence) (from constants)

  module _ (bytes : List ℕ) (second : ShelfState)
      (list_says : (next : List ℕ → Steps) → Continues (reading list most_list_bytes next) (next bytes) first second) where
    goes_on : (end : Outcome) (new : ShelfState)
        → EndsIn (Some (with_lines list (from constants) (links_of (chain_given params list evidence) bytes))) end second new
        → EndsIn (Some (chain_steps params list evidence)) end old new
    goes_on end new ends =
        params_say with_constants end new
        (list_says (λ bytes. with_lines list (from constants) (links_of (chain_given params list evidence) bytes)) end new ends)

    pub ends_behind_list : (lines : List (List (List ℕ))) → links_of (chain_given params list evidence) bytes ≡ Ok lines → (end : Outcome)
        → (new : ShelfState) → EndsIn (Some (from constants lines)) end second new → EndsIn (Some (chain_steps params list evidence)) end old new
    ends_behind_list lines says end new ends =
        goes_on end new (subst (λ (r : Links). EndsIn (Some (with_lines list (from constants) r)) end second new) (sym says) ends)

-- an answer that is there whatever is answered
pub always : {A E : Type 0} (r : Result A E) {P : Type 0} → P → IfOk r (λ _. P)
always (Ok x) p = p
always (Err e) p = tt

-- cells that are lent are those that are held
pub lent_cells : (lent : Option (Bor Felts)) (cells : Option Felts) → option_copied lent ≡ cells → option_map (λ x. x.now) lent ≡ cells
lent_cells None cells is = is
lent_cells (Some k) cells is = is

-- how a link ends behind its claim
pub ends_if : (r : Result Felts Outcome) (P Q : Outcome → Type 0) → ((end : Outcome) → P end → Q end) → IfErr r P → IfErr r Q
ends_if (Ok x) P Q from h = tt
ends_if (Err end) P Q from h = from end h

-- what a claim's test and its verdict come to
module _ (constants : List ℕ) (before : ℕ) (left : Option (List ℕ)) where
  tested : (b : Bool) (x y : Steps) (end : Outcome) (s : ShelfState) → b ≡ false → EndsIn (Some y) end s s → EndsIn (Some (if b then x else y)) end s s
  tested b x y end s is ends = subst (λ b. EndsIn (Some (if b then x else y)) end s s) (sym is) ends

  pub broken_ends : (judged : Judged) (follows : Bool) (end : Outcome) → follows ≡ follows_on left judged.claim → follows ≡ false
      → SaysStatus end status.Broken (broken_line before) → EndsHere constants before left judged end
  broken_ends judged follows end is other says s next =
      tested (follows_on left judged.claim) (asking (checked constants judged.claim judged.trace) (judged_steps before judged.claim judged.trace next))
      (ending (broken before)) end s (sym is ∙ other)
      (work_ends (broken before) end s (says_comes status.Broken (broken_line before) end refl says))

  behind_test : (judged : Judged) (next : Judged → Steps) (end : Outcome) (s last : ShelfState) → follows_on left judged.claim ≡ true
      → EndsIn (Some (asking (checked constants judged.claim judged.trace) (judged_steps before judged.claim judged.trace next))) end s last
      → EndsIn (Some (claimed_steps constants before left next judged.trace judged.claim)) end s last
  behind_test judged next end s last is ends =
      subst
      (λ b. EndsIn (Some (if b then asking (checked constants judged.claim judged.trace) (judged_steps before judged.claim judged.trace next)
      else ending (broken before))) end s last) (sym is) ends

  pub memory_ends : (judged : Judged) (r : Result Felts Outcome) → IfErr r (λ end. end ≡ outcome.Memory)
      → IfErr r (EndsHere constants before left judged)
  memory_ends judged (Ok x) h = tt
  memory_ends judged (Err end) h = λ s next. subst (λ (e : Outcome). EndsIn (Some (claimed_steps constants before left next judged.trace judged.claim)) e s s)
      (sym h) (same_again (claimed_steps constants before left next judged.trace judged.claim) s)

module _ (p : Public) (t : Trace) (before : ℕ) (left : Option (List ℕ)) (follows : Bool) (is : follows ≡ follows_on left (stated_of p.statement))
    (other : follows ≡ true) where
  abbrev its : Judged
  its = record { claim = stated_of p.statement; trace = t }

  abbrev verdict_is : (v : Verdict) → IsVerdictOf p t v → IsVerdictFor (constants_of p.params) (stated_of p.statement) t v
  verdict_is v found = record { against = p; is_public = record { params = refl; statement = refl }; found = found }

  passed : follows_on left (stated_of p.statement) ≡ true
  passed = sym is ∙ other

  pub accepted_goes_on : IsAccepted p t → GoesOn (constants_of p.params) before left its
  accepted_goes_on accepts s next end last rest =
      behind_test (constants_of p.params) before left its next end s last passed
      (goes_past_finding (checked (constants_of p.params) (stated_of p.statement) t) (judged_steps before (stated_of p.statement) t next) accepted s
      (verdict_is accepted accepts) end last rest)

  pub refused_ends_link : (r : Refused) (end : Outcome) → IsRefusal p t r → (r ≡ why.Memory → end ≡ outcome.Memory)
      → SaysStatus end status.Refused (line_of_link (before + 1) (refused_line r)) → EndsHere (constants_of p.params) before left its end
  refused_ends_link r end is wants says s next = by r is wants says
    where
      steps : Steps
      steps = claimed_steps (constants_of p.params) before left next t (stated_of p.statement)

      goes : (r : Refused) → IsWhy p t r → SaysStatus end status.Refused (line_of_link (before + 1) (refused_line r)) → EndsIn (Some steps) end s s
      goes r is says =
          behind_test (constants_of p.params) before left its next end s s passed
          (goes_past_finding (checked (constants_of p.params) (stated_of p.statement) t) (judged_steps before (stated_of p.statement) t next) (refused r) s
          (verdict_is (refused r) is) end s
          (work_ends (stop status.Refused (line_of_link (before + 1) (refused_line r))) end s
          (says_comes status.Refused (line_of_link (before + 1) (refused_line r)) end refl says)))

      by : (r : Refused) → IsRefusal p t r → (r ≡ why.Memory → end ≡ outcome.Memory)
          → SaysStatus end status.Refused (line_of_link (before + 1) (refused_line r)) → EndsIn (Some steps) end s s
      by (why.Fault f) is wants says = goes (why.Fault f) is says
      by (why.Bus bus tuple asked given) is wants says = goes (why.Bus bus tuple asked given) is says
      by why.Memory is wants says = subst (λ x. EndsIn (Some steps) x s s) (sym (wants refl)) (same_again steps s)

-- evidence behind that of the links before
evidence_grows : (constants : List ℕ) (judged : List Judged) (all : List Evidence) (j : Judged) (e : Evidence) → AreEvidence constants judged all
    → IsEvidenceFor constants j.claim j.trace e → AreEvidence constants (judged ++ j ∷ []) (all ++ e ∷ [])
evidence_grows constants [] [] j e are is = (is, tt)
evidence_grows constants [] (x ∷ all) j e are is = absurd are
evidence_grows constants (i ∷ judged) [] j e are is = absurd are
evidence_grows constants (i ∷ judged) (x ∷ all) j e are is = (are.0, evidence_grows constants judged all j e are.1 is)

same_count : (constants : List ℕ) (judged : List Judged) (all : List Evidence) → AreEvidence constants judged all → length all ≡ length judged
same_count constants [] [] are = refl
same_count constants [] (x ∷ all) are = absurd are
same_count constants (i ∷ judged) [] are = absurd are
same_count constants (i ∷ judged) (x ∷ all) are = let rest = same_count constants judged all are.1 in omega (arith, rest)

text_grows : (k : ℕ) (all : List Evidence) (e : Evidence)
    → chain_text k (all ++ e ∷ []) ≡ chain_text k all ++ link_line (k + length all + 1) ++ evidence_text e
text_grows k [] e =
    let count : k + 1 ≡ k + 0 + 1 = omega arith in
    append-nil (link_line (k + 1) ++ evidence_text e) ∙ ap (λ n. link_line n ++ evidence_text e) count
text_grows k (x ∷ all) e =
    let count : k + 1 + length all + 1 ≡ k + suc (length all) + 1 = omega arith in
    let front = link_line (k + 1) ++ evidence_text x in
    let rest = chain_text (k + 1) all in
    let line = link_line (k + 1 + length all + 1) in
    ap (λ xs. front ++ xs) (text_grows (k + 1) all e)
    ∙ sym (append_assoc front (rest ++ line) (evidence_text e))
    ∙ ap (λ xs. xs ++ evidence_text e) (sym (append_assoc front rest line))
    ∙ ap (λ n. front ++ rest ++ link_line n ++ evidence_text e) count

chain_grows : (constants : List ℕ) (before : ℕ) (judged : List Judged) (j : Judged) (text longer : List ℕ) → length judged ≡ before
    → IsChainText constants judged text → TextGrew constants before j text longer → IsChainText constants (judged ++ j ∷ []) longer
chain_grows constants before judged j text longer count so grew =
    let all = same_count constants judged so.evidence so.are_evidence in
    let number : before + 1 ≡ 0 + length so.evidence + 1 = omega (arith, all, count) in
    record {
      evidence = so.evidence ++ grew.evidence ∷ [];
      are_evidence = evidence_grows constants judged so.evidence j grew.evidence so.are_evidence grew.is_evidence;
      text =
          grew.is
          ∙ ap (λ xs. xs ++ link_line (before + 1) ++ evidence_text grew.evidence) so.text
          ∙ ap (λ n. chain_text 0 so.evidence ++ link_line n ++ evidence_text grew.evidence) number
          ∙ sym (text_grows 0 so.evidence grew.evidence);
    }

-- the links from one on, in the steps of the whole chain
module _ (constants evidence : List ℕ) (judged : List Judged) (left : Option (List ℕ)) (before : ℕ) (count : length judged ≡ before)
    (link : ChainLink) (links all : List ChainLink) (first : all ≡ link ∷ links) (old : ShelfState) where
  later : Judged → Steps
  later it = chain_from constants evidence (judged ++ it ∷ []) (Some it.claim.outputs) links

  from_link : (end : Outcome) (new : ShelfState) → EndsIn (Some (link_steps constants before left link later)) end old new
      → EndsIn (Some (chain_from constants evidence judged left all)) end old new
  unfolding later
  from_link end new ends =
      subst (λ ls. EndsIn (Some (chain_from constants evidence judged left ls)) end old new) (sym first)
      (subst (λ k. EndsIn (Some (link_steps constants k left link later)) end old new) (sym count) ends)

  pub ends_behind_link : (outputs text longer : List ℕ) (mid : ShelfState) → IsChainText constants judged text
      → LinkGoesOn constants before left link outputs text longer old mid → (end : Outcome) (new : ShelfState)
      → ((js : List Judged) → length js ≡ before + 1 → IsChainText constants js longer
      → EndsIn (Some (chain_from constants evidence js (Some outputs) links)) end mid new)
      → EndsIn (Some (chain_from constants evidence judged left all)) end old new
  unfolding later
  ends_behind_link outputs text longer mid so went end new rest =
      let j = went.judged in
      let counted : length (judged ++ j ∷ []) ≡ before + 1 = length_push judged j ∙ ap (λ k. k + 1) count in
      from_link end new
      (went.loads later end new
      (subst (λ xs. EndsIn (Some (chain_from constants evidence (judged ++ j ∷ []) (Some xs) links)) end mid new) went.outputs_are
      (rest (judged ++ j ∷ []) counted (chain_grows constants before judged j text longer count so went.grew))))

-- behind the last link
pub saved_chain : (constants name text : List ℕ) (judged : List Judged) (left : Option (List ℕ)) (number : ℕ) (o : Outcome) (old mid : ShelfState)
    → length judged ≡ number → IsChainText constants judged text
    → ((right : Right) (next : List ℕ → Steps) → IsRight right text → Continues (writing name right next) (next text) old mid)
    → SaysStatus o status.Ok (accepted_links_line number) → EndsIn (Some (chain_from constants name judged left [])) o old mid
saved_chain constants name text judged left number o old mid count so goes says =
    let line = accepted_links_line (length judged) in
    goes (chain_evidence constants judged) (λ _. ending (stop status.Ok line)) so o mid
    (work_ends (stop status.Ok line) o mid (says_comes status.Ok line o refl (subst (λ n. SaysStatus o status.Ok (accepted_links_line n)) (sym count) says)))

pub no_links : (constants name : List ℕ) (judged : List Judged) (left : Option (List ℕ)) (lines : List (List (List ℕ))) (i : ℕ) (o : Outcome)
    (old new : ShelfState) → i ≡ length lines → EndsIn (Some (chain_from constants name judged left [])) o old new
    → EndsIn (Some (chain_from constants name judged left (map chain_link (drop i lines)))) o old new
no_links constants name judged left lines i o old new all ends =
    subst (λ ls. EndsIn (Some (chain_from constants name judged left (map chain_link ls))) o old new) (sym (drop_all i lines (omega (arith, all)))) ends
