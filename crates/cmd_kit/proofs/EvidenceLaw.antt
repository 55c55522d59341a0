-- What stands where `check` answers `Ok`: its steps, walked one after the other.
use Rattle.cmd_kit.proofs.Words.{◌≡◌, ℕ, List, Result, Ok, refl, sym, subst, get, Files, IsSomeAnd, FileSays, check}
use Rattle.cmd_kit.specs.Laws.{AcceptedHasEvidence}
use Rattle.cmd_kit.proofs.Walks.{answered_ok, ended, ended_ok, params_said, printed_as, statement_said, table_said, verdict_said, was_written, written_as}

-- what a file says
said : {X E : Type 0} {m : Files} {name : List ℕ} {most : ℕ} {says : List ℕ → Result X E} {x : X} → FileSays m name most says x
    → IsSomeAnd (get m name) (λ bytes. says bytes ≡ Ok x)
said {says} {x} h = subst (λ o. IsSomeAnd o (λ bytes. says bytes ≡ Ok x)) (sym h.stands) h.says

pub accepted_has_evidence : AcceptedHasEvidence
accepted_has_evidence words old new before now params table statement output m serves command is =
    let h = answered_ok words (check params table statement output) old serves command refl is in
    let c = params_said _ h.went in
    let t = table_said _ c.2 in
    let s = statement_said _ t.2 in
    let v = verdict_said s.2 (λ why w. let no = ended_ok w in cc) in
    let written = was_written v.1 in
    let end = ended written.2 in
    record {
      files_say =
          record {
            constants = c.0;
            trace = t.0;
            claim = s.0;
            params_say = said c.1;
            table_says = said t.1;
            statement_says = said s.1;
            found = v.0;
          };
      evidence = end.0.evidence;
      is_evidence = end.0.is_evidence;
      files = written_as m output end.1 end.0.text;
      taken = printed_as before h.taken end.0.is;
    }
