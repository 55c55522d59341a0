-- What `run` wrote is good for every `check` of it, which is so answered `Ok`.
use Rattle.cmd_kit.proofs.Words.{◌≡◌, ◌⊎◌, ℕ, List, Option, Some, sym, subst, inl, inr, ◌∙◌, get, insert, Files, ShelfState, SinkState, get_beside, get_put}
use Rattle.cmd_kit.proofs.Words.{Status, StatusKind, kind_of, planned, no_command, Outputs, asked, IsGood}
use Rattle.cmd_kit.proofs.Words.{IsGoodCheck, IsFault}
use Rattle.cmd_kit.specs.declared.status.Status.TheVariants as status
use Rattle.cmd_kit.specs.Laws.{WrittenRunIsAccepted}
use Rattle.cmd_kit.specs.RunLaws.{RunStands, RunLeavesGoodFiles}
use Rattle.cmd_kit.proofs.ApartNames.{AreApart, run_apart_names}
use Rattle.cmd_kit.proofs.Completeness.{good_is_ok}
use Rattle.cmd_kit.proofs.RunLaw.{answered_run_stands}

-- the files behind a run that was answered `Ok`
module _ (params source inputs : List ℕ) (outputs : Outputs) (kernel : Option (List ℕ)) (limit : ℕ) (m : Files) (new : ShelfState)
    (before now : SinkState) where
  abbrev pub files_behind : RunStands params source inputs outputs kernel limit m new before now → Files
  files_behind s = insert (insert m outputs.table s.table) outputs.statement s.statement

  pub good_behind : (s : RunStands params source inputs outputs kernel limit m new before now) → AreApart params outputs
      → IsGoodCheck (files_behind s) params outputs.table outputs.statement
  good_behind s apart =
      let text = s.good.params_say in
      record {
        constants = s.good.constants;
        trace = s.shows.trace;
        claim = _;
        params_say = record { bytes = text.bytes; stands = text_stands ∙ text.stands; short = text.short; says = text.says };
        table_says = record { bytes = s.table; stands = table_stands; short = s.shows.short; says = s.shows.reads };
        statement_says = record { bytes = s.statement; stands = claimed_stands; short = s.claims.short; says = s.claims.reads };
        found = λ p is. s.accepted p is.params is.statement;
      }
    where
      claimed_stands : get (files_behind s) outputs.statement ≡ Some s.statement
      claimed_stands = get_put (insert m outputs.table s.table) outputs.statement s.statement

      table_stands : get (files_behind s) outputs.table ≡ Some s.table
      table_stands =
          get_beside (insert m outputs.table s.table) outputs.statement s.statement outputs.table apart.table_statement
          ∙ get_put m outputs.table s.table

      text_stands : get (files_behind s) params ≡ get m params
      text_stands =
          get_beside (insert m outputs.table s.table) outputs.statement s.statement params apart.params_statement
          ∙ get_beside m outputs.table s.table params apart.params_table

pub run_leaves_good_files : RunLeavesGoodFiles
run_leaves_good_files words old new before now params source inputs outputs kernel limit m serves command is =
    let s = answered_run_stands words old new before now params source inputs outputs kernel limit m serves command is in
    let apart = run_apart_names words params source inputs outputs kernel limit command in
    let good = good_behind params source inputs outputs kernel limit m new before now s apart in
    (files_behind params source inputs outputs kernel limit m new before now s, s.files, λ evidence. good)

-- a status that is planned is no fault
pub no_fault : (s : Status) (kind : StatusKind) → kind ≡ planned → (s ≡ status.Ok) ⊎ IsFault kind → s ≡ status.Ok
no_fault s kind is (inl ok) = ok
no_fault s planned is (inr fault) = absurd fault
no_fault s no_command is (inr fault) = absurd fault
no_fault s kind is (inr fault) = cc

pub written_run_is_accepted : WrittenRunIsAccepted
written_run_is_accepted ran_by checked_by s old mid new a b c d m params source inputs evidence outputs kernel limit is ran_words
    went checked_words checks plan =
    let left = run_leaves_good_files ran_by old mid a b params source inputs outputs kernel limit m went ran_words is in
    let good : IsGood left.0 (asked checked_by) = subst (IsGood left.0) (sym checked_words) (left.2 evidence) in
    no_fault s (kind_of s) plan (good_is_ok checked_by s mid new c d left.0 left.1 good checks)
