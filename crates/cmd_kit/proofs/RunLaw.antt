-- What `run` left where it answered `Ok`: its steps, walked one after the other.
use Rattle.cmd_kit.proofs.Words.{◌≡◌, ℕ, ◌++◌, List, length, refl, sym, ap, subst, arith, tree_of, filled, files_accepted}
use Rattle.air_kit.specs.RowStates.{tape_of}
use Rattle.complete_rows.proofs.TableLemmas.{rows_counted}
use Rattle.complete_requests.proofs.TapeLaw.{run_takes}
use Rattle.fill_files.proofs.RunLemmas.{clock_at_end}
use Rattle.cmd_kit.specs.Asked.{run}
use Rattle.cmd_kit.specs.RunLaws.{AnsweredRunStands}
use Rattle.cmd_kit.proofs.Walks.{answered_ok, course_said, ended, ended_ok, inputs_said, kernel_said, params_said, printed_as, was_read, was_written}

pub answered_run_stands : AnsweredRunStands
answered_run_stands words old new before now params source inputs outputs kernel limit m serves command is =
    let h = answered_ok words (run params source inputs outputs kernel limit) old serves command refl is in
    let c = params_said _ h.went in
    let t = was_read c.2 in
    let g = inputs_said _ t.3 in
    let k = kernel_said kernel _ g.2 in
    let r = course_said k.2 (λ b w. ended_ok w) in
    let tables = was_written r.went in
    let claims = was_written tables.2 in
    let end = ended claims.2 in
    let tree = tree_of r.program.tree in
    let rows : length tables.1.trace.main ≡ length (filled c.0 r.program.kernel r.last r.log) = ap length tables.1.traces.main_is in
    let count = rows_counted c.0 r.program.kernel r.last r.log in
    let clock = clock_at_end c.0 r.program.kernel limit tree g.0.stack g.0.advice r.last r.log r.is_run in
    let takes = run_takes c.0 r.program.kernel limit tree g.0.stack g.0.advice r.last r.log r.is_run in
    record {
      good =
          record {
            constants = c.0;
            text = t.0;
            given = g.0;
            kernel = k.0;
            program = r.program;
            last = r.last;
            log = r.log;
            params_say = c.1;
            source_stands = record { stands = t.1; short = t.2 };
            inputs_say = g.1;
            kernel_stands = k.1;
            assembled = r.assembled;
            done = r.is_run.done;
          };
      table = tables.0;
      shows = tables.1;
      statement = claims.0;
      claims = claims.1;
      files = end.1;
      taken = printed_as before h.taken end.0;
      rows = omega (arith, rows, count, clock);
      tape = subst (λ (rows : List (List ℕ)). g.0.advice ≡ tape_of rows ++ r.last.tape) (sym tables.1.traces.main_is) takes;
      accepted = λ p params_are claims_are.
          files_accepted c.0 r.program.kernel limit tree g.0.stack g.0.advice r.last r.log r.is_run p params_are claims_are tables.0 tables.1;
    }
