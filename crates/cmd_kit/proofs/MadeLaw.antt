-- What `make` left where it answered `Ok`: its steps, walked one after the other.
use Rattle.cmd_kit.proofs.Words.{refl}
use Rattle.cmd_kit.proofs.Words.{◌≡◌, ℕ, List, [], Some, subst, insert, most_cycles, tree_of}
use Rattle.cmd_kit.proofs.Words.{inputs_text, squares, files_accepted}
use Rattle.cmd_kit.proofs.Words.{make}
use Rattle.cmd_kit.specs.MakeLaws.{AnsweredMakeStands}
use Rattle.cmd_kit.proofs.Walks.{answered_ok, course_said, ended, ended_ok, params_said, printed_as, was_written}

pub answered_make_stands : AnsweredMakeStands
answered_make_stands words old new before now params turns names m serves command is =
    let h = answered_ok words (make params turns names) old serves command refl is in
    let c = params_said _ h.went in
    let r = course_said c.2 (λ b w. ended_ok w) in
    let source = was_written r.went in
    let inputs = was_written source.2 in
    let end = ended inputs.2 in
    let written = λ (x y : List ℕ). new.files ≡ Some (insert (insert m names.source x) names.inputs y) in
    record {
      good =
          record {
            constants = c.0;
            program = r.program;
            last = r.last;
            log = r.log;
            params_say = c.1;
            assembled = r.assembled;
            done = r.is_run.done;
          };
      files = subst (λ x. written x (inputs_text [] (squares turns))) source.1 (subst (written source.0) inputs.1 end.1);
      taken = printed_as before h.taken end.0;
      accepted = λ p params_are claims.
          files_accepted c.0 r.program.kernel most_cycles (tree_of r.program.tree) [] (squares turns) r.last r.log r.is_run p params_are claims;
    }
