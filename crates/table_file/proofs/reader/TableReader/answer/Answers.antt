use Rattle.table_file.proofs.Words.{◌<◌, List, ℕ, Option, Err, length, sym, ap, subst, ◌∙◌, arith, Trace, PartTrace, GivesRead, trace_of, Reader, wanted}
use Rattle.table_file.proofs.Readers.{answer_of, carried_all, head_bad, head_whole}
use Rattle.table_file.proofs.reader.TableReader.answer.Goals as goal

pub unreachable-requires : goal.unreachable-requires
unreachable-requires c =
    let long = head_whole c.as_slice-in-None-None.result.now c.in-Ok.field-0 (sym c.read_head.ensures.is ∙ c.in-Ok.is) in
    let short = subst (λ (part : Option PartTrace). length c.self.inside.carried.items < wanted part) c.in-None-None.is-1 c.self.invariant.1 in
    omega (arith, long, short, ap length c.as_slice-in-None-None.ensures.value)

pub returns-in-None-Some : goal.returns-in-None-Some
returns-in-None-Some c =
    answer_of c.args.self c.in-None-Some.part c.finish.result
    (ap (λ (r : Reader). r.stop) (sym c.self.view_is) ∙ c.in-None-Some.is-0) (ap (λ (r : Reader). r.part) (sym c.self.view_is) ∙ c.in-None-Some.is-1)
    (λ all rest. c.finish.ensures all (rest ∙ ap (λ (r : Reader). r.carried) (sym c.self.view_is) ∙ sym c.as_slice.ensures.value))

pub returns-in-Err : goal.returns-in-Err
returns-in-Err c = λ bytes taken.
    let all =
    carried_all c.args.self bytes (ap (λ (r : Reader). r.stop) (sym c.self.view_is) ∙ c.in-None-None.is-0)
    (ap (λ (r : Reader). r.part) (sym c.self.view_is) ∙ c.in-None-None.is-1) taken
    ∙ ap (λ (r : Reader). r.carried) (sym c.self.view_is) ∙ sym c.as_slice-in-None-None.ensures.value in
    subst (λ (bs : List ℕ). GivesRead {A = Trace} (Err c.in-Err.error) (trace_of bs)) (sym all)
    (head_bad c.as_slice-in-None-None.result.now c.in-Err.error (sym c.in-Err.is ∙ c.read_head.ensures.is))
