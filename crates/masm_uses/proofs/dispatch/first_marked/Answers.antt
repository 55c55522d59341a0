use Rattle.masm_uses.proofs.Words.{◌≡◌, ℕ, Bool, true, false, List, Option, get_or, subst, ◌∙◌, Position}
use Rattle.masm_uses.proofs.Words.{rows_of, LinkCause, Refusal, Among, FindsLeast, IsRefusedDynexec, Among-more, Among-end, row_read, row_itself, rows_within, rows_ended}
use Rattle.masm_uses.proofs.dispatch.first_marked.Goals as goal

-- the dynexecs of a row, where its place has a mark
abbrev InRow : List Bool → ℕ → List Position → Position → LinkCause → Type 0
InRow marks place row = Among (λ k dynexec. IsRefusedDynexec (get_or marks place false ≡ true) dynexec) row

marked_row : (marks : List Bool) (place : ℕ) (row : List Position) (mark : Bool) (r : Option Refusal) → mark ≡ get_or marks place false
    → FindsLeast (Among (λ k dynexec. IsRefusedDynexec (mark ≡ true) dynexec) row) r → FindsLeast (InRow marks place row) r
marked_row marks place row mark r is h =
    subst (λ b. FindsLeast (Among (λ k dynexec. IsRefusedDynexec (b ≡ true) dynexec) row) r) is h

pub loop-place-preserved : goal.loop-place-preserved
loop-place-preserved c =
    let marks = c.args.marks.now in
    let rows = rows_of c.args.rows.now in
    let i = c.loop-place.place in
    let row = c.deref.result.now in
    let within = rows_within c.args.rows.now i c.loop-place-test.true in
    let is = c.deref.ensures.value ∙ row_read c.args.rows.now i c.index-rows-place.result c.loop-place-test.true c.index-rows-place.is in
    rw c.earlier-first.ensures (Among-more (InRow marks) rows i row c.loop-place.first _ within
    (row_itself rows i row within is) c.loop-place.invariant
    (marked_row marks i row c.is_marked.result _ c.is_marked.ensures c.first_refused.ensures))

pub returns : goal.returns
returns c =
    let ended = rows_ended c.args.rows.now c.loop-place.place c.loop-place-test.false in
    Among-end (InRow c.args.marks.now) (rows_of c.args.rows.now) c.loop-place.place c.loop-place.first ended c.loop-place.invariant
