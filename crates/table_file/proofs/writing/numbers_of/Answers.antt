use Rattle.table_file.proofs.Words.{◌≡◌, List, ℕ, [], ◌∷◌, ◌++◌, get_or, length, refl, sym, ap, ap₂, ◌∙◌, arith, length-replicate, take_all, take_more}
use Rattle.table_file.proofs.Words.{take_more_set}
use Rattle.std.proofs.lemmas.List.{length-set}
use Rattle.table_file.proofs.writing.numbers_of.Goals as goal

pub loop-j-init : goal.loop-j-init
loop-j-init g c = (length-replicate g.row.W 0, refl)

pub loop-j-preserved : goal.loop-j-preserved
loop-j-preserved g c =
    let row = get_or c.args.table.now c.args.i [] in
    let j = c.loop-j.j in
    let wide : length row ≡ g.row.W = c.rows-shape.ensures.shape.wide c.args.i c.requires in
    let element : c.value.result ≡ get_or row j 0 =
    c.value.ensures.is ∙ c.cell.ensures.is ∙ ap (λ (cells : List ℕ). get_or cells j 0) c.row-row.ensures.cells in (
      length-set c.loop-j.numbers j c.value.result ∙ c.loop-j.invariant.0,
      take_more_set c.loop-j.numbers j c.value.result (omega (arith, c.loop-j-test.true, c.loop-j.invariant.0))
          ∙ ap₂ (λ (front : List ℕ) (x : ℕ). front ++ x ∷ []) c.loop-j.invariant.1 element
          ∙ sym (take_more row j 0 (omega (arith, c.loop-j-test.true, wide))),
    )

pub returns : goal.returns
returns g c =
    let row = get_or c.args.table.now c.args.i [] in
    let wide : length row ≡ g.row.W = c.rows-shape.ensures.shape.wide c.args.i c.requires in
    sym (take_all c.loop-j.j c.loop-j.numbers (omega (arith, c.loop-j.invariant.0))) ∙ c.loop-j.invariant.1
    ∙ take_all c.loop-j.j row (omega (arith, wide))
