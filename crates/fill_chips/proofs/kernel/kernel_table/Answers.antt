use Rattle.fill_chips.proofs.Words.{◌≡◌, ℕ, nat_eq, unwrap_or, List, ◌++◌, length, sym, ap, ◌∙◌, arith, count_by-le-length, pointwise, kernel_rows}
use Rattle.fill_chips.proofs.Words.{times_called, without}
use Rattle.fill_chips.proofs.KernelLemmas.{rows-alike, rows-done, rows-step, times_in, without-few, without-is}
use Rattle.fill_chips.proofs.kernel.kernel_table.Goals as goal

pub loop-word-init : goal.loop-word-init
loop-word-init c = record {
  rows =
      ap (λ table. table ++ kernel_rows (times_in c.in_ok-times.times) c.args.kernel.now) (c.reserve.ensures ∙ c.new-table.ensures.empty)
      ∙ rows-alike (times_in c.in_ok-times.times) (times_called c.args.calls.now) c.args.kernel.now c.in_ok-times.ensures.times;
  few = λ u.
      let is = c.in_ok-times.ensures.times u in
      let few = count_by-le-length (λ call. pointwise nat_eq call u) c.args.calls.now in
      omega (arith, is, few);
}

pub row_of-requires : goal.row_of-requires
row_of-requires c =
    let is : c.unwrap_or-count.result ≡ times_in c.loop-word.times c.word-item.result
    = c.unwrap_or-count.ensures ∙ ap (λ o. unwrap_or o 0) c.remove.ensures.value in
    let few = c.loop-word.invariant.few c.word-item.result in
    omega (arith, is, few)

pub loop-word-preserved : goal.loop-word-preserved
loop-word-preserved c =
    let word = c.word-item.result in
    let had = times_in c.loop-word.times in
    let is : c.unwrap_or-count.result ≡ had word = c.unwrap_or-count.ensures ∙ ap (λ o. unwrap_or o 0) c.remove.ensures.value in
    let same : (u : List ℕ) → times_in c.remove.new.self u ≡ without word had u
    = λ u. ap (λ o. unwrap_or o 0) (c.remove.ensures.updates.0 u) ∙ without-is (pointwise nat_eq word u) _ in
    record {
      rows =
          rows-step had (times_in c.remove.new.self) c.args.kernel.now c.loop-word.table c.push_row.new.self c.row_of.result
          c.loop-word.word-index word
          c.unwrap_or-count.result c.loop-word-test.true c.word-item.is c.in_ok-push_row.ensures.ok c.row_of.ensures is same
          ∙ c.loop-word.invariant.rows;
      few = λ u. without-few (pointwise nat_eq word u) (had u) (times_in c.remove.new.self u) (length c.args.calls.now) (same u)
          (c.loop-word.invariant.few u);
    }

pub returns : goal.returns
returns c = record {
  rows =
      sym (rows-done (times_in c.loop-word.times) c.args.kernel.now c.loop-word.table c.loop-word.word-index c.loop-word-test.false)
      ∙ c.loop-word.invariant.rows;
}
