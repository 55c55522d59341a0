use Rattle.fill_chips.proofs.Words.{ℕ, ◌<◌, slice_index, arith, length-set, get_or_read}
use Rattle.fill_chips.proofs.TimesLemmas.{times-few, times-more}
use Rattle.fill_chips.proofs.range.count.Goals as goal

pub overflow_add-index_mut : goal.overflow_add-index_mut
overflow_add-index_mut c =
    let value = c.from.result in
    let within : value < 65536 = omega (arith, c.from.ensures, c.type_inv.values c.loop-value.value-index) in
    let is =
    get_or_read c.loop-value.times.items value c.index_mut.result.now (omega (arith, c.loop-value.invariant.size))
    c.index_mut.ensures.value 0 in
    let count = c.loop-value.invariant.counts value in
    let few = times-few c.args.values.now c.loop-value.value-index value in
    let room = c.requires.few value in
    omega (arith, is, count, few, room)

pub loop-value-preserved : goal.loop-value-preserved
loop-value-preserved c =
    let value = c.from.result in
    let times = c.loop-value.times.items in
    let within : value < 65536 = omega (arith, c.from.ensures, c.type_inv.values c.loop-value.value-index) in
    let is = get_or_read times value c.index_mut.result.now (omega (arith, c.loop-value.invariant.size)) c.index_mut.ensures.value 0 in
    record {
      size = omega (arith, length-set {A = ℕ}, c.loop-value.invariant.size);
      counts = λ v.
          times-more (slice_index c.args.times.now.items) c.args.values.now times c.loop-value.value-index value
          c.index_mut.result.now v c.loop-value-test.true
          c.from.ensures (omega (arith, c.loop-value.invariant.size)) is (c.loop-value.invariant.counts value) (c.loop-value.invariant.counts v);
    }
