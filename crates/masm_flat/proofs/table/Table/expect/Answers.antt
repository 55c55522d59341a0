use Rattle.masm_flat.proofs.Words.{◌+◌, ◌<◌, length, set, take, get_or, inl, inr, sym, ap, ◌∙◌, arith, eqb_tells, length-take-le, length-set, get_or_read}
use Rattle.masm_flat.proofs.Words.{get_or-set_same, get_or-set_other}
use Rattle.std.specs.Prelude.{nat_eq}
use Rattle.std.proofs.lemmas.List.Sums.{count_by-le-length, count_by_more_yes, count_by_more_no}
use Rattle.masm_flat.proofs.table.Table.expect.Goals as goal
use Rattle.masm_flat.proofs.table.Table.expect.Goals.{then-place-len, else-place-len}

pub overflow_add-index_mut : goal.overflow_add-index_mut
overflow_add-index_mut c =
    let uses = c.args.uses.now in
    let i = c.loop-place.place-index in
    let place = get_or uses i 0 in
    let left = c.loop-place.self.left.items in
    let low : place < length left = omega (arith, c.len.ensures) in
    let read = get_or_read left place c.index_mut.result.now low c.index_mut.ensures.value 0 in
    let count = c.loop-place.invariant.left place (let same = c.loop-place.invariant.count in omega arith) in
    let few = count_by-le-length (nat_eq place) (take i uses) in
    let taken = length-take-le i uses (omega arith) in
    omega arith

pub loop-place-preserved : goal.loop-place-preserved
loop-place-preserved c =
    let uses = c.args.uses.now in
    let i = c.loop-place.place-index in
    let place = get_or uses i 0 in
    let old = c.loop-place.self.left.items in
    let before = c.loop-place.invariant in
    let below = c.loop-place-test.true in
    elim c.if-place-len.branch [
      | then-place-len w ↦
          let low : place < length old = omega (arith, c.len.ensures, w.if-place-len.true) in
          let v = w.index_mut.result.now in
          let read = get_or_read old place v low w.index_mut.ensures.value 0 in
          record {
            lists = ap (λ t. t.lists) w.self-is ∙ before.lists;
            left = λ q within. ap (λ t. get_or t.left.items q 0) w.self-is ∙ (elim (eqb_tells q place) [
              | inl same ↦
                  ap (λ k. get_or (set old place (v + 1)) k 0) same.1 ∙ (get_or-set_same old place (v + 1) 0 low
                  ∙ (ap (λ n. n + 1) (read ∙ (ap (λ k. get_or old k 0) (sym same.1) ∙ before.left q within))
                  ∙ sym (count_by_more_yes (nat_eq q) uses i 0 below same.0)))
              | inr apart ↦
                  get_or-set_other old place q (v + 1) 0 apart.1 ∙ (before.left q within ∙ sym (count_by_more_no (nat_eq q) uses i 0 below apart.0))
            ]);
            count = ap (λ t. length t.left.items) w.self-is ∙ (length-set old place (v + 1) ∙ before.count);
          }
      | else-place-len w ↦ record {
        lists = ap (λ t. t.lists) w.self-is ∙ before.lists;
        left = λ q within. ap (λ t. get_or t.left.items q 0) w.self-is ∙ (elim (eqb_tells q place) [
          | inl same ↦ absurd (omega (arith, same.1, before.count, c.len.ensures, w.if-place-len.false))
          | inr apart ↦ before.left q within ∙ sym (count_by_more_no (nat_eq q) uses i 0 below apart.0)
        ]);
        count = ap (λ t. length t.left.items) w.self-is ∙ before.count;
      }
    ]
