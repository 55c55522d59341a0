use Rattle.std.proofs.Common.{◌≡◌, ◌<◌, ◌^◌, ◌-◌, ℕ, ◌∙◌, arith, length, true, false, ◌∷◌, take, drop, rules}
use Rattle.std.proofs.lemmas.List.{length-take, length-drop}
use Rattle.op_pack.proofs.PackLemmas.{fits-inv}
use Rattle.op_pack.proofs.PlaceLemmas.{below_next, word_next, opened}
use Rattle.op_pack.specs.Packing.{fits, opens}
use Rattle.op_pack.proofs.packing.+placing.Goals as goal
use Rattle.op_pack.proofs.packing.+placing.Goals.{put-then-has_immediate, put-else-has_immediate}
use Rattle.std.proofs.Math.Nat.{one-le-pow}

pub place-returns-in_default-clause-below : goal.place-returns-in_default-clause-below
place-returns-in_default-clause-below t c = one-le-pow c.args.room 128 (omega arith)

pub place-returns-then-not-opens-clause-below : goal.place-returns-then-not-opens-clause-below
place-returns-then-not-opens-clause-below t c = one-le-pow c.args.room 128 (omega arith)

pub place-returns-clause-positions : goal.place-returns-clause-positions
place-returns-clause-positions t c =
    let is : c.args.items.now ≡ c.in-Some.item.now ∷ c.in-Some.later.now = search rules in
    let tight : fits c.args.room (length c.args.positions.now) c.in-Some.item.now ≡ false = cc in
    let opening : opens (length c.args.positions.now) c.in-Some.item.now ≡ true = cc in
    let free : ℕ = length (take (length c.args.positions.now - 1) (drop 1 c.args.positions.now)) in
    let count : free ≡ length c.args.positions.now - 1 = simp (length-take, length-drop) (omega arith) in
    opened c.args.room c.args.positions.now c.place-behind.new.positions c.args.items.now c.in-Some.item.now c.in-Some.later.now free
    c.element.result is tight opening count (c.element.ensures ∙ c.place-behind.ensures.number) c.place-behind.ensures.positions

pub put-overflow_mul-result : goal.put-overflow_mul-result
put-overflow_mul-result t c =
    let some = (fits-inv c.args.room _ c.args.item.now c.requires.fits).0 in
    let small : c.if-has_immediate.behind.number < 128 ^ (c.args.room - 1) =
    elim c.if-has_immediate.branch [
      | put-then-has_immediate w ↦ rw w.behind-is w.place-behind.ensures.below
      | put-else-has_immediate
          w ↦ rw w.behind-is w.place-behind-else-has_immediate.ensures.below
    ] in
    let word = word_next c.args.room 0 c.if-has_immediate.behind.number some c.requires.room (omega arith) small in
    omega arith

pub put-overflow_add-result : goal.put-overflow_add-result
put-overflow_add-result t c =
    let some = (fits-inv c.args.room _ c.args.item.now c.requires.fits).0 in
    let small : c.if-has_immediate.behind.number < 128 ^ (c.args.room - 1) =
    elim c.if-has_immediate.branch [
      | put-then-has_immediate w ↦ rw w.behind-is w.place-behind.ensures.below
      | put-else-has_immediate
          w ↦ rw w.behind-is w.place-behind-else-has_immediate.ensures.below
    ] in
    let word = word_next c.args.room c.from.result c.if-has_immediate.behind.number some c.requires.room (omega arith) small in
    omega arith

pub put-returns-clause-below : goal.put-returns-clause-below
put-returns-clause-below t c =
    let some = (fits-inv c.args.room _ c.args.item.now c.requires.fits).0 in
    let small : c.if-has_immediate.behind.number < 128 ^ (c.args.room - 1) =
    elim c.if-has_immediate.branch [
      | put-then-has_immediate w ↦ rw w.behind-is w.place-behind.ensures.below
      | put-else-has_immediate
          w ↦ rw w.behind-is w.place-behind-else-has_immediate.ensures.below
    ] in
    below_next c.args.room c.from.result c.if-has_immediate.behind.number some (omega arith) small
