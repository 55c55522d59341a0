use Rattle.fill_chips.proofs.Words.{◌≤◌, ◌<◌, length, arith}
use Rattle.fill_chips.proofs.RoundLemmas.{round_room, whole_round}
use Rattle.fill_chips.proofs.hasher.add_round.Goals as goal

pub fill_halves-requires-clause-room : goal.fill_halves-requires-clause-room
fill_halves-requires-clause-room g c =
    let some = c.requires.pieces.0 in
    let few : 0 < c.args.pieces = omega (arith, some) in
    let fits : length c.args.round.now ≤ length c.as_mut_slice.result.now = omega (arith, c.requires.room, c.as_mut_slice.ensures.len) in
    λ κs h. round_room c.args.pieces (length c.args.round.now) c.as_mut_slice.result.now few fits

pub returns-clause-rows : goal.returns-clause-rows
returns-clause-rows g c =
    let some = c.requires.pieces.0 in
    let few : 0 < c.args.pieces = omega (arith, some) in
    c.push_permutations.ensures.rows c.args.permutations.now
    (whole_round c.args.permutations.now c.args.pieces c.args.round.now _ few c.fill_halves.ensures)
