-- Both halves are filled, and stand one behind the other.
use Rattle.fill_chips.proofs.Words.{length}
use Rattle.fill_chips.proofs.RoundLemmas.{cuts_grow, halves_filled, le_from, part_fits, first_length, second_length, piece_filled}
use Rattle.fill_chips.proofs.rounds.+halves.Goals as goal

pub fill_halves-returns-then-high-low-eq1 : goal.fill_halves-returns-then-high-low-eq1
fill_halves-returns-then-high-low-eq1 g t c =
    piece_filled c.args.permutations.now c.cut-from.result c.cut-to.result _ _ c.args.round.now c.fill.new.states c.cut-from.ensures.is c.cut-to.ensures.is
    c.fill.ensures

pub fill_halves-overflow_sub-cut : goal.fill_halves-overflow_sub-cut
fill_halves-overflow_sub-cut g t c =
    let grow = cuts_grow c.args.low c.args.high (length c.args.round.now) c.args.pieces c.requires.some c.requires.within in
    le_from c.cut-from.ensures.is c.cut.ensures.is grow.0

pub fill_halves-split_at_mut-front-requires : goal.fill_halves-split_at_mut-front-requires
fill_halves-split_at_mut-front-requires g t c =
    let grow = cuts_grow c.args.low c.args.high (length c.args.round.now) c.args.pieces c.requires.some c.requires.within in
    part_fits c.cut-from.ensures.is c.cut.ensures.is grow.0 grow.1 c.requires.room

pub fill_halves-both_halves-requires-clause-lower : goal.fill_halves-both_halves-requires-clause-lower
fill_halves-both_halves-requires-clause-lower g t c =
    let grow = cuts_grow c.args.low c.args.high (length c.args.round.now) c.args.pieces c.requires.some c.requires.within in
    λ κs h. first_length c.cut-from.ensures.is c.cut.ensures.is grow.0 c.split_at_mut-front.ensures.front_len

pub fill_halves-both_halves-requires-clause-upper : goal.fill_halves-both_halves-requires-clause-upper
fill_halves-both_halves-requires-clause-upper g t c =
    let grow = cuts_grow c.args.low c.args.high (length c.args.round.now) c.args.pieces c.requires.some c.requires.within in
    λ κs h. second_length _ c.cut-from.ensures.is c.cut.ensures.is grow.0 grow.1 c.requires.room c.split_at_mut-front.ensures.back_len

pub fill_halves-returns : goal.fill_halves-returns
fill_halves-returns g t c =
    let grow = cuts_grow c.args.low c.args.high (length c.args.round.now) c.args.pieces c.requires.some c.requires.within in
    halves_filled c.args.permutations.now _ _ _ c.args.round.now
    c.both_halves.new.lower c.both_halves.new.upper grow.0 grow.1 c.both_halves.ensures.lower c.both_halves.ensures.upper
