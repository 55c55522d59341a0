use Rattle.fill_chips.proofs.Words.{◌*◌, ◌<◌, ◌≤◌, ◌++◌, ◌-◌, ◌∙◌, All, drop, length, take, sym, subst, ap, arith, take_all, All-append, All-nil}
use Rattle.fill_chips.proofs.Words.{IsState, rows_of_perms}
use Rattle.fill_chips.proofs.PermLemmas.{rows-append}
use Rattle.fill_chips.proofs.RoundLemmas.{round_more}
use Rattle.fill_chips.proofs.hasher.hasher_table.Goals as goal

pub loop-k-init : goal.loop-k-init
unfolding rows_of_perms
loop-k-init g c = record {
  rows = c.reserve.ensures ∙ c.new-table.ensures.empty;
  states = All-nil (λ p. IsState p.start);
  room = c.in_ok-resize.ensures.len ∙ c.min.ensures;
}

pub loop-k-preserved : goal.loop-k-preserved
loop-k-preserved g c =
    let constants = c.args.permutations.now in
    let perms = c.args.perms.now in
    let k = c.loop-k.k in
    let inside : k * 1024 < length perms = omega arith in
    let more = round_more k c.min-to.result perms inside c.min-to.ensures in
    let round = take (c.min-to.result - k * 1024) (drop (k * 1024) perms) in
    record {
      rows =
          c.in_ok-add_round.ensures.rows ∙ ap (λ rows. rows ++ rows_of_perms constants round) c.loop-k.invariant.rows
          ∙ sym (rows-append constants (take (k * 1024) perms) round) ∙ ap (rows_of_perms constants) (sym more);
      states =
          subst (All (λ p. IsState p.start)) (sym more)
          (All-append (λ p. IsState p.start) (take (k * 1024) perms) round c.loop-k.invariant.states c.in_ok-add_round.ensures.states);
      room = c.add_round.ensures.room ∙ c.loop-k.invariant.room;
    }

pub returns-clause-rows : goal.returns-clause-rows
returns-clause-rows g c =
    let perms = c.args.perms.now in
    let all : length perms ≤ c.loop-k.k * 1024 = omega arith in
    c.loop-k.invariant.rows ∙ ap (rows_of_perms c.args.permutations.now) (take_all (c.loop-k.k * 1024) perms all)

pub returns-clause-states : goal.returns-clause-states
returns-clause-states g c =
    let perms = c.args.perms.now in
    let all : length perms ≤ c.loop-k.k * 1024 = omega arith in
    subst (All (λ p. IsState p.start)) (take_all (c.loop-k.k * 1024) perms all) c.loop-k.invariant.states
