use Rattle.fill_chips.proofs.Words.{All, subst, IsSmallAccess}
use Rattle.std.proofs.lemmas.List.Sorted.{All-permutation, IsPermutation-sym}
use Rattle.fill_chips.proofs.AccessLemmas.{if_ok_then}
use Rattle.fill_chips.proofs.memory.memory_table.Goals as goal

pub returns-clause-small : goal.returns-clause-small
returns-clause-small c =
    let accesses = c.args.accesses.now in
    let sorted = c.in_ok-sorted.sorted.items in
    if_ok_then c.table_of.result (λ table small.
    All-permutation IsSmallAccess sorted accesses (IsPermutation-sym accesses sorted c.in_ok-sorted.ensures.same)
    (subst (All IsSmallAccess) c.as_slice.ensures.value small)) c.table_of.ensures.small
