use Rattle.std.proofs.Common.{◌≡◌, ◌∷◌, ◌++◌, drop}
use Rattle.complete_rows.specs.RunRequests.{chain, hash_perms}
use Rattle.fill_requests.proofs.perms.push_hash.Given as goal

abbrev pub invariant-loop-i : goal.invariant-loop-i
invariant-loop-i l = record {
  perms :
      l.perms ++ chain l.fn.permutations l.state l.going (l.block ∷ drop l.i l.later)
      ≡ l.fn.perms ++ hash_perms l.fn.permutations l.fn.domain (l.first ∷ l.later);
  same : l.permutations ≡ l.fn.permutations;
}
