use Rattle.std.proofs.Common.{◌≡◌, ◌++◌, map}
use Rattle.run_chain.specs.Reads.{named_as}
use Rattle.run_chain.proofs.NameLemmas.{lent}
use Rattle.run_chain.proofs.naming.add_names.Given as goal

-- the names so far were added
abbrev pub invariant-loop-role : goal.invariant-loop-role
invariant-loop-role l = map named_as l.seen.items ≡ map named_as l.fn.seen.items ++ map lent l.yielded
