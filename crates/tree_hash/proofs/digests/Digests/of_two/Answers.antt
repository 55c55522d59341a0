use Rattle.tree_hash.proofs.digests.Digests.of_two.Goals as goal

pub returns-clause-digest : goal.returns-clause-digest
returns-clause-digest c = rw (c.domain_of.ensures, c.pair.ensures) at c.of.ensures.digest
