use Rattle.tree_hash.proofs.batch.ReadBatch.of.Goals as goal

pub invariant_of-result : goal.invariant_of-result
invariant_of-result c = record {
  read = c.in_ok-unpack.ensures.is;
  is_batch = record { size = c.told-elements; below = c.known_elements.ensures };
}
