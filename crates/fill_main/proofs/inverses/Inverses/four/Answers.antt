use Rattle.fill_main.proofs.inverses.Inverses.four.Goals as goal

-- each write keeps what is kept right
pub invariant_of-self : goal.invariant_of-self
invariant_of-self c = record {
  slots_right = c.keep-4.ensures (c.keep-3.ensures (c.keep-2.ensures (c.keep.ensures c.args.self.now.slots_right)));
}
