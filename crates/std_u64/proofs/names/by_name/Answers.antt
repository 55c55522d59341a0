use Rattle.std_u64.proofs.NameLemmas.{named}
use Rattle.std_u64.proofs.names.by_name.Goals as goal

pub returns : goal.returns
returns c = λ procedure. rw c.find.ensures (named c.args.name.now procedure)
