use Rattle.std_u64.proofs.LibraryLemmas.{has, lists, names_mean_operations, plain}
use Rattle.std_u64.proofs.laws.library_laws.Goals as goal

pub returns : goal.returns
returns c = record { has = has; lists = lists; means = names_mean_operations; plain = plain }
