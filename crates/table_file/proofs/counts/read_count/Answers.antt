use Rattle.table_file.proofs.Words.{sym, ◌∙◌}
use Rattle.table_file.proofs.Versions.{is_count_in}
use Rattle.table_file.proofs.counts.read_count.Goals as goal

pub returns-then-may_have_in-clause-few : goal.returns-then-may_have_in-clause-few
returns-then-may_have_in-clause-few c = (is_count_in _ _ _ (sym c.may_have_in.ensures ∙ c.if-may_have_in.true)).is.most
