use Rattle.facts_hasher.proofs.TableLaws.{rows_show, zeros_are_rows}
use Rattle.facts_hasher.proofs.TableMeaning.{table_gives}
use Rattle.facts_hasher.proofs.laws.table_laws.Goals as goal

pub returns : goal.returns
returns c = record { zeros_are_rows = zeros_are_rows; rows_show = rows_show; gives = table_gives }
