use Rattle.facts_bitwise.proofs.Given.{rows_give}
use Rattle.facts_bitwise.proofs.TableLaws.{means, rows_show, shape}
use Rattle.facts_bitwise.proofs.ZerosAreRows.{zeros_are_rows}
use Rattle.facts_bitwise.proofs.laws.table_laws.Goals as goal

pub returns : goal.returns
returns c = record { zeros_are_rows = zeros_are_rows; rows_show = rows_show; gives = rows_give; means = means; shape = shape }
