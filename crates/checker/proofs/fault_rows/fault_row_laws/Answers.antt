use Rattle.checker.proofs.FaultRowLemmas.{each_is_of_row, each_row_is_there, first_is_first, none_where_zero, rows_joined}
use Rattle.checker.proofs.fault_rows.fault_row_laws.Goals as goal

pub returns-clause-none : goal.returns-clause-none
returns-clause-none c = none_where_zero

pub returns-clause-first : goal.returns-clause-first
returns-clause-first c = first_is_first

pub returns-clause-members : goal.returns-clause-members
returns-clause-members c = each_is_of_row

pub returns-clause-rows : goal.returns-clause-rows
returns-clause-rows c = each_row_is_there

pub returns-clause-follow : goal.returns-clause-follow
returns-clause-follow c = rows_joined
