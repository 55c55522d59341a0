use Rattle.facts_memory.proofs.MainServes.{main_serves, pairs_main}
use Rattle.facts_memory.proofs.RowsBack.{rows_are_zero}
use Rattle.facts_memory.proofs.SortedFit.{rows_show}
use Rattle.facts_memory.proofs.ShowsLatest.{shows_latest}
use Rattle.facts_memory.proofs.TableServes.{pairs, serves}
use Rattle.facts_memory.proofs.ZerosOrder.{zeros_are_ordered, zeros_are_rows}
use Rattle.facts_memory.proofs.laws.table_laws.Goals as goal

pub returns : goal.returns
returns c =
    record {
      zeros_are_ordered = zeros_are_ordered;
      shows_latest = shows_latest;
      zeros_are_rows = zeros_are_rows;
      rows_are_zero = rows_are_zero;
      serves = serves;
      serves_main = main_serves;
      pairs = pairs;
      pairs_main = pairs_main;
      rows_show = rows_show;
    }
