-- What holds of the trace that bytes read as.
use Rattle.table_file.proofs.Words.{List, ℕ, Result, Ok, Err, IfOk, HasCounts, Trace, FileError, GivesRead, AreTables, trace_of}
use Rattle.table_file.proofs.FileLaws.{counts-may, tables-shaped}

pub read-counts : (bytes : List ℕ) (r : Result Trace FileError) → GivesRead r (trace_of bytes) → IfOk r HasCounts
read-counts bytes (Ok t) is = counts-may bytes t is
read-counts bytes (Err e) is = tt

pub read-shaped : (bytes : List ℕ) (r : Result Trace FileError) → GivesRead r (trace_of bytes) → IfOk r AreTables
read-shaped bytes (Ok t) is = tables-shaped bytes t is
read-shaped bytes (Err e) is = tt
