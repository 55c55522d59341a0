-- The words that the proofs of this crate have in common.
pub use Rattle.std.proofs.Common.{All, Bool, Err, IfOk, IsTrue, List, None, Ok, Option, Result, Some, [], ap, append-nil, append_assoc, ap₂, arith, codes}
pub use Rattle.std.proofs.Common.{cond, drop, false, flat_map, get_or, inl, inr, length, lit<, ltb, map, nat_le, nat_lt, refl, set, slice_get, subst, suc}
pub use Rattle.std.proofs.Common.{sym, take, true, unwrap_or, zero, ℕ, ◌%◌, ◌&&◌, ◌*◌, ◌++◌, ◌+◌, ◌-◌, ◌/◌, ◌<◌, ◌==◌, ◌^◌, ◌∙◌, ◌∷◌, ◌≡◌, ◌≤◌, ◌⊎◌}
pub use Rattle.std.proofs.Math.Seq.{drop-append_seam, drop-cons, take-add, take-append_seam, take-suc-set}
pub use Rattle.std.proofs.lemmas.Bool.{and_parts, cases_lt, eqb-true, false≢true, le-leb, le-ltb, leb-true, lt-ltb, ltb-false, ltb-true, ne_eqb, or_cases}
pub use Rattle.std.proofs.lemmas.List.{drop-append-le, drop-drop, drop-set, drop_all, drop_more, get_or-map, get_or_past, length-append, length-drop}
pub use Rattle.std.proofs.lemmas.List.{length-replicate, length-take-le, nil_from_length, take-append-drop, take_all, take_more, take_more_set, take_rest}
pub use Rattle.std.proofs.lemmas.Result.{err_from_is_err_and}
pub use Rattle.std.specs.Option.{is_some}
pub use Rattle.air_kit.specs.Tables.{columns, every_table}
pub use Rattle.air_kit.specs.Traces.{HasCounts, IsCount, lengths_of, most_rows, rows_of}
pub use Rattle.air_kit.specs.declared.trace.TableName.{TableName}
pub use Rattle.air_kit.specs.declared.trace.Trace.{Trace}
pub use Rattle.byteorder.specs.Endian.{little_bytes, little_number}
pub use Rattle.byteorder.specs.Numbers.{length-bytes_low_first, little_from-cons, little_from-take, little_number-reads_back}
pub use Rattle.table_file.specs.Fields.{GivesRead, behind, element_at, row_at, row_bytes, rows_at, table_bytes}
unfoldable pub use Rattle.table_file.specs.Fields.{number_at, parts_at, parts_bytes}
pub use Rattle.table_file.specs.Files.{AreTables, FitsVersion, bytes_of, count_at, count_bytes, first_version, is_version, magic, most_in, no_rows}
pub use Rattle.table_file.specs.Files.{this_version, version_of, with_rows}
unfoldable pub use Rattle.table_file.specs.Files.{bytes_in, counts_at, ended_at, head_bytes, head_of, may_have_in, tables_from, trace_of}
unfoldable pub use Rattle.table_file.specs.Left.{left_of, rows_left}
pub use Rattle.table_file.specs.Reading.{Advances, GoesFurther, HasRead, HasTaken, IsMissing, IsReady, PlacesAreSmall, Reader, ReadsBehind, ReadsRows}
pub use Rattle.table_file.specs.Reading.{StandsAt, rest_of, row_sizes, wanted}
pub use Rattle.table_file.specs.declared.cause.FileCause.{FileCause}
pub use Rattle.table_file.specs.declared.cause.FileError.{FileError}
pub use Rattle.table_file.specs.declared.cause.FileError.TheVariants.{Bad, Memory}
pub use Rattle.table_file.specs.declared.part_trace.PartTrace.{PartTrace}
pub use Rattle.vm_field.specs.Field.{prime}
pub use Rattle.vm_table.specs.Layout.{IsTable}
