-- The laws of table files.
use Rattle.table_file.proofs.Words.{◌≡◌, ℕ, suc, ◌+◌, ◌*◌, ◌≤◌, Bool, true, false, cond, nat_lt, List, [], ◌∷◌, ◌++◌, length, drop, map, Result, Ok, Err}
use Rattle.table_file.proofs.Words.{refl, sym, ap, ap₂, subst, ◌∙◌, arith, ltb-false, le-ltb, drop_all, length-drop, IsTable, columns, every_table, HasCounts}
use Rattle.table_file.proofs.Words.{lengths_of, rows_of, TableName, Trace, FileError, Bad, parts_bytes, rows_at, table_bytes, AreTables, FitsVersion}
use Rattle.table_file.proofs.Words.{bytes_in, bytes_of, ended_at, head_bytes, head_of, is_version, no_rows, tables_from, this_version, trace_of, version_of}
use Rattle.table_file.proofs.Words.{with_rows}
use Rattle.air_kit.specs.declared.trace.TableName.TheVariants as table
use Rattle.table_file.specs.declared.cause.FileCause.TheVariants as cause
use Rattle.table_file.proofs.Chains.{chain}
use Rattle.table_file.proofs.NumberLaws.{AreBytes}
use Rattle.table_file.proofs.HeadLaws.{head-says, head-read}
use Rattle.table_file.proofs.TableLaws.{rows-count, rows-table, rows-written, rows-read}
use Rattle.table_file.proofs.Versions.{IsCountIn}
use Rattle.table_file.proofs.TablesByName.{Each, Rows, by_name, put, put_all}

-- a table has its columns
abbrev Shaped : TableName → Rows → Type 0
Shaped name rows = IsTable (columns name) rows

ends : (past : Bool) (e : FileError) (r : Result Trace FileError) (x t : Trace) → r ≡ Ok x → cond past (Err e) r ≡ Ok t → (past ≡ false) × (x ≡ t)
ends true e r x t is h = cc
ends false e r x t is h = (refl, cc)

module _ (bytes : List ℕ) where
  -- tables that read well from a place on, where they were put behind the rows of a trace
  record TablesSay (names : List TableName) (counts : List ℕ) (at : ℕ) (t0 t : Trace) : Type 0 where
    tables : List Rows
    each : length tables ≡ length names
    are : put names tables t0 ≡ t
    lengths : map length tables ≡ counts
    shapes : Each Shaped names tables
    written : AreBytes bytes → parts_bytes table_bytes tables ≡ drop at bytes

  tables-say : (names : List TableName) (counts : List ℕ) (at : ℕ) (t0 t : Trace) → length counts ≡ length names
      → tables_from bytes names counts at t0 ≡ Ok t → TablesSay names counts at t0 t
  unfolding tables_from ended_at parts_bytes
  tables-say [] [] at t0 t each is =
      let h = ends (nat_lt at (length bytes)) (Bad at cause.Extra) (Ok t0) t0 t refl is in
      record {
        tables = [];
        each = refl;
        are = h.1;
        lengths = refl;
        shapes = tt;
        written = λ low. sym (drop_all at bytes (ltb-false at (length bytes) h.0));
      }
  tables-say [] (count ∷ counts) at t0 t each is = absurd (omega (arith, each))
  tables-say (name ∷ names) [] at t0 t each is = absurd (omega (arith, each))
  tables-say (name ∷ names) (count ∷ counts) at t0 t each is =
      let w = columns name in
      let a = chain (rows_at bytes w count at) t _ is in
      let rest = tables-say names counts (at + 8 * w * count) (with_rows name (rows_of t0 name ++ a.0) t0) t (omega (arith, each)) a.2 in
      record {
        tables = a.0 ∷ rest.tables;
        each = ap suc rest.each;
        are = rest.are;
        lengths = ap₂ (λ (n : ℕ) (ns : List ℕ). n ∷ ns) (rows-count bytes w count at a.0 a.1) rest.lengths;
        shapes = (rows-table bytes w count at a.0 a.1, rest.shapes);
        written = λ low. ap (λ (bs : List ℕ). table_bytes a.0 ++ bs) (rest.written low) ∙ rows-written bytes low w count at a.0 a.1;
      }

  -- what a file says of its trace
  record TraceSays (t : Trace) : Type 0 where
    version : is_version (version_of bytes) ≡ true
    counts : Each (IsCountIn (version_of bytes)) every_table (lengths_of t)
    shapes : Each Shaped every_table (map (rows_of t) every_table)
    written : AreBytes bytes → head_bytes (version_of bytes) (lengths_of t) ++ parts_bytes table_bytes (map (rows_of t) every_table) ≡ bytes

  trace-says : (t : Trace) → trace_of bytes ≡ Ok t → TraceSays t
  unfolding trace_of
  trace-says t e =
      let h = chain (head_of bytes) t (λ counts. tables_from bytes every_table counts 36 no_rows) e in
      let head = head-says bytes h.0 h.1 in
      let say = tables-say every_table h.0 36 no_rows t head.counted.each h.2 in
      let same : say.tables ≡ map (rows_of t) every_table = sym (put_all say.tables say.each) ∙ ap (λ (x : Trace). map (rows_of x) every_table) say.are in
      let counts : h.0 ≡ lengths_of t = sym say.lengths ∙ ap (map length) same in
      record {
        version = head.version;
        counts = subst (Each (IsCountIn (version_of bytes)) every_table) counts head.counted.may;
        shapes = subst (Each Shaped every_table) same say.shapes;
        written = λ low.
            ap₂ (λ (ns : List ℕ) (ts : List Rows). head_bytes (version_of bytes) ns ++ parts_bytes table_bytes ts) (sym counts) (sym same)
            ∙ ap (λ (bs : List ℕ). head_bytes (version_of bytes) h.0 ++ bs) (say.written low) ∙ head.written low;
      }

  pub tables-shaped : (t : Trace) → trace_of bytes ≡ Ok t → AreTables t
  tables-shaped t e = by_name Shaped (rows_of t) (trace-says t e).shapes

  counted : (t : Trace) → trace_of bytes ≡ Ok t → (name : TableName) → IsCountIn (version_of bytes) name (length (rows_of t name))
  counted t e = by_name (IsCountIn (version_of bytes)) (λ name. length (rows_of t name)) (trace-says t e).counts

  pub counts-may : (t : Trace) → trace_of bytes ≡ Ok t → HasCounts t
  counts-may t e name = (counted t e name).is

  pub fits-version : (t : Trace) → trace_of bytes ≡ Ok t → FitsVersion (version_of bytes) t
  fits-version t e name = (counted t e name).fits

  pub says-version : (t : Trace) → trace_of bytes ≡ Ok t → is_version (version_of bytes) ≡ true
  says-version t e = (trace-says t e).version

  -- the bytes of a good file are its trace's, in the version that they say
  pub one-spelling : AreBytes bytes → (t : Trace) → trace_of bytes ≡ Ok t → bytes ≡ bytes_in (version_of bytes) t
  unfolding bytes_in parts_bytes
  one-spelling low t e = sym ((trace-says t e).written low)

  tables-read : (t : Trace) → AreTables t → (names : List TableName) (at : ℕ) (t0 : Trace)
      → drop at bytes ≡ parts_bytes (λ name. table_bytes (rows_of t name)) names
      → tables_from bytes names (map (λ name. length (rows_of t name)) names) at t0 ≡ Ok (put names (map (rows_of t) names) t0)
  unfolding tables_from ended_at parts_bytes
  tables-read t shaped [] at t0 is =
      let whole : length bytes ≤ at = omega (arith, ap length is, length-drop at bytes) in
      rw (le-ltb at (length bytes) whole) refl
  tables-read t shaped (name ∷ names) at t0 is =
      let one =
      rows-read bytes (columns name) at (rows_of t name) (parts_bytes (λ other. table_bytes (rows_of t other)) names) (shaped name) is in
      rw one.0
      (tables-read t shaped names (at + 8 * columns name * length (rows_of t name)) (with_rows name (rows_of t0 name ++ rows_of t name) t0) one.1)

-- a file whose head and tables are those of a trace reads as it
read-parts : (version : ℕ) (bytes : List ℕ) (t : Trace) → is_version version ≡ true → FitsVersion version t → HasCounts t → AreTables t
    → bytes ≡ bytes_in version t → trace_of bytes ≡ Ok t
unfolding bytes_in trace_of
read-parts version bytes t good fits has shaped is =
    let head =
    head-read bytes version (λ name. length (rows_of t name)) (λ name. record { is = has name; fits = fits name }) good
    (parts_bytes (λ name. table_bytes (rows_of t name)) every_table) is in
    rw head.0 (tables-read bytes t shaped every_table 36 no_rows head.1)

pub versions-read : (version : ℕ) (t : Trace) → is_version version ≡ true → FitsVersion version t → HasCounts t → AreTables t
    → trace_of (bytes_in version t) ≡ Ok t
versions-read version t good fits has shaped = read-parts version (bytes_in version t) t good fits has shaped refl

-- this version has no limits of its own
fits-this : (t : Trace) → HasCounts t → FitsVersion this_version t
fits-this t has table.Main = (has table.Main).most
fits-this t has table.Range = (has table.Range).most
fits-this t has table.Hasher = (has table.Hasher).most
fits-this t has table.Bitwise = (has table.Bitwise).most
fits-this t has table.Memory = (has table.Memory).most
fits-this t has table.Kernel = (has table.Kernel).most
fits-this t has table.Left = (has table.Left).most

pub read-back : (t : Trace) → HasCounts t → AreTables t → trace_of (bytes_of t) ≡ Ok t
read-back t has shaped = versions-read this_version t refl (fits-this t has) has shaped
