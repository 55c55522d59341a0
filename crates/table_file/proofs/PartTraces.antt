-- A trace that is read row by row: what each step leaves of the file.
use Rattle.table_file.proofs.Words.{◌≡◌, ℕ, suc, ◌+◌, ◌*◌, ◌<◌, ◌≤◌, ◌-◌, List, [], ◌∷◌, ◌++◌, drop, take, get_or, set, length, Result, Ok, Err, refl, sym}
use Rattle.table_file.proofs.Words.{ap, ap₂, subst, ◌∙◌, arith, append_assoc, append-nil, le-ltb, lt-ltb, drop-set, drop_all, drop_more, length-append}
use Rattle.table_file.proofs.Words.{length-drop, columns, every_table, rows_of, TableName, Trace, FileError, Bad, Memory, PartTrace, GivesRead, behind}
use Rattle.table_file.proofs.Words.{parts_at, row_at, rows_at, ended_at, tables_from, with_rows, ReadsRows, StandsAt, rest_of}
use Rattle.table_file.specs.declared.cause.FileCause.TheVariants as cause
use Rattle.table_file.proofs.Chains.{bad-read}
use Rattle.table_file.proofs.Going.{parts_stop}
use Rattle.table_file.proofs.TablesByName.{Rows, name_at, rows_behind, rows_same, tables_at}

-- a refusal stays one, whatever was to follow
refused : {A B : Type 0} (e : FileError) (r : Result A FileError) (next : A → Result B FileError) → GivesRead (Err e) r
    → GivesRead (Err e) (behind r next)
refused (Bad at why) r next is = ap (λ o. behind o next) is
refused Memory r next is = tt

-- what follows goes on behind the rows that were read
further : (first rest : Result Rows FileError) (rows : Rows) (next later : Rows → Result Trace FileError)
    → behind rest (λ more. Ok (rows ++ more)) ≡ first
    → ((more : Rows) → next (rows ++ more) ≡ later more) → behind first next ≡ behind rest later
further first rest rows next later is same = ap (λ r. behind r next) (sym is) ∙ go rest
  where
    go : (r : Result Rows FileError) → behind (behind r (λ more. Ok (rows ++ more))) next ≡ behind r later
    go (Ok more) = same more
    go (Err e) = refl

module _ (all : List ℕ) (names : List TableName) (name : TableName) (counts : List ℕ) (at : ℕ) (t : Trace) where
  -- no row of a table is to come
  skip : tables_from all (name ∷ names) (0 ∷ counts) at t ≡ tables_from all names counts at t
  unfolding tables_from parts_at
  skip =
      let here : at + 8 * columns name * 0 ≡ at = omega arith in
      ap₂ (tables_from all names counts) here (ap (λ (rows : Rows). with_rows name rows t) (append-nil (rows_of t name)) ∙ rows_same t name)

  -- rows of it were read: the rest goes on behind them
  step : (bytes : List ℕ) (before after : ℕ) (new : Rows) (count : ℕ) → ReadsRows (columns name) at bytes before after (rows_of t name) new count
      → StandsAt all at (take count bytes)
      → tables_from all (name ∷ names) (before ∷ counts) at t ≡ tables_from all (name ∷ names) (after ∷ counts) (at + count) (with_rows name new t)
  unfolding tables_from
  step bytes before after new count r stands =
      let w = columns name in
      let place : at + 8 * w * before ≡ at + count + 8 * w * after = (let used = r.place in omega (arith, used)) in
      further (rows_at all w before at) (rows_at all w after (at + count)) r.rows _ _ (r.goes all stands)
      (λ more. ap₂ (tables_from all names counts) place
      (ap (λ (rows : Rows). with_rows name rows t)
      (sym (append_assoc (rows_of t name) r.rows more) ∙ ap (λ (rows : Rows). rows ++ more) (sym r.table))
      ∙ sym (rows_behind new more t name)))

  stop : (count : ℕ) (e : FileError) → GivesRead (Err e) (rows_at all (columns name) count at)
      → GivesRead (Err e) (tables_from all (name ∷ names) (count ∷ counts) at t)
  unfolding tables_from
  stop count e is = refused e (rows_at all (columns name) count at) _ is

-- no table is to come
none : (all : List ℕ) (counts : List ℕ) (at : ℕ) (t : Trace) → tables_from all [] counts at t ≡ ended_at all at t
unfolding tables_from
none all counts at t = refl

module _ (p : PartTrace) (each : length p.left ≡ 7) (h : p.table < 7) where
  abbrev name : TableName
  name = name_at p.table

  abbrev left : ℕ
  left = get_or p.left p.table 0

  abbrev names : List TableName
  names = drop (p.table + 1) every_table

  abbrev later : List ℕ
  later = drop (p.table + 1) p.left

  counts : drop p.table p.left ≡ left ∷ later
  counts = drop_more p.left p.table 0 (omega (arith, each, h))

  rest : (all : List ℕ) → rest_of all p ≡ tables_from all (name ∷ names) (left ∷ later) p.at p.trace
  rest all = ap₂ (λ (ns : List TableName) (cs : List ℕ). tables_from all ns cs p.at p.trace) (tables_at p.table h) counts

  -- a table of which no row is to come is passed
  pub passes : left ≡ 0 → (all : List ℕ) → rest_of all p ≡ rest_of all (record p { table = p.table + 1 })
  passes empty all =
      rest all ∙ ap (λ (n : ℕ). tables_from all (name ∷ names) (n ∷ later) p.at p.trace) empty
      ∙ skip all names name later p.at p.trace

  module _ (bytes : List ℕ) (after : ℕ) (t : Trace) (count : ℕ) (same : t ≡ with_rows name (rows_of t name) p.trace)
      (r : ReadsRows (columns name) p.at bytes left after (rows_of p.trace name) (rows_of t name) count) where
    abbrev new : PartTrace
    new = record { trace = t; left = set p.left p.table after; table = p.table; at = p.at + count }

    counts_new : drop p.table (set p.left p.table after) ≡ after ∷ later
    counts_new = drop-set p.left p.table after (omega (arith, each, h))

    pub reads : (all : List ℕ) → StandsAt all p.at (take count bytes) → rest_of all p ≡ rest_of all new
    reads all stands =
        rest all ∙ step all names name later p.at p.trace bytes left after (rows_of t name) count r stands
        ∙ ap (tables_from all (name ∷ names) (after ∷ later) (p.at + count)) (sym same)
        ∙ sym (ap₂ (λ (ns : List TableName) (cs : List ℕ). tables_from all ns cs (p.at + count) t) (tables_at p.table h) counts_new)

  pub row_stops : (e : FileError) (all : List ℕ) → GivesRead (Err e) (rows_at all (columns name) left p.at) → GivesRead (Err e) (rest_of all p)
  row_stops e all is = subst (GivesRead (Err e)) (sym (rest all)) (stop all names name later p.at p.trace left e is)

  -- the file ends within a row
  pub cut : (rest : List ℕ) (e : FileError) → 1 ≤ left → length rest < 8 * columns name → (all : List ℕ)
      → ((width : ℕ) → length rest < 8 * width → row_at all width p.at ≡ Err e) → GivesRead (Err e) (rest_of all p)
  cut rest e some short all none =
      let w = columns name in
      let one : left ≡ suc (left - 1) = omega (arith, some) in
      row_stops e all (bad-read (rows_at all w left p.at) e
      (ap (λ (n : ℕ). rows_at all w n p.at) one ∙ parts_stop (row_at all w) (8 * w) (left - 1) p.at e (none w short)))

module _ (p : PartTrace) (past : 7 ≤ p.table) (all : List ℕ) where
  rest_past : rest_of all p ≡ ended_at all p.at p.trace
  rest_past =
      ap (λ (ns : List TableName). tables_from all ns (drop p.table p.left) p.at p.trace) (drop_all p.table every_table past)
      ∙ none all (drop p.table p.left) p.at p.trace

  -- bytes stand behind the last row
  pub extra : (bytes : List ℕ) → 1 ≤ length bytes → StandsAt all p.at bytes → GivesRead (Err (Bad p.at cause.Extra)) (rest_of all p)
  unfolding ended_at
  extra bytes some stands =
      let whole = ap length stands.1 ∙ length-append bytes stands.0 in
      let behind : p.at < length all = omega (arith, whole, length-drop p.at all, some) in
      rest_past ∙ rw (lt-ltb p.at (length all) behind) refl

  -- the file ends behind its last row
  pub ended : (rest : List ℕ) → length rest < 1 → drop p.at all ≡ rest → GivesRead (Ok p.trace) (rest_of all p)
  unfolding ended_at
  ended rest short is =
      let whole : length all ≤ p.at = omega (arith, ap length is, length-drop p.at all, short) in
      rest_past ∙ rw (le-ltb p.at (length all) whole) refl
